use Rattle.std.proofs.Common.{◌≡◌, drop, length}
use Rattle.pc_window.specs.models.Listing.{and_names}
use Rattle.pc_renumber.specs.models.Numbering.{AreNumbers}
use Rattle.pc_renumber.proofs.names.add_parameters.Given as goal

-- the rest of the parameters, put behind, come to what all come to
abbrev pub invariant-loop-at : goal.invariant-loop-at
invariant-loop-at l = record {
  as_many : length l.numbers ≡ length l.initial.numbers;
  numbered : AreNumbers l.numbers l.names;
  same : and_names l.initial.names l.parameters ≡ and_names l.names (drop l.at l.parameters);
}
