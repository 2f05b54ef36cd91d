use Rattle.std.proofs.Common.{◌≡◌, drop, length}
use Rattle.pc_renumber.specs.models.Numbering.{and_forms}
use Rattle.pc_renumber.proofs.variables.mark_forms.Given as goal

-- the rest of the forms marks what all mark
abbrev pub invariant-loop-at : goal.invariant-loop-at
invariant-loop-at l = record {
  as_many : length l.marks ≡ length l.initial.marks;
  same : and_forms l.forms l.initial.marks ≡ and_forms (drop l.at l.forms) l.marks;
}
