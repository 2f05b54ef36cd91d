use Rattle.std.proofs.Common.{◌≡◌, drop}
use Rattle.pc_fill.specs.models.Places.{known_in}
use Rattle.pc_fill.specs.models.Known.{with_names}
use Rattle.pc_fill.proofs.known.mark_names.Given as goal

-- the rest of the names, marked, is all of them, marked
abbrev pub invariant-loop-at : goal.invariant-loop-at
invariant-loop-at l = with_names l.names (known_in l.initial.table) ≡ with_names (drop l.at l.names) (known_in l.table)
