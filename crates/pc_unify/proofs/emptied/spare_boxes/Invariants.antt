use Rattle.std.proofs.Common.{◌≡◌, length}
use Rattle.pc_unify.proofs.emptied.spare_boxes.Given as goal

-- so many boxes so far
abbrev pub invariant-loop-at : goal.invariant-loop-at
invariant-loop-at l = length l.boxes.items ≡ l.at
