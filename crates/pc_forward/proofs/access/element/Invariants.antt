use Rattle.std.proofs.Common.{◌≤◌, length}
use Rattle.pc_forward.proofs.Elements.{NoneFrom}
use Rattle.pc_forward.proofs.access.element.Given as goal

-- no later access decides
abbrev pub invariant-loop-place : goal.invariant-loop-place
invariant-loop-place l = record { few : l.place ≤ length l.accesses; none : NoneFrom l.accesses l.array l.index l.place }

abbrev pub decreases-loop-place : goal.decreases-loop-place
decreases-loop-place l = l.place
