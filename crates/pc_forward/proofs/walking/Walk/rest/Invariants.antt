use Rattle.pc_forward.specs.models.Walking.{Walked, StaysDone, weight}
use Rattle.pc_forward.proofs.walking.Walk.rest.Given as goal

-- the walk so far
abbrev pub invariant-loop-at : goal.invariant-loop-at
invariant-loop-at l = record { walked : Walked l.flow l.self.left l.self.nodes l.self.waiting; still : StaysDone l.initial.self.left l.self.left }

abbrev pub decreases-loop-at : goal.decreases-loop-at
decreases-loop-at l = weight l.self.left l.self.waiting
