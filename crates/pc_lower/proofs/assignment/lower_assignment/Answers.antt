use Rattle.std.proofs.Common.{arith}
use Rattle.pc_lower.proofs.Fills.{lays_as}
use Rattle.pc_lower.proofs.assignment.lower_assignment.Goals as goal

pub returns-in-None-Some : goal.returns-in-None-Some
returns-in-None-Some c = rw (c.in-None-Some.is-0, c.in-None-Some.is-1) (lays_as _ _ c.lower_compound.ensures (omega arith) (λ nodes h. h))

pub returns-in-Some-None : goal.returns-in-Some-None
returns-in-Some-None c = rw (c.in-Some-None.is-0, c.in-Some-None.is-1) (rw c.element-element.ensures at c.lower_store.ensures)

pub returns-in-Some-Some : goal.returns-in-Some-Some
returns-in-Some-Some c = rw (c.in-Some-Some.is-0, c.in-Some-Some.is-1) (rw c.element-element-in-Some-Some.ensures at c.lower_update.ensures)
