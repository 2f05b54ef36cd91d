use Rattle.pc_machine.specs.MachineCode.{rows_of}
use Rattle.pc_settled.specs.models.Found.{AreNeeded}
use Rattle.pc_settled.proofs.liveness.round.Given as goal

-- what is listed is needed
abbrev pub invariant-loop-row : goal.invariant-loop-row
invariant-loop-row l = AreNeeded (rows_of l.rows) l.live
