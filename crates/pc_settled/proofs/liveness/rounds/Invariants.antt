use Rattle.pc_machine.specs.MachineCode.{rows_of}
use Rattle.pc_settled.specs.models.Found.{AreNeeded}
use Rattle.pc_settled.proofs.liveness.rounds.Given as goal

-- what is listed is needed
abbrev pub invariant-loop-turn : goal.invariant-loop-turn
invariant-loop-turn l = AreNeeded (rows_of l.rows) l.live
