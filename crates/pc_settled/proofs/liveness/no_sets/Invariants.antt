use Rattle.std.proofs.Common.{List}
use Rattle.pc_machine.specs.MachineCode.{CodeRow}
use Rattle.pc_settled.specs.models.Found.{AreNeeded}
use Rattle.pc_settled.proofs.liveness.no_sets.Given as goal

-- no register is listed so far
abbrev pub invariant-loop-row : goal.invariant-loop-row
invariant-loop-row l = (rows : List CodeRow) → AreNeeded rows l.live.items
