use Rattle.pc_machine.specs.MachineCode.{rows_of}
use Rattle.pc_settled.specs.models.Holding.{IsFound}
use Rattle.pc_settled.proofs.Holding.{SettledBelow}
use Rattle.pc_settled.proofs.settling.are_settled.Given as goal

-- the rows so far are settled
abbrev pub invariant-loop-at : goal.invariant-loop-at
invariant-loop-at l = IsFound (rows_of l.rows) l.found → SettledBelow (rows_of l.rows) l.at
