use Rattle.pc_machine.specs.MachineCode.{rows_of}
use Rattle.pc_recolor.specs.models.Recoloring.{AreNamed}
use Rattle.pc_recolor.proofs.naming.are_named_in_order.Given as goal

-- the rows that are named so far are reachable, those that were seen among them
abbrev pub invariant-loop-number : goal.invariant-loop-number
invariant-loop-number l = AreNamed (rows_of l.rows) l.number l.known
