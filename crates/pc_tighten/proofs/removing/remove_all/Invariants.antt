use Rattle.std.proofs.Common.{length}
use Rattle.pc_machine.specs.MachineCode.{rows_of}
use Rattle.pc_tighten.specs.models.Gotos.{RowsShrink}
use Rattle.pc_tighten.proofs.removing.remove_all.Given as goal

abbrev pub invariant-loop : goal.invariant-loop
invariant-loop l = RowsShrink (rows_of l.fn.rows.items) (rows_of l.rows.items)

abbrev pub decreases-loop : goal.decreases-loop
decreases-loop l = length (rows_of l.rows.items)
