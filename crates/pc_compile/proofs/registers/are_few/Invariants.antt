use Rattle.std.proofs.Common.{◌≡◌, drop}
use Rattle.std.specs.List.{list_all}
use Rattle.pc_machine.specs.MachineCode.{rows_of}
use Rattle.pc_machine.specs.Registers.{few_registers}
use Rattle.pc_compile.specs.Registers.{row_below}
use Rattle.pc_compile.proofs.registers.are_few.Given as goal

abbrev pub invariant-loop-row : goal.invariant-loop-row
invariant-loop-row l = list_all (row_below few_registers) (rows_of (drop l.row-index l.rows)) ≡ list_all (row_below few_registers) (rows_of l.rows)
