-- What holds of every machine's fields.
use Rattle.std.specs.Prelude.{◌≡◌, ◌<◌, length}
use Rattle.pc_machine.specs.MachineCode.{code_of}
use Rattle.pc_machine.specs.WellFormed.{WellFormed}
use Rattle.pc_vm.specs.declared.machine.Machine.TheInside.{Inside}
use Rattle.pc_vm.specs.models.Made.{lengths_of}
use Rattle.pc_vm.specs.models.Planned.{nothing_planned}
use Rattle.pc_machine.specs.Registers.{most_registers}

-- the code is well formed, has the row that comes next and arrays of the lengths that are held; all registers are there,
-- and nothing is planned between cycles
pub record IsSound (machine : Inside) : Type 0 where
  pub well : WellFormed (code_of machine.code)
  pub row : machine.row < length machine.code.rows
  pub registers : length machine.values.registers ≡ most_registers
  pub lengths : lengths_of machine.values.cells ≡ machine.code.arrays
  pub planned : machine.pending ≡ nothing_planned
