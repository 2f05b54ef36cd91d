-- Laws of renamed codes. Each is a clause of a function of laws.rt, which does nothing.
use Rattle.std.specs.Prelude.{ℕ, ℤ, ◌≡◌, ◌≤◌, List}
use Rattle.std.specs.List.{AllByRecursion}
use Rattle.pc_machine.specs.MachineCode.{RowCode}
use Rattle.pc_machine.specs.MachineRun.{machine_run}
use Rattle.pc_machine.specs.WellFormed.{WellFormed}
use Rattle.pc_machine.specs.Registers.{most_registers}
use Rattle.pc_renaming.specs.Renaming.{Renaming}
use Rattle.pc_renaming.specs.IsRenamed.{IsRenamed}
use Rattle.pc_renaming.specs.Writes.{RowWritesBelow}

-- a renamed code shows what the code before shows, on every input and after every number of cycles, faults too
abbrev pub RenamingKeepsTheRun : Type 0
RenamingKeepsTheRun = (renaming : Renaming) (before after : RowCode) → IsRenamed renaming before after
    → (input : List ℤ) (n : ℕ) → machine_run before input n ≡ machine_run after input n

-- a renamed code is well formed where the code before was
abbrev pub RenamingKeepsForm : Type 0
RenamingKeepsForm = (renaming : Renaming) (before after : RowCode) → IsRenamed renaming before after → WellFormed before → WellFormed after

-- a well-formed code has at most as many registers as a machine may have, and writes none above those
abbrev pub FormKeepsRegisters : Type 0
FormKeepsRegisters = (code : RowCode) → WellFormed code → (code.registers ≤ most_registers) × AllByRecursion (RowWritesBelow most_registers) code.rows
