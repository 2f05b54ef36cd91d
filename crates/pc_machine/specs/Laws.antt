-- Laws of the definitions. Each is the contract of a function of laws.rt, which does nothing.
use Rattle.std.specs.Prelude.{◌≡◌, ℤ, List, [], Some, slice_get, ◌↔◌}
use Rattle.pc_word.specs.Row.{row_step}
use Rattle.pc_word.specs.Run.{Grows}
use Rattle.pc_machine.specs.MachineCode.{CodeRow, RowCode}
use Rattle.pc_machine.specs.MachineRun.{Cycle, after_row, machine_step, machine_run}
use Rattle.pc_machine.specs.WellFormed.{WellFormed}
use Rattle.pc_machine.specs.Flaws.{flaws_of}

-- no flaw stands in a code exactly where it is well formed
abbrev pub NoFlawStands : Type 0
NoFlawStands = (code : RowCode) → (flaws_of code ≡ []) ↔ WellFormed code

-- with more cycles the printed list only grows, and an end stays
abbrev pub MachineRunsGrow : Type 0
MachineRunsGrow = (code : RowCode) (input : List ℤ) → Grows (machine_run code input)

-- a cycle at a row that is there is the step of that row
abbrev pub ACycleIsItsRowsStep : Type 0
ACycleIsItsRowsStep = (code : RowCode) (here : Cycle) (row : CodeRow) → slice_get code.rows here.row ≡ Some row
    → machine_step code here ≡ after_row (row_step code.arrays row here.state)
