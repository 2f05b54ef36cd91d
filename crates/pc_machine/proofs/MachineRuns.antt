-- Laws of the machine run.
use Rattle.std.proofs.Common.{◌≡◌, List, Some, ap}
use Rattle.std.specs.Prelude.{ℤ, slice_get}
use Rattle.pc_word.specs.Row.{row_step}
use Rattle.pc_word.specs.Run.{Grows}
use Rattle.pc_word.proofs.Runs.{run_from-grows}
use Rattle.pc_machine.specs.MachineCode.{CodeRow, RowCode}
use Rattle.pc_machine.specs.MachineRun.{Cycle, after_row, run_row, machine_step, machine_start, machine_run}

-- with more cycles the printed list only grows, and an end stays
pub machine_run-grows : (code : RowCode) (input : List ℤ) → Grows (machine_run code input)
machine_run-grows code input = run_from-grows (machine_step code) (machine_start code input)

-- a cycle at a row that is there is the step of that row
pub machine_step-row : (code : RowCode) (here : Cycle) (row : CodeRow) → slice_get code.rows here.row ≡ Some row
    → machine_step code here ≡ after_row (row_step code.arrays row here.state)
machine_step-row code here row at = ap (λ found. run_row code.arrays here.state found) at
