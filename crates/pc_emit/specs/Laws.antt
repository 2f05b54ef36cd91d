-- The law of emitted rows. It is the contract of a function of laws.rt, which does nothing.
use Rattle.std.specs.Prelude.{◌≡◌, ℕ, ℤ, List, All, Some}
use Rattle.pc_word.specs.declared.item.Limits.{Limits}
use Rattle.pc_word.specs.Word.{IsWord}
use Rattle.pc_word.specs.Run.{AgreeOnInputs, NeverFaults}
use Rattle.pc_table.specs.RegionRun.{table_run}
use Rattle.pc_table.specs.TableKeeps.{TableKeeps}
use Rattle.pc_machine.specs.MachineCode.{CodeRow, RowCode}
use Rattle.pc_machine.specs.MachineRun.{machine_run}
use Rattle.pc_emit.specs.Emitted.{Emission, RegionForm, IsEmitted}
use Rattle.pc_emit.specs.PackedForm.{IsRegionForm}

-- the code with these rows, over the table's arrays, which begin with these data
abbrev pub code_with : Limits → (registers : ℕ) → (initial : List (List ℤ)) → Emission → List CodeRow → RowCode
code_with limits registers initial e rows = record { limits = limits; registers = registers; arrays = e.table.arrays; initial = initial; rows = rows }

-- where each region that has a form has one that it may have, its rows stand in the code, and the table's run faults on no
-- input of words, the code shows what the table shows, on every such input, whatever data the arrays begin with
abbrev pub EmittedRowsDoWhatTheirTableDoes : Type 0
EmittedRowsDoWhatTheirTableDoes = (e : Emission) → TableKeeps e.table
    → (limits : Limits) (registers : ℕ) (initial : List (List ℤ)) (rows : List CodeRow) → IsEmitted e rows
    → ((region : ℕ) (form : RegionForm) → e.forms region ≡ Some form → IsRegionForm e.table region form)
    → ((input : List ℤ) → All IsWord input → NeverFaults (table_run e.table initial input))
    → AgreeOnInputs (machine_run (code_with limits registers initial e rows)) (table_run e.table initial)
