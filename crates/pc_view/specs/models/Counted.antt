-- What a row has, as the code counts it.
use Rattle.std.specs.Prelude.{◌≤◌, length}
use Rattle.std.specs.List.{count_by}
use Rattle.pc_word.specs.Items.{is_memory}
use Rattle.pc_word.specs.Row.{items_of, tests_of, leaves_of}
use Rattle.pc_machine.specs.MachineCode.{CodeRow}
use Rattle.pc_machine.specs.declared.check.Counts.{Counts}

-- how many items, tests, and loads and stores
abbrev pub counted : CodeRow → Counts
counted row = record { ops = length (items_of row); tests = length (tests_of row); mem = count_by is_memory (items_of row) }

-- there are so few of each that a byte counts them, and one leaf more than tests
pub record HasFew (row : CodeRow) : Type 0 where
  pub ops : length (items_of row) ≤ 255
  pub tests : length (tests_of row) ≤ 255
  pub mem : count_by is_memory (items_of row) ≤ 255
  pub leaves : length (leaves_of row) ≤ 256
