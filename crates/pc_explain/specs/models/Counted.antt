-- What the row of a state has, as the code counts it.
use Rattle.std.specs.Prelude.{◌≤◌, length}
use Rattle.std.specs.List.{count_by}
use Rattle.pc_word.specs.Items.{is_memory}
use Rattle.pc_word.specs.Row.{Row, items_of, tests_of}
use Rattle.pc_machine.specs.declared.check.Counts.{Counts}
use Rattle.pc_automaton.specs.declared.automaton.AutomatonLeaf.{AutomatonLeaf}

-- how many items, tests, and loads and stores
abbrev pub counted : Row AutomatonLeaf → Counts
counted row = record { ops = length (items_of row); tests = length (tests_of row); mem = count_by is_memory (items_of row) }

-- there are so few of each that a byte counts them
pub record HasFew (row : Row AutomatonLeaf) : Type 0 where
  pub ops : length (items_of row) ≤ 255
  pub tests : length (tests_of row) ≤ 255
  pub mem : count_by is_memory (items_of row) ≤ 255
