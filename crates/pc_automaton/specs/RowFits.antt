-- That a row keeps limits.
use Rattle.std.specs.Prelude.{◌≤◌, length}
use Rattle.std.specs.List.{AllByRecursion, count_by}
use Rattle.pc_word.specs.declared.item.Limits.{Limits}
use Rattle.pc_word.specs.Items.{is_memory, is_effect}
use Rattle.pc_word.specs.Row.{Row, items_of, tests_of, paths_of}

-- a row is within limits over its whole tree, and on each path at most one item is a print, read or more
pub record RowFits {L : Type 0} (limits : Limits) (row : Row L) : Type 0 where
  pub items : length (items_of row) ≤ limits.ops
  pub tests : length (tests_of row) ≤ limits.tests
  pub memory : count_by is_memory (items_of row) ≤ limits.mem
  pub one_effect : AllByRecursion (λ path. count_by is_effect path ≤ 1) (paths_of row)
