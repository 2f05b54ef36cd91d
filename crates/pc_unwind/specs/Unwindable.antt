-- What a window needs to be unwound, and what it is afterwards.
use Rattle.std.specs.Prelude.{ℕ, ◌+◌, ◌≤◌, ◌^◌, max, length}
use Rattle.pc_table.specs.Table.{Table}
use Rattle.pc_window.specs.Tree.{whole, tree_size}
use Rattle.pc_window.specs.Unwinding.{most_unwound}
use Rattle.pc_window.specs.WindowRun.{Window}
use Rattle.pc_window.specs.There.{PartsAreThere}

-- a window that may be unwound: what it names is there, and there is room for names, form variables and tags
pub record CanUnwind (table : Table) (w : Window) : Type 0 where
  pub parts : PartsAreThere table (2 ^ 30) (whole w.front)
  pub size : tree_size (whole w.front) ≤ 2 ^ 20
  pub names : w.next ≤ 2 ^ 30
  pub variables : w.next_variable ≤ 2 ^ 30

-- a window that was unwound with a window number: it is not too large, names and form variables grew by no more than the items
-- and tests; what it names is there, and tags grew by no more than the regions of the table and the window number
pub record HasGrown (table : Table) (number : ℕ) (w v : Window) : Type 0 where
  pub size : tree_size (whole v.front) ≤ max most_unwound (tree_size (whole w.front))
  pub names : v.next + tree_size (whole w.front) ≤ w.next + tree_size (whole v.front)
  pub variables : v.next_variable + tree_size (whole w.front) ≤ w.next_variable + tree_size (whole v.front)
  pub parts : (most : ℕ) → PartsAreThere table most (whole w.front) → PartsAreThere table (most + (length table.regions + number)) (whole v.front)
