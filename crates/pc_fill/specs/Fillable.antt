-- Windows in memory that can be filled, and how far they grow.
use Rattle.std.specs.Prelude.{ℕ, ◌+◌, ◌<◌, ◌≤◌, ◌^◌, length}
use Rattle.pc_window.specs.declared.window.Window.{Window as StoredWindow}
use Rattle.pc_window.specs.Tree.{tree_size}
use Rattle.pc_window.specs.Filled.{MostBehind, front_size}
use Rattle.pc_window.specs.StoredWindow.{tree_in, front_in, NodesBehind}

-- the most items and tests of a window that is filled
abbrev pub most_filled : ℕ
most_filled = 2048

-- more than the items and tests that any front may have
abbrev pub above_front : ℕ
above_front = 511

-- a window is small, its nodes are single behind the front, and numbers are left for a name and a form variable for each item
-- and test that may come into the front
pub record IsFillable (w : StoredWindow) : Type 0 where
  pub size : tree_size (tree_in w.tree) ≤ most_filled
  pub nodes : NodesBehind w.tree
  pub names : length w.names.forms + above_front < 2 ^ 31
  pub variables : w.names.next_variable + above_front < 2 ^ 31

-- what filling leaves: single nodes behind the front, no more items and tests behind a leaf than the window had, and as many
-- new names and form variables, at most, as items and tests have come into the front
pub record FilledFrom (before later : StoredWindow) : Type 0 where
  pub nodes : NodesBehind later.tree
  pub behind : MostBehind (tree_size (tree_in before.tree)) (front_in later.tree)
  pub names : length later.names.forms + front_size (front_in before.tree) ≤ length before.names.forms + front_size (front_in later.tree)
  pub variables : later.names.next_variable + front_size (front_in before.tree) ≤ before.names.next_variable + front_size (front_in later.tree)
