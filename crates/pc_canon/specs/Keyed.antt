-- What a window in memory needs to have a key.
use Rattle.std.specs.Prelude.{◌<◌, ◌^◌, length}
use Rattle.pc_window.specs.declared.window.Window.{Window as StoredWindow}
use Rattle.pc_window.specs.Tree.{tree_size}
use Rattle.pc_window.specs.Opening.{TreeBelow, FormsBelow}
use Rattle.pc_window.specs.StoredWindow.{tree_in, supply_in}

-- its names and form variables are below those that are new, and it has fewer than 2^31 names, items and tests
pub record HasKey (window : StoredWindow) : Type 0 where
  pub below : TreeBelow (length window.names.forms) (tree_in window.tree)
  pub few_names : length window.names.forms < 2 ^ 31
  pub variables : FormsBelow (supply_in window.names)
  pub small : tree_size (tree_in window.tree) < 2 ^ 31
