-- Windows on the way of being filled.
use Rattle.std.specs.Prelude.{◌≡◌, ℕ, ◌+◌, ◌<◌, ◌≤◌, ◌^◌, Bool, true, length}
use Rattle.pc_window.specs.declared.window.Window.{Window as StoredWindow}
use Rattle.pc_window.specs.Tree.{whole}
use Rattle.pc_window.specs.Opening.{TreeBelow, FormsBelow}
use Rattle.pc_window.specs.Filled.{IsWindow, MostBehind, front_size}
use Rattle.pc_window.specs.StoredWindow.{front_in, supply_in, window_in, NodesBehind}
use Rattle.pc_fill.specs.Fillable.{most_filled, above_front}

-- a window goes on being filled, where these names are known before it
pub record CanFill (known : ℕ → Bool) (w : StoredWindow) : Type 0 where
  pub window : IsWindow known (window_in w)
  pub names_below : TreeBelow (length w.names.forms) (whole (front_in w.tree))
  pub forms_below : FormsBelow (supply_in w.names)
  pub known_below : (x : ℕ) → known x ≡ true → x < length w.names.forms
  pub most : MostBehind most_filled (front_in w.tree)
  pub nodes : NodesBehind w.tree
  pub few : w.limits.ops + w.limits.tests < above_front
  pub names : length w.names.forms + (w.limits.ops + w.limits.tests) < 2 ^ 31 + front_size (front_in w.tree)
  pub variables : w.names.next_variable + (w.limits.ops + w.limits.tests) < 2 ^ 31 + front_size (front_in w.tree)

-- how far it has grown
pub record GrowsTo (before later : StoredWindow) : Type 0 where
  pub nodes : NodesBehind later.tree
  pub names : length later.names.forms + front_size (front_in before.tree) ≤ length before.names.forms + front_size (front_in later.tree)
  pub variables : later.names.next_variable + front_size (front_in before.tree) ≤ before.names.next_variable + front_size (front_in later.tree)
