-- Trees that are alike are so too with forms that came later.
use Rattle.std.proofs.Common.{ℕ, ◌<◌, List}
use Rattle.pc_word.specs.declared.item.Item.{Item}
use Rattle.pc_word.specs.Items.{dest_of}
use Rattle.pc_linear.specs.Form.{Form}
use Rattle.pc_window.specs.Tree.{Tree}
use Rattle.pc_window.specs.Opening.{ItemBelow, TreeBelow}
use Rattle.pc_canon.specs.Pairs.{Pair}
use Rattle.pc_canon.specs.Shift.{FormsAlike, ItemsAlike, both_bin, both_copy, both_load, both_store, both_print, both_read, both_more, Maps, DestsAlike}
use Rattle.pc_canon.specs.Shift.{TreesAlike, both_then, both_either, both_exit, both_stop, both_trap}
use Rattle.pc_shifts.specs.Alike.{with_variables}

module _ (maps : Maps) (f g : ℕ → Form) (more : List Pair) (f' g' : ℕ → Form) (n n' : ℕ)
    (later : (x y : ℕ) → x < n → y < n' → FormsAlike maps.variables (f x) (g y) → FormsAlike more (f' x) (g' y)) where
  pub dests_later : {names : List Pair} {item item' : Item} → ItemsAlike names item item' → ItemBelow n item → ItemBelow n' item'
      → DestsAlike maps f g (dest_of item) (dest_of item') → DestsAlike (with_variables maps more) f' g' (dest_of item) (dest_of item')
  dests_later (both_bin {dest} {dest'} h k) b b' a = later dest dest' b.0 b'.0 a
  dests_later (both_copy {dest} {dest'} h) b b' a = later dest dest' b.0 b'.0 a
  dests_later (both_load {dest} {dest'} h) b b' a = later dest dest' b.0 b'.0 a
  dests_later (both_store h k) b b' a = tt
  dests_later (both_print h) b b' a = tt
  dests_later (both_read {dest} {dest'}) b b' a = later dest dest' b b' a
  dests_later (both_more {dest} {dest'}) b b' a = later dest dest' b b' a

  pub tree_later : {names : List Pair} {t u : Tree} → TreeBelow n t → TreeBelow n' u → TreesAlike maps f g names t u → TreesAlike (with_variables maps more) f' g' names t u
  tree_later b b' (both_then tags items dests below) = both_then tags items (dests_later items b.0 b'.0 dests) (tree_later b.1 b'.1 below)
  tree_later b b' (both_either tags test yes_side no_side) = both_either tags test (tree_later b.1 b'.1 yes_side) (tree_later b.2 b'.2 no_side)
  tree_later b b' (both_exit tags h) = both_exit tags h
  tree_later b b' both_stop = both_stop
  tree_later b b' both_trap = both_trap
