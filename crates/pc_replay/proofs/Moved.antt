-- Legal moves one after another.
use Rattle.std.proofs.Common.{ℕ, List, ◌≡◌, ◌<◌, ◌^◌, length, refl, sym, ◌∙◌, ap, subst, arith}
use Rattle.pc_window.specs.declared.window.Window.{Window as StoredWindow}
use Rattle.pc_window.specs.Tree.{tree_size, whole}
use Rattle.pc_window.specs.Opening.{TreeBelow, FormsBelow}
use Rattle.pc_window.specs.Steps.{IsProper}
use Rattle.pc_window.specs.StoredWindow.{tree_in, front_in, supply_in, window_in}
use Rattle.pc_window.specs.Walk.{IsWhole, walk}
use Rattle.pc_window.proofs.WindowsStored.{whole_in}
use Rattle.pc_moveop.specs.Moving.{SameBounds, HasMoved, WalkKept}
use Rattle.pc_movecj.specs.MovingTest.{TestHasMoved}
use Rattle.pc_unify.specs.Unifying.{HaveJoined}
use Rattle.pc_replay.specs.Replaying.{ComesTo, IsSmall}

pub no_move : (w : StoredWindow) → IsProper (window_in w) → ComesTo w w
no_move w proper = record { proper = proper; bounds = record { limits = refl; inside = refl }; walk = λ lengths s holds whole. (refl, holds) }

one_move : (w v : StoredWindow) → IsProper (window_in v) → SameBounds w v → WalkKept w v → ComesTo w v
one_move w v proper bounds walk = record { proper = proper; bounds = bounds; walk = walk }

-- by one move of an item, of a test, or of two items that become one
pub item_moved : (w v : StoredWindow) (parent : List ℕ) (leaf place : ℕ) → IsProper (window_in v) → HasMoved w v parent leaf place → WalkKept w v → ComesTo w v
item_moved w v parent leaf place proper moved walk = one_move w v proper moved.bounds walk

pub test_moved : (w v : StoredWindow) (parent : List ℕ) (leaf : ℕ) → IsProper (window_in v) → TestHasMoved w v parent leaf → WalkKept w v → ComesTo w v
test_moved w v parent leaf proper moved walk = one_move w v proper moved.bounds walk

pub items_joined : (w v : StoredWindow) (parent : List ℕ) (leaf yes_place no_place : ℕ) → IsProper (window_in v) → HaveJoined w v parent leaf yes_place no_place
    → WalkKept w v → ComesTo w v
items_joined w v parent leaf yes_place no_place proper joined walk = one_move w v proper joined.bounds walk

pub more_moves : (w v u : StoredWindow) → ComesTo w v → ComesTo v u → ComesTo w u
more_moves w v u first second = record {
  proper = second.proper;
  bounds = record { limits = second.bounds.limits ∙ first.bounds.limits; inside = second.bounds.inside ∙ first.bounds.inside };
  walk = λ lengths s holds whole. (
      let a = first.walk lengths s holds whole in
      let b = second.walk lengths s a.1 (subst IsWhole (sym a.0) whole) in
      (b.0 ∙ a.0, b.1)
      );
}

pub still_proper : (w v : StoredWindow) → ComesTo w v → IsProper (window_in v)
still_proper w v comes = comes.proper

pub ruleset moves = (no_move, item_moved, test_moved, items_joined, more_moves, still_proper)

-- a small window is small, wherever its front ends
pub whole_small : (w : StoredWindow) → IsSmall w → tree_size (whole (front_in w.tree)) < 2 ^ 31
whole_small w small = let size = small.size in let same : tree_size (whole (front_in w.tree)) ≡ tree_size (tree_in w.tree) = ap tree_size (whole_in w.tree) in omega arith

-- what is new to a proper window is new to its tree
pub tree_below : (w : StoredWindow) → IsProper (window_in w) → TreeBelow (length w.names.forms) (tree_in w.tree)
tree_below w proper = subst (TreeBelow (length w.names.forms)) (whole_in w.tree) proper.names_below

pub forms_below : (w : StoredWindow) → IsProper (window_in w) → FormsBelow (supply_in w.names)
forms_below w proper = proper.forms_below

pub ruleset wholes = (whole_small, tree_below, forms_below)
