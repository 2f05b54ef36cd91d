-- The window once an item has moved.
use Rattle.std.specs.Prelude.{ℕ, ◌≡◌, if◌then◌else◌, List, length, Option, Some, None}
use Rattle.pc_word.specs.declared.item.Item.{Item}
use Rattle.pc_word.specs.State.{State}
use Rattle.pc_word.specs.Items.{dest_of}
use Rattle.pc_linear.specs.Form.{Form}
use Rattle.pc_window.specs.Tree.{Tree}
use Rattle.pc_window.specs.Kept.{KeepsWalk}
use Rattle.pc_window.specs.Filled.{given_supply}
use Rattle.pc_window.specs.declared.window.Window.{Window as StoredWindow}
use Rattle.pc_window.specs.StoredWindow.{tree_in, forms_in, supply_in}
use Rattle.pc_moveop.specs.declared.error.MoveError.{MoveError}
use Rattle.pc_moveop.specs.declared.error.MoveError.TheVariants.{NotThere, Depends, MemoryOrder, EffectAboveTest, EffectOrder, Full, Memory}
use Rattle.pc_moveop.specs.NodeTree.{NodeTree, nodes_in, node_at, with_node}
use Rattle.pc_moveop.specs.Climbing.{Mover, crosses_test}
use Rattle.pc_moveop.specs.Taking.{Coming, landed}
use Rattle.pc_moveop.specs.Refusing.{mover_of}
use Rattle.pc_word.specs.Naming.{with_dest}

-- the item as it comes: with the next name where a test stands before it
abbrev pub moved_item : ℕ → Mover → Item
moved_item next m = if crosses_test m then with_dest next m.item else m.item

-- the same with its tag and origin
abbrev pub coming_of : ℕ → Mover → Coming
coming_of next m = record { tag = m.tag; origin = m.origin; item = moved_item next m }

-- the name that is new, if one is
abbrev pub moved_name : ℕ → Mover → Option ℕ
moved_name next m = if crosses_test m then dest_of (with_dest next m.item) else None

-- the node that a path leads to becomes another, and nothing else of the tree changes
pub record NodeChanges (before after : NodeTree) (path : List ℕ) (change : NodeTree → NodeTree) : Type 0 where
  pub node : NodeTree
  pub at : node_at path before ≡ Some node
  pub tree : after ≡ with_node path (change node) before

-- limits and loop stay
pub record SameBounds (w v : StoredWindow) : Type 0 where
  pub limits : v.limits ≡ w.limits
  pub inside : v.inside ≡ w.inside

-- the item at a place of the node behind a leaf has moved into the node above
pub record HasMoved (w v : StoredWindow) (parent : List ℕ) (leaf place : ℕ) : Type 0 where
  pub mover : Mover
  pub is_mover : mover_of w parent leaf place ≡ Some mover
  pub changes : NodeChanges (nodes_in w.tree) (nodes_in v.tree) parent (landed (coming_of (length w.names.forms) mover) leaf place)
  pub names : supply_in v.names ≡ given_supply (supply_in w.names) (moved_name (length w.names.forms) mover) (Some (moved_item (length w.names.forms) mover))
  pub bounds : SameBounds w v

-- a window that is left by a move that fails is as it was: the move is refused for a reason, or memory ran out
abbrev pub Fails : (Option MoveError → Type 0) → (w v : StoredWindow) → MoveError → Type 0
Fails IsReason w v NotThere = (v ≡ w) × IsReason (Some NotThere)
Fails IsReason w v (Depends name) = (v ≡ w) × IsReason (Some (Depends name))
Fails IsReason w v (MemoryOrder origin) = (v ≡ w) × IsReason (Some (MemoryOrder origin))
Fails IsReason w v EffectAboveTest = (v ≡ w) × IsReason (Some EffectAboveTest)
Fails IsReason w v EffectOrder = (v ≡ w) × IsReason (Some EffectOrder)
Fails IsReason w v (Full kind) = (v ≡ w) × IsReason (Some (Full kind))
Fails IsReason w v Memory = v ≡ w

-- a window in place of another keeps the walk on each state in which forms hold and the walk is no fault
abbrev pub WalkKept : (w v : StoredWindow) → Type 0
WalkKept w v = KeepsWalk (forms_in w.names.forms) (tree_in w.tree) (forms_in v.names.forms) (tree_in v.tree)
