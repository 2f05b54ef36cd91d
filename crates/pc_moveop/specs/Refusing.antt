-- Why an item may not move.
use Rattle.std.specs.Prelude.{ℕ, ◌≡◌, Bool, not, ◌&&◌, if◌then◌else◌, nat_lt, List, [], ◌∷◌, Option, Some, None}
use Rattle.std.specs.List.{list_any}
use Rattle.pc_word.specs.declared.item.Item.{Item}
use Rattle.pc_word.specs.declared.item.Limits.{Limits}
use Rattle.pc_word.specs.Items.{operands_of, is_effect, is_memory, only_computes}
use Rattle.pc_window.specs.Tree.{Front}
use Rattle.pc_window.specs.Filled.{item_count, memory_count}
use Rattle.pc_window.specs.declared.window.Window.{Window as StoredWindow}
use Rattle.pc_window.specs.StoredWindow.{forms_in}
use Rattle.pc_moveop.specs.declared.error.RoomKind.TheVariants.{Ops, Mem}
use Rattle.pc_moveop.specs.declared.error.MoveError.{MoveError}
use Rattle.pc_moveop.specs.declared.error.MoveError.TheVariants.{NotThere, Depends, MemoryOrder, EffectAboveTest, EffectOrder, Full}
use Rattle.pc_moveop.specs.NodeTree.{NodeTree, nodes_in, node_at, node_front}
use Rattle.pc_moveop.specs.Climbing.{Mover, mover_at, first_defined, FirstConflict, has_effect, crosses_test}

-- the first of two refusals
abbrev pub refused_first : Option MoveError → Option MoveError → Option MoveError
refused_first (Some why) next = Some why
refused_first None next = next

-- a name on which an item depends
abbrev pub depends_on : Option ℕ → Option MoveError
depends_on (Some name) = Some (Depends name)
depends_on None = None

-- a load or store that it may not pass
abbrev pub out_of_order : Option ℕ → Option MoveError
out_of_order (Some origin) = Some (MemoryOrder origin)
out_of_order None = None

-- the first refusal: an operand that is defined on the way, a conflict there, a test that is no way for the item, another effect
abbrev pub first_refusal : (depends conflict : Option ℕ) → (crosses effect : Bool) → Item → Option MoveError
first_refusal depends conflict crosses effect item =
    refused_first (depends_on depends) (refused_first (out_of_order conflict)
    (refused_first (if crosses && not (only_computes item) then Some EffectAboveTest else None) (if effect && is_effect item then Some EffectOrder else None)))

-- why an item may not rise, where this is its first conflict
abbrev pub refusal_of_way : Mover → (conflict : Option ℕ) → Option MoveError
refusal_of_way m conflict = first_refusal (first_defined (operands_of m.item) m.way) conflict (crosses_test m) (list_any has_effect m.way) m.item

-- what a front has no room for, an item
abbrev pub no_room_for : Limits → Item → Front → Option MoveError
no_room_for limits item front =
    if not (nat_lt (item_count front) limits.ops) then Some (Full Ops)
    else (if is_memory item && not (nat_lt (memory_count front) limits.mem) then Some (Full Mem) else None)

-- the same where the node is the front, which the path without leaves leads to
abbrev pub no_room_at : List ℕ → Limits → Item → Front → Option MoveError
no_room_at [] limits item front = no_room_for limits item front
no_room_at (leaf ∷ path) limits item front = None

-- why an item may not come into the node that a path leads to: what stands on its way, and then the room
pub record RefusesMover (w : StoredWindow) (parent : List ℕ) (m : Mover) (why : Option MoveError) : Type 0 where
  pub conflict : Option ℕ
  pub first : FirstConflict (forms_in w.names.forms) m.item m.way conflict
  pub is : why ≡ refused_first (refusal_of_way m conflict) (no_room_at parent w.limits m.item (node_front (nodes_in w.tree)))

-- the same where there may be no such item
abbrev pub RefusesFound : StoredWindow → List ℕ → Option Mover → Option MoveError → Type 0
RefusesFound w parent None why = why ≡ Some NotThere
RefusesFound w parent (Some m) why = RefusesMover w parent m why

-- the item at a place of the node behind a leaf of a node, if there is that node
abbrev pub mover_behind : (leaf place : ℕ) → Option NodeTree → Option Mover
mover_behind leaf place (Some node) = mover_at leaf place node
mover_behind leaf place None = None

-- the item that a move names
abbrev pub mover_of : StoredWindow → List ℕ → (leaf place : ℕ) → Option Mover
mover_of w parent leaf place = mover_behind leaf place (node_at parent (nodes_in w.tree))

-- the first refusal of a move of an item, if there is one
abbrev pub IsWhyNot : StoredWindow → List ℕ → (leaf place : ℕ) → Option MoveError → Type 0
IsWhyNot w parent leaf place why = RefusesFound w parent (mover_of w parent leaf place) why
