-- Two equal items on the two sides of a test that become one above it: why they may not, and the window once they have.
use Rattle.std.specs.Prelude.{ℕ, ◌<◌, ◌+◌, ◌-◌, ◌^◌, ◌≡◌, Bool, true, false, ◌&&◌, if◌then◌else◌, nat_eq, nat_lt, List, length, Option, Some, None}
use Rattle.pc_word.specs.declared.item.Item.{Item}
use Rattle.pc_word.specs.Items.{dest_of}
use Rattle.pc_window.specs.Filled.{given_supply}
use Rattle.pc_window.specs.declared.window.Window.{Window as StoredWindow}
use Rattle.pc_window.specs.StoredWindow.{supply_in}
use Rattle.pc_moveop.specs.declared.error.MoveError.{MoveError}
use Rattle.pc_moveop.specs.declared.error.MoveError.TheVariants.{NotThere}
use Rattle.pc_moveop.specs.NodeTree.{NodeTree, Item_node, Test_node, Leads_to, Leads_out, nodes_in, node_at, leaf_count}
use Rattle.pc_moveop.specs.Climbing.{Mover, mover_at}
use Rattle.pc_moveop.specs.Taking.{Coming, leaf_without}
use Rattle.pc_moveop.specs.Refusing.{mover_of, IsWhyNot}
use Rattle.pc_moveop.specs.Moving.{NodeChanges, SameBounds}
use Rattle.pc_word.specs.Naming.{with_dest, AreAlike}

-- ---- the two leaves

-- a leaf that leads to a node
abbrev pub leads_on : NodeTree → Bool
leads_on (Item_node tag origin item rest) = false
leads_on (Test_node tag origin on on_yes on_no) = false
leads_on (Leads_to below) = true
leads_on (Leads_out out) = false

-- whether a leaf is the yes side of a test whose two sides lead to nodes
abbrev pub is_yes_leaf : ℕ → NodeTree → NodeTree → Bool
is_yes_leaf leaf on_yes on_no = nat_eq leaf 0 && (leads_on on_yes && leads_on on_no)

-- whether a leaf and the next one are the yes and the no leaf of one test, stand directly under it, and lead to nodes
abbrev pub are_sides : ℕ → NodeTree → Bool
are_sides leaf (Item_node tag origin item rest) = are_sides leaf rest
are_sides leaf (Test_node tag origin on on_yes on_no) =
    if is_yes_leaf leaf on_yes on_no then true
    else if nat_lt leaf (leaf_count on_yes) then are_sides leaf on_yes
    else are_sides (leaf - leaf_count on_yes) on_no
are_sides leaf (Leads_to below) = false
are_sides leaf (Leads_out out) = false

-- behind such leaves, of which each has a number, stand items at these places that are equal but for their names
pub record AreTwins (node : NodeTree) (leaf yes_place no_place : ℕ) : Type 0 where
  pub sides : are_sides leaf node ≡ true
  pub numbered : leaf + 1 < 2 ^ 16
  pub on_yes : Mover
  pub on_no : Mover
  pub is_yes : mover_at leaf yes_place node ≡ Some on_yes
  pub is_no : mover_at (leaf + 1) no_place node ≡ Some on_no
  pub alike : AreAlike on_yes.item on_no.item

-- the same where there may be no node
abbrev pub TwinsBehind : (leaf yes_place no_place : ℕ) → Option NodeTree → Type 0
TwinsBehind leaf yes_place no_place (Some node) = AreTwins node leaf yes_place no_place
TwinsBehind leaf yes_place no_place None = ⊥

-- there are the two items that a unification names
abbrev pub AreThere : StoredWindow → List ℕ → (leaf yes_place no_place : ℕ) → Type 0
AreThere w parent leaf yes_place no_place = TwinsBehind leaf yes_place no_place (node_at parent (nodes_in w.tree))

-- ---- why they may not become one

-- the first refusal, if there is one: there are no such items; what refuses that the yes item moves alone; what refuses that the no item does
pub data IsWhyNotUnify (w : StoredWindow) (parent : List ℕ) (leaf yes_place no_place : ℕ) : Option MoveError → Type 0 where
  Not_there : (AreThere w parent leaf yes_place no_place → ⊥) → IsWhyNotUnify w parent leaf yes_place no_place (Some NotThere)
  As_on_yes : (why : MoveError) → AreThere w parent leaf yes_place no_place → IsWhyNot w parent leaf yes_place (Some why)
      → IsWhyNotUnify w parent leaf yes_place no_place (Some why)
  As_on_no : (why : Option MoveError) → AreThere w parent leaf yes_place no_place → IsWhyNot w parent leaf yes_place None → IsWhyNot w parent (leaf + 1) no_place why
      → IsWhyNotUnify w parent leaf yes_place no_place why

-- ---- the window once they have

-- a node once two items behind a leaf and the next have become one, right above the test of these leaves
abbrev pub joined : Coming → (leaf yes_place no_place : ℕ) → NodeTree → NodeTree
joined c leaf yes_place no_place (Item_node tag origin item rest) = Item_node tag origin item (joined c leaf yes_place no_place rest)
joined c leaf yes_place no_place (Test_node tag origin on on_yes on_no) =
    if is_yes_leaf leaf on_yes on_no then Item_node c.tag c.origin c.item
    (Test_node tag origin on (leaf_without (dest_of c.item) yes_place on_yes) (leaf_without (dest_of c.item) no_place on_no))
    else if nat_lt leaf (leaf_count on_yes) then Test_node tag origin on (joined c leaf yes_place no_place on_yes) on_no
    else Test_node tag origin on on_yes (joined c (leaf - leaf_count on_yes) yes_place no_place on_no)
joined c leaf yes_place no_place (Leads_to below) = Leads_to below
joined c leaf yes_place no_place (Leads_out out) = Leads_out out

-- the one item: the yes item with the next name
abbrev pub joint_item : ℕ → Mover → Item
joint_item next m = with_dest next m.item

-- the same with its tag and origin
abbrev pub joint_of : ℕ → Mover → Coming
joint_of next m = record { tag = m.tag; origin = m.origin; item = joint_item next m }

-- two items have become one of the node above
pub record HaveJoined (w v : StoredWindow) (parent : List ℕ) (leaf yes_place no_place : ℕ) : Type 0 where
  pub there : AreThere w parent leaf yes_place no_place
  pub mover : Mover
  pub is_mover : mover_of w parent leaf yes_place ≡ Some mover
  pub changes : NodeChanges (nodes_in w.tree) (nodes_in v.tree) parent (joined (joint_of (length w.names.forms) mover) leaf yes_place no_place)
  pub names : supply_in v.names ≡ given_supply (supply_in w.names) (dest_of (joint_item (length w.names.forms) mover)) (Some (joint_item (length w.names.forms) mover))
  pub bounds : SameBounds w v
