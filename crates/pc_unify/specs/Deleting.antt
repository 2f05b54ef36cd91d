-- An item that is deleted: why it may not be, and the window without it.
use Rattle.std.specs.Prelude.{ℕ, ◌≡◌, ◌-◌, if◌then◌else◌, nat_eq, nat_lt, List, [], ◌∷◌, Option, Some, None}
use Rattle.pc_word.specs.declared.item.Item.{Item}
use Rattle.pc_word.specs.declared.item.Item.TheVariants.{Bin, Copy, Load, Store, Print, Read, More}
use Rattle.pc_window.specs.declared.window.Window.{Window as StoredWindow}
use Rattle.pc_window.specs.Tree.{Tree}
use Rattle.pc_window.specs.Names.{uses}
use Rattle.pc_moveop.specs.declared.error.MoveError.{MoveError}
use Rattle.pc_moveop.specs.declared.error.MoveError.TheVariants.{NotThere, Depends}
use Rattle.pc_moveop.specs.NodeTree.{NodeTree, Item_node, Test_node, Leads_to, Leads_out, nodes_in, whole_tree, node_size, leaf_count, node_at}
use Rattle.pc_moveop.specs.Taking.{leaf_to}
use Rattle.pc_moveop.specs.Moving.{SameBounds}

-- an item, and what stands below it
pub record StandingItem : Type 0 where
  pub item : Item
  pub rest : NodeTree

-- the item at a preorder place of a node
abbrev pub standing_at : ℕ → NodeTree → Option StandingItem
standing_at place (Item_node tag origin item rest) = if nat_eq place 0 then Some (record { item = item; rest = rest }) else standing_at (place - 1) rest
standing_at place (Test_node tag origin on on_yes on_no) =
    if nat_eq place 0 then None
    else if nat_lt (place - 1) (node_size on_yes) then standing_at (place - 1) on_yes
    else standing_at (place - 1 - node_size on_yes) on_no
standing_at place (Leads_to below) = None
standing_at place (Leads_out out) = None

-- a name may not go that is used below
abbrev pub used_below : ℕ → Tree → Option MoveError
used_below name tree = if uses tree name then Some (Depends name) else None

-- why an item may not be deleted: it is no bin, load or more, or its name is used below
abbrev pub refusal_of_item : Item → Tree → Option MoveError
refusal_of_item (Bin op dest left right) rest = used_below dest rest
refusal_of_item (Copy dest from) rest = Some NotThere
refusal_of_item (Load dest array index) rest = used_below dest rest
refusal_of_item (Store array index value) rest = Some NotThere
refusal_of_item (Print value) rest = Some NotThere
refusal_of_item (Read dest) rest = Some NotThere
refusal_of_item (More dest) rest = used_below dest rest

-- the same where there may be no item
abbrev pub refusal_of_standing : Option StandingItem → Option MoveError
refusal_of_standing (Some it) = refusal_of_item it.item (whole_tree it.rest)
refusal_of_standing None = Some NotThere

-- the same where there may be no node
abbrev pub refusal_in_node : ℕ → Option NodeTree → Option MoveError
refusal_in_node place (Some node) = refusal_of_standing (standing_at place node)
refusal_in_node place None = Some NotThere

-- the first refusal of a deletion, if there is one
abbrev pub IsWhyNotDelete : StoredWindow → List ℕ → ℕ → Option MoveError → Type 0
IsWhyNotDelete w path place why = why ≡ refusal_in_node place (node_at path (nodes_in w.tree))

-- a node without the item at a place
abbrev pub node_deleted : ℕ → NodeTree → NodeTree
node_deleted place (Item_node tag origin item rest) = if nat_eq place 0 then rest else Item_node tag origin item (node_deleted (place - 1) rest)
node_deleted place (Test_node tag origin on on_yes on_no) =
    if nat_eq place 0 then Test_node tag origin on on_yes on_no
    else if nat_lt (place - 1) (node_size on_yes) then Test_node tag origin on (node_deleted (place - 1) on_yes) on_no
    else Test_node tag origin on on_yes (node_deleted (place - 1 - node_size on_yes) on_no)
node_deleted place (Leads_to below) = Leads_to below
node_deleted place (Leads_out out) = Leads_out out

-- a leaf that leads to a node without items and tests leads on where that node does
abbrev pub closed : NodeTree → NodeTree
closed (Item_node tag origin item rest) = Item_node tag origin item rest
closed (Test_node tag origin on on_yes on_no) = Test_node tag origin on on_yes on_no
closed (Leads_to below) = leaf_to below
closed (Leads_out out) = Leads_out out

-- a change of the node that a leaf leads to, which is skipped where it has neither item nor test afterwards
abbrev pub child_closed : ℕ → (NodeTree → NodeTree) → NodeTree → NodeTree
child_closed leaf f (Item_node tag origin item rest) = Item_node tag origin item (child_closed leaf f rest)
child_closed leaf f (Test_node tag origin on on_yes on_no) =
    if nat_lt leaf (leaf_count on_yes) then Test_node tag origin on (child_closed leaf f on_yes) on_no
    else Test_node tag origin on on_yes (child_closed (leaf - leaf_count on_yes) f on_no)
child_closed leaf f (Leads_to below) = if nat_eq leaf 0 then leaf_to (f below) else Leads_to below
child_closed leaf f (Leads_out out) = Leads_out out

-- a tree without the item at a place of the node that a path leads to, whatever is left of its first node
abbrev pub item_deleted : List ℕ → ℕ → NodeTree → NodeTree
item_deleted [] place tree = node_deleted place tree
item_deleted (leaf ∷ path) place tree = child_closed leaf (item_deleted path place) tree

-- ---- the front

-- what stands below an item or a test, with each item and test in a node of its own, down to the next node
abbrev pub in_own_nodes : NodeTree → NodeTree
in_own_nodes (Item_node tag origin item rest) = Leads_to (Item_node tag origin item (in_own_nodes rest))
in_own_nodes (Test_node tag origin on on_yes on_no) = Leads_to (Test_node tag origin on (in_own_nodes on_yes) (in_own_nodes on_no))
in_own_nodes (Leads_to below) = Leads_to below
in_own_nodes (Leads_out out) = Leads_out out

-- a node that becomes the front: each of its items and tests is put into a node of its own, and the first of these is the front
abbrev pub as_front : NodeTree → NodeTree
as_front (Item_node tag origin item rest) = Item_node tag origin item (in_own_nodes rest)
as_front (Test_node tag origin on on_yes on_no) = Test_node tag origin on (in_own_nodes on_yes) (in_own_nodes on_no)
as_front (Leads_to below) = Leads_to below
as_front (Leads_out out) = Leads_out out

-- the first node that has an item or a test, if there is one; the others are skipped
abbrev pub first_node : NodeTree → NodeTree
first_node (Item_node tag origin item rest) = Item_node tag origin item rest
first_node (Test_node tag origin on on_yes on_no) = Test_node tag origin on on_yes on_no
first_node (Leads_to below) = first_node below
first_node (Leads_out out) = Leads_out out

-- a front that may have been emptied: the next node becomes the front then
abbrev pub front_left : NodeTree → NodeTree
front_left (Item_node tag origin item rest) = Item_node tag origin item rest
front_left (Test_node tag origin on on_yes on_no) = Test_node tag origin on on_yes on_no
front_left (Leads_to below) = as_front (first_node below)
front_left (Leads_out out) = Leads_out out

-- a window's tree without the item at a place of the node that a path leads to
abbrev pub without_item : List ℕ → ℕ → NodeTree → NodeTree
without_item [] place tree = front_left (node_deleted place tree)
without_item (leaf ∷ path) place tree = item_deleted (leaf ∷ path) place tree

-- ---- the window

-- an item is deleted, and nothing else changes
pub record IsDeleted (w v : StoredWindow) (path : List ℕ) (place : ℕ) : Type 0 where
  pub tree : nodes_in v.tree ≡ without_item path place (nodes_in w.tree)
  pub names : v.names ≡ w.names
  pub bounds : SameBounds w v
