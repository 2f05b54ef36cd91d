-- The tree of a window with its nodes: which node a path of leaves leads to, and a node in place of another.
use Rattle.std.specs.Prelude.{ℕ, suc, ◌+◌, ◌-◌, if◌then◌else◌, nat_eq, nat_lt, List, [], ◌∷◌, Option, Some, None}
use Rattle.pc_word.specs.declared.item.Item.{Item}
use Rattle.pc_word.specs.declared.item.Operand.{Operand}
use Rattle.pc_window.specs.declared.tree.WindowTree.{WindowTree}
use Rattle.pc_window.specs.declared.tree.WindowTree.TheVariants as stored
use Rattle.pc_window.specs.Tree.{Tree, Pending, Undecided, Exit, Stop_exit, Trap_exit, Front, Issued, Split, Unfinished}

-- items and tests, and leaves: one leads to a node, another leads out of the window
pub data NodeTree : Type 0 where
  Item_node : (tag origin : ℕ) → (item : Item) → (rest : NodeTree) → NodeTree
  Test_node : (tag origin : ℕ) → (on : Operand) → (on_yes on_no : NodeTree) → NodeTree
  Leads_to : (below : NodeTree) → NodeTree
  Leads_out : (out : Tree) → NodeTree

-- the nodes of a tree in memory
abbrev pub nodes_in : WindowTree → NodeTree
nodes_in (stored.Step' tag origin item p rest) = Item_node tag origin item (nodes_in rest)
nodes_in (stored.Test' tag origin on p on_yes q on_no) = Test_node tag origin on (nodes_in on_yes) (nodes_in on_no)
nodes_in (stored.Node' p below) = Leads_to (nodes_in below)
nodes_in (stored.Exit region tag homes) = Leads_out (Exit region tag homes)
nodes_in stored.Stop = Leads_out Stop_exit
nodes_in (stored.Trap kind line) = Leads_out (Trap_exit kind line)

-- the tree, wherever its nodes end
abbrev pub whole_tree : NodeTree → Tree
whole_tree (Item_node tag origin item rest) = Pending tag origin item (whole_tree rest)
whole_tree (Test_node tag origin on on_yes on_no) = Undecided tag origin on (whole_tree on_yes) (whole_tree on_no)
whole_tree (Leads_to below) = whole_tree below
whole_tree (Leads_out out) = out

-- its first node as a front
abbrev pub node_front : NodeTree → Front
node_front (Item_node tag origin item rest) = Issued tag origin item (node_front rest)
node_front (Test_node tag origin on on_yes on_no) = Split tag origin on (node_front on_yes) (node_front on_no)
node_front (Leads_to below) = Unfinished (whole_tree below)
node_front (Leads_out out) = Unfinished out

-- the items and tests of its first node
abbrev pub node_size : NodeTree → ℕ
node_size (Item_node tag origin item rest) = suc (node_size rest)
node_size (Test_node tag origin on on_yes on_no) = suc (node_size on_yes + node_size on_no)
node_size (Leads_to below) = 0
node_size (Leads_out out) = 0

-- the leaves of its first node
abbrev pub leaf_count : NodeTree → ℕ
leaf_count (Item_node tag origin item rest) = leaf_count rest
leaf_count (Test_node tag origin on on_yes on_no) = leaf_count on_yes + leaf_count on_no
leaf_count (Leads_to below) = 1
leaf_count (Leads_out out) = 1

-- the node that a leaf of the first node leads to; leaves are counted in preorder, from 0
abbrev pub child_at : ℕ → NodeTree → Option NodeTree
child_at leaf (Item_node tag origin item rest) = child_at leaf rest
child_at leaf (Test_node tag origin on on_yes on_no) =
    if nat_lt leaf (leaf_count on_yes) then child_at leaf on_yes else child_at (leaf - leaf_count on_yes) on_no
child_at leaf (Leads_to below) = if nat_eq leaf 0 then Some below else None
child_at leaf (Leads_out out) = None

-- what a node that may not be there leads to
abbrev pub led_on : Option NodeTree → (NodeTree → Option NodeTree) → Option NodeTree
led_on (Some node) next = next node
led_on None next = None

-- the node that a path leads to: a leaf of the first node, a leaf of the node there, and so on
abbrev pub node_at : List ℕ → NodeTree → Option NodeTree
node_at [] tree = Some tree
node_at (leaf ∷ path) tree = led_on (child_at leaf tree) (node_at path)

-- a change of the node that a leaf leads to
abbrev pub child_changed : ℕ → (NodeTree → NodeTree) → NodeTree → NodeTree
child_changed leaf f (Item_node tag origin item rest) = Item_node tag origin item (child_changed leaf f rest)
child_changed leaf f (Test_node tag origin on on_yes on_no) =
    if nat_lt leaf (leaf_count on_yes) then Test_node tag origin on (child_changed leaf f on_yes) on_no
    else Test_node tag origin on on_yes (child_changed (leaf - leaf_count on_yes) f on_no)
child_changed leaf f (Leads_to below) = if nat_eq leaf 0 then Leads_to (f below) else Leads_to below
child_changed leaf f (Leads_out out) = Leads_out out

-- a node in place of the one that a path leads to
abbrev pub with_node : List ℕ → NodeTree → NodeTree → NodeTree
with_node [] node tree = node
with_node (leaf ∷ path) node tree = child_changed leaf (with_node path node) tree

-- ---- no node is empty

-- a tree begins with an item or test
abbrev pub HasRoot : NodeTree → Type 0
HasRoot (Item_node tag origin item rest) = Unit {0}
HasRoot (Test_node tag origin on on_yes on_no) = Unit {0}
HasRoot (Leads_to below) = ⊥
HasRoot (Leads_out out) = ⊥

-- behind the first node each node has an item or test
abbrev pub NoEmptyNode : NodeTree → Type 0
NoEmptyNode (Item_node tag origin item rest) = NoEmptyNode rest
NoEmptyNode (Test_node tag origin on on_yes on_no) = NoEmptyNode on_yes × NoEmptyNode on_no
NoEmptyNode (Leads_to below) = HasRoot below × NoEmptyNode below
NoEmptyNode (Leads_out out) = Unit {0}
