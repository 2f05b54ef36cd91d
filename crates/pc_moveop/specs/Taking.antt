-- An item that is taken out of its node, and put into the node above.
use Rattle.std.specs.Prelude.{ℕ, ◌-◌, if◌then◌else◌, nat_eq, nat_lt, Option}
use Rattle.pc_word.specs.declared.item.Item.{Item}
use Rattle.pc_word.specs.declared.item.Operand.{Operand}
use Rattle.pc_word.specs.Items.{dest_of}
use Rattle.pc_window.specs.Rename.{mapped}
use Rattle.pc_moveop.specs.NodeTree.{NodeTree, Item_node, Test_node, Leads_to, Leads_out, node_size, leaf_count}
use Rattle.pc_word.specs.Naming.{map_operands, renamed}

-- nodes that read other operands
abbrev pub nodes_mapped : (Operand → Operand) → NodeTree → NodeTree
nodes_mapped f (Item_node tag origin item rest) = Item_node tag origin (map_operands f item) (nodes_mapped f rest)
nodes_mapped f (Test_node tag origin on on_yes on_no) = Test_node tag origin (f on) (nodes_mapped f on_yes) (nodes_mapped f on_no)
nodes_mapped f (Leads_to below) = Leads_to (nodes_mapped f below)
nodes_mapped f (Leads_out out) = Leads_out (mapped f out)

-- a node without its item at a place; below it, its name is this one
abbrev pub node_without : Option ℕ → ℕ → NodeTree → NodeTree
node_without name place (Item_node tag origin item rest) =
    if nat_eq place 0 then nodes_mapped (renamed (dest_of item) name) rest else Item_node tag origin item (node_without name (place - 1) rest)
node_without name place (Test_node tag origin on on_yes on_no) =
    if nat_eq place 0 then Test_node tag origin on on_yes on_no
    else if nat_lt (place - 1) (node_size on_yes) then Test_node tag origin on (node_without name (place - 1) on_yes) on_no
    else Test_node tag origin on on_yes (node_without name (place - 1 - node_size on_yes) on_no)
node_without name place (Leads_to below) = Leads_to below
node_without name place (Leads_out out) = Leads_out out

-- a leaf that leads to a node; a node without items and tests is skipped
abbrev pub leaf_to : NodeTree → NodeTree
leaf_to (Item_node tag origin item rest) = Leads_to (Item_node tag origin item rest)
leaf_to (Test_node tag origin on on_yes on_no) = Leads_to (Test_node tag origin on on_yes on_no)
leaf_to (Leads_to below) = Leads_to below
leaf_to (Leads_out out) = Leads_out out

-- a leaf once the item at a place of the node behind it is gone
abbrev pub leaf_without : Option ℕ → ℕ → NodeTree → NodeTree
leaf_without name place (Item_node tag origin item rest) = Item_node tag origin item rest
leaf_without name place (Test_node tag origin on on_yes on_no) = Test_node tag origin on on_yes on_no
leaf_without name place (Leads_to below) = leaf_to (node_without name place below)
leaf_without name place (Leads_out out) = Leads_out out

-- what comes into a node: its tag and origin, and the item
pub record Coming : Type 0 where
  pub tag : ℕ
  pub origin : ℕ
  pub item : Item

-- a node once an item has come to the end of its path to a leaf, from a place of the node behind that leaf
abbrev pub landed : Coming → (leaf place : ℕ) → NodeTree → NodeTree
landed c leaf place (Item_node tag origin item rest) = Item_node tag origin item (landed c leaf place rest)
landed c leaf place (Test_node tag origin on on_yes on_no) =
    if nat_lt leaf (leaf_count on_yes) then Test_node tag origin on (landed c leaf place on_yes) on_no
    else Test_node tag origin on on_yes (landed c (leaf - leaf_count on_yes) place on_no)
landed c leaf place (Leads_to below) =
    if nat_eq leaf 0 then Item_node c.tag c.origin c.item (leaf_without (dest_of c.item) place (Leads_to below)) else Leads_to below
landed c leaf place (Leads_out out) = Leads_out out
