-- How many boxes the next front takes.
use Rattle.std.specs.Prelude.{ℕ}
use Rattle.pc_moveop.specs.NodeTree.{NodeTree, Item_node, Test_node, Leads_to, Leads_out, node_size}
use Rattle.pc_unify.specs.Deleting.{first_node}

-- the items and tests of the node that becomes the front, where this is what is left of the front
abbrev pub left_size : NodeTree → ℕ
left_size (Item_node tag origin item rest) = 0
left_size (Test_node tag origin on on_yes on_no) = 0
left_size (Leads_to below) = node_size (first_node below)
left_size (Leads_out out) = 0

-- the same where an item of this front goes
abbrev pub emptied_size : NodeTree → ℕ
emptied_size (Item_node tag origin item rest) = left_size rest
emptied_size (Test_node tag origin on on_yes on_no) = 0
emptied_size (Leads_to below) = node_size (first_node below)
emptied_size (Leads_out out) = 0
