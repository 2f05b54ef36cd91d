-- A test on its way up, as it lies in memory, and the parts into which it divides a node.
use Rattle.std.specs.Prelude.{ℕ, ◌≡◌, ◌-◌, Bool, true, false, if◌then◌else◌, nat_eq, nat_lt, Option, Some, None}
use Rattle.std.specs.List.{list_any}
use Rattle.pc_window.specs.Tree.{Stop_exit}
use Rattle.pc_window.specs.declared.tree.WindowTree.{WindowTree}
use Rattle.pc_window.specs.declared.tree.WindowTree.TheVariants as stored
use Rattle.pc_moveop.specs.NodeTree.{NodeTree, Item_node, Test_node, Leads_to, Leads_out, leaf_count}
use Rattle.pc_moveop.specs.Climbing.{defines_operand}
use Rattle.pc_movecj.specs.Dividing.{MovingTest}
use Rattle.pc_movecj.specs.declared.climbing.TestClimb.{TestClimb}

-- what is told of a test is so
pub record IsTestClimb (m : MovingTest) (c : TestClimb) : Type 0 where
  pub tag : c.tag ≡ m.tag
  pub origin : c.origin ≡ m.origin
  pub on : c.on ≡ m.on
  pub defined : c.defined ≡ list_any (defines_operand (Some m.on)) m.way

-- the same where there may be none
abbrev pub AreTests : Option MovingTest → Option TestClimb → Type 0
AreTests (Some m) (Some c) = IsTestClimb m c
AreTests None None = Unit {0}
AreTests (Some m) None = ⊥
AreTests None (Some c) = ⊥

pub record FindsTest (m : Option MovingTest) (c : Option TestClimb) : Type 0 where
  pub is : AreTests m c

-- the items before the first test of a node
abbrev pub items_before : NodeTree → NodeTree
items_before (Item_node tag origin item rest) = Item_node tag origin item (items_before rest)
items_before (Test_node tag origin on on_yes on_no) = Leads_out Stop_exit
items_before (Leads_to below) = Leads_out Stop_exit
items_before (Leads_out out) = Leads_out Stop_exit

-- the same of the node that a leaf leads to
abbrev pub items_at : ℕ → NodeTree → NodeTree
items_at leaf (Item_node tag origin item rest) = items_at leaf rest
items_at leaf (Test_node tag origin on on_yes on_no) =
    if nat_lt leaf (leaf_count on_yes) then items_at leaf on_yes else items_at (leaf - leaf_count on_yes) on_no
items_at leaf (Leads_to below) = if nat_eq leaf 0 then items_before below else Leads_out Stop_exit
items_at leaf (Leads_out out) = Leads_out Stop_exit

-- the same where there may be no node
abbrev pub items_behind : ℕ → Option NodeTree → NodeTree
items_behind leaf (Some node) = items_at leaf node
items_behind leaf None = Leads_out Stop_exit

-- what stands behind them on the no side
abbrev pub no_side : NodeTree → NodeTree
no_side (Item_node tag origin item rest) = no_side rest
no_side (Test_node tag origin on on_yes on_no) = on_no
no_side (Leads_to below) = Leads_out Stop_exit
no_side (Leads_out out) = Leads_out Stop_exit

-- items with a tree behind them
abbrev pub with_end : NodeTree → NodeTree → NodeTree
with_end (Item_node tag origin item rest) last = Item_node tag origin item (with_end rest last)
with_end (Test_node tag origin on on_yes on_no) last = last
with_end (Leads_to below) last = last
with_end (Leads_out out) last = last

-- whether a tree in memory is a leaf that leads to a node
abbrev pub leads_on : WindowTree → Bool
leads_on (stored.Step' tag origin item p rest) = false
leads_on (stored.Test' tag origin on p on_yes q on_no) = false
leads_on (stored.Node' p below) = true
leads_on (stored.Exit region tag homes) = false
leads_on stored.Stop = false
leads_on (stored.Trap kind line) = false
