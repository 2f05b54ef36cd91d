-- The first test of a node, what it passes on its way up into the node above, and a node that it divides.
use Rattle.std.specs.Prelude.{ℕ, ◌-◌, true, false, if◌then◌else◌, nat_eq, nat_lt, List, [], ◌∷◌, Option, Some, None}
use Rattle.pc_word.specs.declared.item.Operand.{Operand}
use Rattle.pc_window.specs.Tree.{Stop_exit}
use Rattle.pc_moveop.specs.NodeTree.{NodeTree, Item_node, Test_node, Leads_to, Leads_out, leaf_count}
use Rattle.pc_moveop.specs.Climbing.{Passed, Passed_item}
use Rattle.pc_moveop.specs.Taking.{leaf_to}

-- a test, and all that it passes, from above
pub record MovingTest : Type 0 where
  pub tag : ℕ
  pub origin : ℕ
  pub on : Operand
  pub way : List Passed

-- one more is passed, above the others
abbrev pub passing_test : Passed → Option MovingTest → Option MovingTest
passing_test what (Some m) = Some (record { tag = m.tag; origin = m.origin; on = m.on; way = what ∷ m.way })
passing_test what None = None

-- the first test of a node, and the items before it
abbrev pub first_test : NodeTree → Option MovingTest
first_test (Item_node tag origin item rest) = passing_test (Passed_item false origin item) (first_test rest)
first_test (Test_node tag origin on on_yes on_no) = Some (record { tag = tag; origin = origin; on = on; way = [] })
first_test (Leads_to below) = None
first_test (Leads_out out) = None

-- the first test of the node that a leaf leads to, and what it passes on its way to that leaf
abbrev pub moving_test_at : ℕ → NodeTree → Option MovingTest
moving_test_at leaf (Item_node tag origin item rest) = passing_test (Passed_item true origin item) (moving_test_at leaf rest)
moving_test_at leaf (Test_node tag origin on on_yes on_no) =
    if nat_lt leaf (leaf_count on_yes) then moving_test_at leaf on_yes else moving_test_at (leaf - leaf_count on_yes) on_no
moving_test_at leaf (Leads_to below) = if nat_eq leaf 0 then first_test below else None
moving_test_at leaf (Leads_out out) = None

-- ---- the two sides

-- the yes side of the first test of a node, behind the items before it
abbrev pub yes_part : NodeTree → NodeTree
yes_part (Item_node tag origin item rest) = Item_node tag origin item (yes_part rest)
yes_part (Test_node tag origin on on_yes on_no) = on_yes
yes_part (Leads_to below) = Leads_to below
yes_part (Leads_out out) = Leads_out out

-- the same of its no side; where there is no test there is none
abbrev pub no_part : NodeTree → NodeTree
no_part (Item_node tag origin item rest) = Item_node tag origin item (no_part rest)
no_part (Test_node tag origin on on_yes on_no) = on_no
no_part (Leads_to below) = Leads_out Stop_exit
no_part (Leads_out out) = Leads_out Stop_exit

-- a node in which a test stands in place of a leaf, and divides the node behind it
abbrev pub divided : (tag origin : ℕ) → Operand → (leaf : ℕ) → NodeTree → NodeTree
divided tag origin on leaf (Item_node t o item rest) = Item_node t o item (divided tag origin on leaf rest)
divided tag origin on leaf (Test_node t o other on_yes on_no) =
    if nat_lt leaf (leaf_count on_yes) then Test_node t o other (divided tag origin on leaf on_yes) on_no
    else Test_node t o other on_yes (divided tag origin on (leaf - leaf_count on_yes) on_no)
divided tag origin on leaf (Leads_to below) =
    if nat_eq leaf 0 then Test_node tag origin on (leaf_to (yes_part below)) (leaf_to (no_part below)) else Leads_to below
divided tag origin on leaf (Leads_out out) = Leads_out out
