-- The parts of a divided node.
use Rattle.std.proofs.Common.{◌≡◌, refl, ◌∙◌, ap}
use Rattle.pc_moveop.specs.NodeTree.{NodeTree, Item_node, Test_node, Leads_to, Leads_out}
use Rattle.pc_movecj.specs.Dividing.{no_part}
use Rattle.pc_movecj.specs.models.TestClimbs.{items_before, no_side, with_end}

-- the copied items with the no side behind them
pub copied_part : (t items : NodeTree) → items ≡ items_before t → with_end items (no_side t) ≡ no_part t
copied_part t items e = ap (λ (n : NodeTree). with_end n (no_side t)) e ∙ whole t
  where
    whole : (t : NodeTree) → with_end (items_before t) (no_side t) ≡ no_part t
    whole (Item_node tag origin item rest) = ap (Item_node tag origin item) (whole rest)
    whole (Test_node tag origin on p q) = refl
    whole (Leads_to below) = refl
    whole (Leads_out out) = refl

pub ruleset dividing = (copied_part)
