-- Nodes that are counted, as the code tells them.
use Rattle.std.specs.Prelude.{◌≡◌, ◌≢◌, ◌&&◌, ℕ, Bool, true, false, not, List, length, Option, Some, None, slice_get}
use Rattle.pc_word.specs.declared.item.Item.{Item}
use Rattle.pc_word.specs.declared.item.Item.TheVariants.{Bin, Copy, Load, Store, Print, Read, More}
use Rattle.pc_word.specs.declared.item.Operand.{Operand}
use Rattle.pc_flow.specs.declared.node.FlowNode.{FlowNode}
use Rattle.pc_flow.specs.declared.node.FlowNode.TheVariants.{Op, Test, Stop, Trap}
use Rattle.pc_flow.specs.FlowGraph.{FlowGraph}
use Rattle.pc_flow.specs.Reachable.{IsReachableNode}
use Rattle.pc_scalar.specs.models.Known.{same_operand}

-- a node that can be reached passes a test, which is given its number too
pub record IsReachedAnd (test : ℕ → FlowNode → Bool) (flow : FlowGraph) (at : ℕ) : Type 0 where
  pub reached : IsReachableNode flow at
  pub node : FlowNode
  pub there : slice_get flow.nodes at ≡ Some node
  pub passes : test at node ≡ true

-- nodes differ at a place
pub record Differ (old new : List FlowNode) (at : ℕ) : Type 0 where
  pub before : FlowNode
  pub after : FlowNode
  pub was : slice_get old at ≡ Some before
  pub stands : slice_get new at ≡ Some after
  pub other : after ≢ before

-- ---- whether an item or a test was rewritten, which tells by its operands

-- the operands of an item, of which there are at most two
abbrev pub first_operand : Item → Option Operand
first_operand (Bin op dest left right) = Some left
first_operand (Copy dest from) = Some from
first_operand (Load dest array index) = Some index
first_operand (Store array index value) = Some index
first_operand (Print value) = Some value
first_operand (Read dest) = None
first_operand (More dest) = None

abbrev pub second_operand : Item → Option Operand
second_operand (Bin op dest left right) = Some right
second_operand (Copy dest from) = None
second_operand (Load dest array index) = None
second_operand (Store array index value) = Some value
second_operand (Print value) = None
second_operand (Read dest) = None
second_operand (More dest) = None

-- whether both are there and the same, or none is
abbrev pub same_if_any : Option Operand → Option Operand → Bool
same_if_any (Some one) (Some other) = same_operand one other
same_if_any (Some one) None = false
same_if_any None (Some other) = false
same_if_any None None = true

-- whether two items have the same operands
abbrev pub same_operands : Item → Item → Bool
same_operands one other = same_if_any (first_operand one) (first_operand other) && same_if_any (second_operand one) (second_operand other)

-- whether the operands of a node differ from those of an item, from that of a test
abbrev pub differs_from_item : Item → FlowNode → Bool
differs_from_item item (Op other to) = not (same_operands item other)
differs_from_item item node = false

abbrev pub differs_from_test : Operand → FlowNode → Bool
differs_from_test on (Test other on_yes on_no turn) = not (same_operand on other)
differs_from_test on node = false

-- from those of a node
abbrev pub differs_from : FlowNode → FlowNode → Bool
differs_from (Op item to) node = differs_from_item item node
differs_from (Test on on_yes on_no turn) node = differs_from_test on node
differs_from Stop node = false
differs_from (Trap kind line) node = false

-- nodes of which those with the same operands are the same
pub record TellByOperands (old new : List FlowNode) : Type 0 where
  pub as_many : length new ≡ length old
  pub each : (at : ℕ) (node other : FlowNode) → slice_get old at ≡ Some node → slice_get new at ≡ Some other → differs_from node other ≡ false → other ≡ node
