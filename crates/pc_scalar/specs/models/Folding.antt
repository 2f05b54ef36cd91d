-- Folding constants, as the code does it.
use Rattle.std.specs.Prelude.{◌≡◌, ℕ, if◌then◌else◌, List, length, map, Some, None, slice_get, slice_index}
use Rattle.pc_word.specs.declared.item.Item.{Item}
use Rattle.pc_word.specs.declared.item.Item.TheVariants.{Bin, Copy}
use Rattle.pc_word.specs.declared.item.Operand.TheVariants.{Lit}
use Rattle.pc_word.specs.Word.{holds, word_apply}
use Rattle.pc_flow.specs.declared.node.FlowNode.{FlowNode}
use Rattle.pc_flow.specs.declared.node.FlowNode.TheVariants.{Op, Test, Stop, Trap}
use Rattle.pc_flow.specs.FlowGraph.{FlowGraph, IsFlow}
use Rattle.pc_scalar.specs.Folded.{is_foldable}
use Rattle.pc_scalar.specs.Tally.{AreMany}
use Rattle.pc_scalar.specs.models.Counted.{IsReachedAnd}
use Rattle.pc_scalar.specs.declared.plan.Plan.{Plan}
use Rattle.pc_scalar.specs.models.Ends.{AreEnds, led}

-- an item of two literals copies what it computes
abbrev pub folded_item : Item → Item
folded_item (Bin op dest (Lit left) (Lit right)) = Copy dest (Lit (word_apply op left right))
folded_item item = item

abbrev pub folded : FlowNode → FlowNode
folded (Op item to) = Op (folded_item item) to
folded (Test on on_yes on_no turn) = Test on on_yes on_no turn
folded Stop = Stop
folded (Trap kind line) = Trap kind line

-- the node that takes a node's place: the side that is taken of a test of a literal, if it is no loop's, and else the node itself
abbrev pub taken : ℕ → FlowNode → ℕ
taken at (Test (Lit value) on_yes on_no None) = if holds value then on_yes else on_no
taken at node = at

-- a table of them
pub record AreTaken (flow : FlowGraph) (table : List ℕ) : Type 0 where
  pub is_flow : IsFlow flow
  pub as_many : length table ≡ length flow.nodes
  pub each : (at : ℕ) (node : FlowNode) → slice_get flow.nodes at ≡ Some node → slice_index table at ≡ taken at node

-- the plan by which a graph is folded: nodes are folded, and edges lead to the ends of the chains of taken sides
pub record IsFolding (flow : FlowGraph) (plan : Plan) : Type 0 where
  pub table : List ℕ
  pub ends : List ℕ
  pub taken_sides : AreTaken flow table
  pub are_ends : AreEnds table ends
  pub nodes : plan.nodes ≡ map (λ node. led ends (folded node)) flow.nodes
  pub entry : plan.entry ≡ slice_index ends flow.entry
  pub changed : AreMany (IsReachedAnd (λ at. is_foldable) flow) (length flow.nodes) plan.changed
