-- What the propagation of copies leaves.
use Rattle.std.specs.Prelude.{◌≡◌, ◌≢◌, ℕ, true, Some, slice_get}
use Rattle.pc_word.specs.declared.item.Item.TheVariants.{Copy}
use Rattle.pc_word.specs.declared.item.Operand.{Operand}
use Rattle.pc_word.specs.declared.item.Operand.TheVariants.{Name}
use Rattle.pc_flow.specs.declared.node.FlowNode.{FlowNode}
use Rattle.pc_flow.specs.FlowGraph.{FlowGraph}
use Rattle.pc_live.specs.Live.{node_reads}
use Rattle.pc_flow.specs.Reachable.{IsReachableNode}
use Rattle.pc_scalar.specs.Chain.{Stands}

-- no node that can be reached names a variable that stands there as a copy of another operand
pub record NamesNoCopy (flow : FlowGraph) : Type 0 where
  pub none : (at name : ℕ) (node : FlowNode) (from : Operand) → IsReachableNode flow at → slice_get flow.nodes at ≡ Some node
      → node_reads node name ≡ true → from ≢ Name name → Stands flow (Copy name from) at → ⊥
