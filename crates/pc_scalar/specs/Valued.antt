-- What the reuse of values leaves.
use Rattle.std.specs.Prelude.{◌≡◌, ℕ, false, Some, slice_get}
use Rattle.pc_word.specs.declared.item.Item.TheVariants.{Bin}
use Rattle.pc_word.specs.declared.item.OpCode.{OpCode}
use Rattle.pc_word.specs.declared.item.Operand.{Operand}
use Rattle.pc_flow.specs.declared.node.FlowNode.TheVariants.{Op}
use Rattle.pc_flow.specs.FlowGraph.{FlowGraph}
use Rattle.pc_flow.specs.Reachable.{IsReachableNode}
use Rattle.pc_scalar.specs.Chain.{Stands}
use Rattle.pc_word.specs.Items.{reads_name}

-- no node that can be reached computes what stands there in a variable, which is none of the operands
pub record ComputesNoneAgain (flow : FlowGraph) : Type 0 where
  pub none : (at to dest earlier : ℕ) (op : OpCode) (left right : Operand) → IsReachableNode flow at
      → slice_get flow.nodes at ≡ Some (Op (Bin op dest left right) to)
      → reads_name left earlier ≡ false → reads_name right earlier ≡ false → Stands flow (Bin op earlier left right) at → ⊥
