-- What folding constants leaves.
use Rattle.std.specs.Prelude.{◌≡◌, ℕ, ℤ, Bool, true, false, Some, None, slice_get}
use Rattle.pc_word.specs.declared.item.Item.TheVariants.{Bin}
use Rattle.pc_word.specs.declared.item.OpCode.{OpCode}
use Rattle.pc_word.specs.declared.item.Operand.TheVariants.{Lit}
use Rattle.pc_flow.specs.declared.node.FlowNode.{FlowNode}
use Rattle.pc_flow.specs.declared.node.FlowNode.TheVariants.{Op, Test}
use Rattle.pc_flow.specs.FlowGraph.{FlowGraph}
use Rattle.pc_flow.specs.Reachable.{IsReachableNode}

-- whether folding changes or skips a node: an item of two literals, and a test of a literal, if it is no loop's
abbrev pub is_foldable : FlowNode → Bool
is_foldable (Op (Bin op dest (Lit left) (Lit right)) to) = true
is_foldable (Test (Lit value) on_yes on_no None) = true
is_foldable node = false

-- no node that can be reached computes a constant, and none but the test of a loop tests one
pub record IsFolded (flow : FlowGraph) : Type 0 where
  pub computes_none : (at to dest : ℕ) (op : OpCode) (left right : ℤ) → IsReachableNode flow at
      → slice_get flow.nodes at ≡ Some (Op (Bin op dest (Lit left) (Lit right)) to) → ⊥
  pub tests_none : (at on_yes on_no : ℕ) (value : ℤ) → IsReachableNode flow at
      → slice_get flow.nodes at ≡ Some (Test (Lit value) on_yes on_no None) → ⊥
