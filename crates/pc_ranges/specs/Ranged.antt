-- What the pass of intervals leaves.
use Rattle.std.specs.Prelude.{◌≡◌, ℕ, true, false, List, Some, None, slice_get}
use Rattle.pc_word.specs.declared.item.Item.TheVariants.{Bin}
use Rattle.pc_word.specs.declared.item.OpCode.{OpCode}
use Rattle.pc_word.specs.declared.item.Operand.{Operand}
use Rattle.pc_flow.specs.declared.node.FlowNode.{FlowNode}
use Rattle.pc_flow.specs.declared.node.FlowNode.TheVariants.{Op, Test}
use Rattle.pc_flow.specs.FlowGraph.{FlowGraph}
use Rattle.pc_flow.specs.Reachable.{IsReachableNode}
use Rattle.pc_live.specs.Live.{node_reads}
use Rattle.pc_scalar.specs.Leaves.{Leaves}
use Rattle.pc_ranges.specs.declared.bounds.Bounds.{Bounds}
use Rattle.pc_ranges.specs.Interval.{is_single, is_zero, lacks_zero, interval_of, operand_interval}
use Rattle.pc_ranges.specs.Bounds.{bounds_at, IsKept}
use Rattle.pc_ranges.specs.Over.{over}

-- There is a map that every edge of the graph before keeps, under which, in the graph after, no node that can be reached is a
-- test, other than a loop's, whose operand is 0 alone or lacks 0, or an item whose operator gives a single word, or names a
-- variable of a single word.
pub record IsRanged (old new : FlowGraph) : Type 0 where
  pub map : List Bounds
  pub kept : IsKept old map
  pub undecided : (at on_yes on_no : ℕ) (on : Operand) → IsReachableNode new at → slice_get new.nodes at ≡ Some (Test on on_yes on_no None)
      → (is_zero (operand_interval (bounds_at map at).intervals on) ≡ false) × (lacks_zero (operand_interval (bounds_at map at).intervals on) ≡ false)
  pub computes_many : (at to dest : ℕ) (op : OpCode) (left right : Operand) → IsReachableNode new at
      → slice_get new.nodes at ≡ Some (Op (Bin op dest left right) to)
      → is_single (over op (operand_interval (bounds_at map at).intervals left) (operand_interval (bounds_at map at).intervals right)) ≡ false
  pub names_many : (at variable : ℕ) (node : FlowNode) → IsReachableNode new at → slice_get new.nodes at ≡ Some node
      → node_reads node variable ≡ true → is_single (interval_of (bounds_at map at).intervals variable) ≡ false

-- The pass: it leaves such a graph, the loops' tests are as they were, and the count of changes rose by the number of the nodes that it
-- changed or skipped.
abbrev pub LeavesRanged : FlowGraph → FlowGraph → ℕ → ℕ → Type 0
LeavesRanged old = Leaves (IsRanged old) old
