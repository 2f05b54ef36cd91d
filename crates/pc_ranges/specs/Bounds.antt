-- What is known of the variables where a graph comes to a node, and when a map of it holds of all runs.
use Rattle.std.specs.Prelude.{◌≡◌, ℕ, ℤ, List, [], Option, Some, None, IfSome, slice_get}
use Rattle.pc_word.specs.declared.item.Item.TheVariants.{Bin}
use Rattle.pc_word.specs.declared.item.OpCode.{OpCode}
use Rattle.pc_word.specs.declared.item.Operand.{Operand}
use Rattle.pc_word.specs.Run.{Goes}
use Rattle.pc_word.specs.State.{State, start_state}
use Rattle.pc_word.specs.Items.{operand_value}
use Rattle.pc_word.specs.Word.{word_apply}
use Rattle.pc_flow.specs.declared.node.FlowNode.TheVariants.{Op}
use Rattle.pc_flow.specs.FlowGraph.{FlowGraph}
use Rattle.pc_flow.specs.FlowRun.{FlowState, flow_step}
use Rattle.pc_ranges.specs.declared.bounds.Bounds.{Bounds}
use Rattle.pc_ranges.specs.Interval.{LiesIn, interval_of}

-- the item with this number, if it has an operator, was done, and its variable still has what it gives
pub record IsDone (flow : FlowGraph) (from : ℕ) (s : State) : Type 0 where
  pub value : (op : OpCode) (dest to : ℕ) (left right : Operand) → slice_get flow.nodes from ≡ Some (Op (Bin op dest left right) to)
      → s.names dest ≡ word_apply op (operand_value s.names left) (operand_value s.names right)

-- the variables of a state lie in their intervals, and the latest item, if it is known, was done
pub record IsWithin (flow : FlowGraph) (bounds : Bounds) (s : State) : Type 0 where
  pub lie : (variable : ℕ) → LiesIn (interval_of bounds.intervals variable) (s.names variable)
  pub done : IfSome bounds.latest (λ from. IsDone flow from s)

-- what is known at a node, where each is listed by its number; of a node that is not listed, nothing
abbrev pub bounds_if : Option Bounds → Bounds
bounds_if (Some bounds) = bounds
bounds_if None = record { intervals = []; latest = None }

abbrev pub bounds_at : List Bounds → ℕ → Bounds
bounds_at map at = bounds_if (slice_get map at)

-- Every edge of a graph keeps a map: the start is within what is known at the entry, and a step from a state that is within what
-- is known at its node leads to one that is within what is known at the next.
pub record IsKept (flow : FlowGraph) (map : List Bounds) : Type 0 where
  pub begins : (input : List ℤ) → IsWithin flow (bounds_at map flow.entry) (start_state flow.initial input)
  pub goes_on : (here next : FlowState) (printed : List ℤ) → IsWithin flow (bounds_at map here.node) here.state
      → flow_step flow here ≡ Goes printed next → IsWithin flow (bounds_at map next.node) next.state
