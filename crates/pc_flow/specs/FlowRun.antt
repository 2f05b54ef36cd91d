-- What a flow graph does: one node after another, each in one unit.
use Rattle.std.specs.Prelude.{ℕ, ℤ, if◌then◌else◌, List, [], Option, Some, None, slice_get}
use Rattle.pc_word.specs.declared.item.End.TheVariants.{Ended, Trapped, Fault}
use Rattle.pc_word.specs.Word.{holds}
use Rattle.pc_word.specs.Run.{Run, Step, Goes, Stops, run_from}
use Rattle.pc_word.specs.State.{State, start_state}
use Rattle.pc_word.specs.Items.{operand_value}
use Rattle.pc_word.specs.Row.{RowOutcome, Faults, Commits, item_step}
use Rattle.pc_flow.specs.declared.node.FlowNode.{FlowNode}
use Rattle.pc_flow.specs.declared.node.FlowNode.TheVariants.{Op, Test, Stop, Trap}
use Rattle.pc_flow.specs.FlowGraph.{FlowGraph}

-- where a graph is: the node that comes next, and the state, whose names are the variables
pub record FlowState : Type 0 where
  pub node : ℕ
  pub state : State

-- an item goes on to the node after it; a fault ends the run, and its node prints nothing
abbrev pub step_after_item : RowOutcome ℕ → Step FlowState
step_after_item (Faults fault) = Stops [] (Fault fault)
step_after_item (Commits out new to) = Goes out (record { node = to; state = new })

-- one node: an item does what the row of this item alone does. A number that no node has ends the run
abbrev pub run_node : List ℕ → State → Option FlowNode → Step FlowState
run_node lengths s (Some (Op item to)) = step_after_item (item_step lengths item to s)
run_node lengths s (Some (Test on on_yes on_no turn)) =
    Goes [] (record { node = if holds (operand_value s.names on) then on_yes else on_no; state = s })
run_node lengths s (Some Stop) = Stops [] Ended
run_node lengths s (Some (Trap kind line)) = Stops [] (Trapped kind line)
run_node lengths s None = Stops [] Ended

-- one unit of nodes, by number, with arrays of these lengths
abbrev pub node_step : List FlowNode → List ℕ → FlowState → Step FlowState
node_step nodes lengths here = run_node lengths here.state (slice_get nodes here.node)

-- the entry, with all variables 0, on arrays that begin with these data
abbrev pub flow_start : ℕ → List (List ℤ) → List ℤ → FlowState
flow_start entry initial input = record { node = entry; state = start_state initial input }

-- the run of nodes with arrays of these lengths, which begin with these data, from an entry, on an input: at most n nodes
abbrev pub nodes_run : List FlowNode → List ℕ → List (List ℤ) → ℕ → List ℤ → Run
nodes_run nodes lengths initial entry input n = run_from (node_step nodes lengths) n (flow_start entry initial input)

-- one unit of a graph
abbrev pub flow_step : FlowGraph → FlowState → Step FlowState
flow_step flow = node_step flow.nodes flow.arrays

-- the run of a graph
abbrev pub flow_run : FlowGraph → List ℤ → Run
flow_run flow = nodes_run flow.nodes flow.arrays flow.initial flow.entry
