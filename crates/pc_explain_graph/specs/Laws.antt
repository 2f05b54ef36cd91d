-- The law of graphs of explanations. It is the contract of a function of laws.rt, which does nothing.
use Rattle.std.specs.Prelude.{◌≡◌, ℕ, List, Contains, Option, Some, slice_get}
use Rattle.pc_word.specs.declared.item.Limits.{Limits}
use Rattle.pc_explain.specs.Explained.{LoopSchedule, Explanation}
use Rattle.pc_explain.specs.EachState.{StateExplanation, explained_states}
use Rattle.pc_explain.specs.Legends.{SourceLegend}
use Rattle.pc_explain_graph.specs.Graph.{node_start, graph_lines}

-- the schedule of the loop at this place has a state with this number, which is explained
pub record HasState (explanations : List Explanation) (cluster number : ℕ) : Type 0 where
  pub it : Explanation
  pub schedule : LoopSchedule
  pub state : StateExplanation
  pub there : slice_get explanations cluster ≡ Some it
  pub scheduled : it.schedule ≡ Some schedule
  pub here : slice_get (explained_states schedule) number ≡ Some state

-- each such state has a node in the graph
abbrev pub GraphsHaveANodeForEachState : Type 0
GraphsHaveANodeForEachState = (limits : Limits) (legend : SourceLegend) (asked : Option ℕ) (explanations : List Explanation) (cluster number : ℕ)
    → HasState explanations cluster number → Contains (graph_lines limits legend asked explanations) (node_start cluster number)
