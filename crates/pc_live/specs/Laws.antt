-- What liveness is good for: variables that are not live do not matter.
use Rattle.std.specs.Prelude.{◌≡◌, ℕ}
use Rattle.pc_word.specs.Run.{Step, Goes, Stops, run_from}
use Rattle.pc_flow.specs.FlowGraph.{FlowGraph}
use Rattle.pc_flow.specs.FlowRun.{FlowState, flow_step}
use Rattle.pc_live.specs.Live.{IsLive}

-- two states at the same node, with the same elements and input left, and the same values of the variables that are live there
pub record AlikeWhereLive (flow : FlowGraph) (s t : FlowState) : Type 0 where
  pub same_node : t.node ≡ s.node
  pub same_cells : t.state.cells ≡ s.state.cells
  pub same_input : t.state.input ≡ s.state.input
  pub same_names : (variable : ℕ) → IsLive flow variable s.node → t.state.names variable ≡ s.state.names variable

-- two steps print the same, and end alike or lead to states that are alike
abbrev pub StepsAlike : FlowGraph → Step FlowState → Step FlowState → Type 0
StepsAlike flow (Goes printed s) (Goes other t) = (other ≡ printed) × AlikeWhereLive flow s t
StepsAlike flow (Stops printed end) (Stops other last) = (other ≡ printed) × (last ≡ end)
StepsAlike flow (Goes printed s) (Stops other last) = ⊥
StepsAlike flow (Stops printed end) (Goes other t) = ⊥

-- one unit from two states that are alike
abbrev pub AlikeStaysAlike : Type 0
AlikeStaysAlike = (flow : FlowGraph) (s t : FlowState) → AlikeWhereLive flow s t → StepsAlike flow (flow_step flow s) (flow_step flow t)

-- from two states that are alike the runs show the same
abbrev pub DeadVariablesDoNotMatter : Type 0
DeadVariablesDoNotMatter =
    (flow : FlowGraph) (s t : FlowState) (n : ℕ) → AlikeWhereLive flow s t
    → run_from (flow_step flow) n t ≡ run_from (flow_step flow) n s
