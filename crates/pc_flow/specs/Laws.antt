-- Laws of the definitions. Each is the contract of a function of laws.rt, which does nothing.
use Rattle.std.specs.Prelude.{◌≡◌, ◌<◌, ℤ, List, Some, None, slice_get, slice_index}
use Rattle.pc_word.specs.Run.{Goes, Grows}
use Rattle.pc_flow.specs.declared.node.FlowNode.{FlowNode}
use Rattle.pc_flow.specs.FlowGraph.{FlowGraph, IsFlow, IsTarget, tested_loop}
use Rattle.pc_flow.specs.FlowRun.{FlowState, flow_step, flow_run}

-- with more nodes the printed list only grows, and an end stays
abbrev pub FlowRunsGrow : Type 0
FlowRunsGrow = (flow : FlowGraph) (input : List ℤ) → Grows (flow_run flow input)

-- a run stays among the nodes of its graph, and its rank falls but for the test of a loop
abbrev pub RanksFall : Type 0
RanksFall =
    (flow : FlowGraph) (here next : FlowState) (out : List ℤ) (node : FlowNode)
    → IsFlow flow → slice_get flow.nodes here.node ≡ Some node → flow_step flow here ≡ Goes out next
    → IsTarget flow next.node
    × ((tested_loop node ≡ None) → slice_index flow.ranks next.node < slice_index flow.ranks here.node)
