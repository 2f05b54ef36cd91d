-- Changes that were planned for a graph.
use Rattle.std.specs.Prelude.{◌≡◌, ◌<◌, ℕ, List, length, Some, slice_get}
use Rattle.pc_flow.specs.declared.node.FlowNode.{FlowNode}
use Rattle.pc_flow.specs.FlowGraph.{FlowGraph, NodeFits, KeepsTurn}
use Rattle.pc_scalar.specs.declared.plan.Plan.{Plan}

-- as many nodes as the graph has, each of which may take the place of the one with its number
pub record Fit (flow : FlowGraph) (nodes : List FlowNode) : Type 0 where
  pub as_many : length nodes ≡ length flow.nodes
  pub each : (at : ℕ) (old new : FlowNode) → slice_get flow.nodes at ≡ Some old → slice_get nodes at ≡ Some new
      → NodeFits flow at new × KeepsTurn old new

-- a plan that a graph may follow
pub record Fits (flow : FlowGraph) (plan : Plan) : Type 0 where
  pub nodes : Fit flow plan.nodes
  pub entry : plan.entry < length flow.nodes

-- the graph as planned
abbrev pub planned : Plan → FlowGraph → FlowGraph
planned plan flow = record flow { nodes = plan.nodes; entry = plan.entry }
