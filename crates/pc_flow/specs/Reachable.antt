-- Which nodes of a flow graph can come next at all.
use Rattle.std.specs.Prelude.{◌≡◌, ℕ, Some, slice_get}
use Rattle.pc_flow.specs.declared.node.FlowNode.{FlowNode}
use Rattle.pc_flow.specs.FlowGraph.{FlowGraph, HasEdge}

-- a node is the entry, or an edge leads to it from such a node
pub data IsReachableNode (flow : FlowGraph) : (at : ℕ) → Type 0 where
  Entry : IsReachableNode flow flow.entry
  Behind : {from to : ℕ} {node : FlowNode} →
      IsReachableNode flow from →
      slice_get flow.nodes from ≡ Some node →
      HasEdge node to →
      IsReachableNode flow to
