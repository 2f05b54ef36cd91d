-- Edges counted, where 2 stands for that number and every greater one.
use Rattle.std.specs.Prelude.{◌≡◌, ℕ, ◌+◌, min, List, length, slice_get, slice_index}
use Rattle.pc_flow.specs.declared.node.FlowNode.{FlowNode}
use Rattle.pc_flow.specs.FlowGraph.{FlowGraph}
use Rattle.pc_regions.specs.Reachable.{one_if, edges_of, in_edges}

-- a count so far, up to 2
abbrev pub up_to_two : ℕ → ℕ
up_to_two count = min count 2

-- the edges from these nodes, by the node to which they lead
pub record CountsEdges (flow : FlowGraph) (froms counts : List ℕ) : Type 0 where
  pub as_many : length counts ≡ length flow.nodes
  pub counted : (to : ℕ) → slice_index counts to ≡ up_to_two (in_edges flow froms to)

-- one edge more
pub record AddsEdge (next : ℕ) (old new : List ℕ) : Type 0 where
  pub as_many : length new ≡ length old
  pub added : (to : ℕ) → slice_index new to ≡ up_to_two (slice_index old to + one_if next to)

-- the edges of a node more
pub record AddsEdges (nodes : List FlowNode) (from : ℕ) (old new : List ℕ) : Type 0 where
  pub as_many : length new ≡ length old
  pub added : (to : ℕ) → slice_index new to ≡ up_to_two (slice_index old to + edges_of (slice_get nodes from) to)
