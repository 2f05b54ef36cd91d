-- The reachable nodes of a flow graph, and how many edges from them lead to a node.
use Rattle.std.specs.Prelude.{◌≡◌, ℕ, ◌+◌, if◌then◌else◌, nat_eq, List, Option, Some, None, slice_get, sum_by}
use Rattle.pc_flow.specs.declared.node.FlowNode.{FlowNode}
use Rattle.pc_flow.specs.declared.node.FlowNode.TheVariants.{Op, Test, Stop, Trap}
use Rattle.pc_flow.specs.FlowGraph.{FlowGraph}
use Rattle.pc_flow.specs.Reachable.{IsReachableNode}

-- these are the reachable nodes, each once
pub record AreReachable (flow : FlowGraph) (reachable : List ℕ) : Type 0 where
  pub only : (place at : ℕ) → slice_get reachable place ≡ Some at → IsReachableNode flow at
  pub all : (at : ℕ) → IsReachableNode flow at → (place : ℕ) × (slice_get reachable place ≡ Some at)
  pub once : (one other at : ℕ) → slice_get reachable one ≡ Some at → slice_get reachable other ≡ Some at → one ≡ other

-- ---- edges, counted

-- 1 where a number is this node, and else 0
abbrev pub one_if : ℕ → ℕ → ℕ
one_if next to = if nat_eq next to then 1 else 0

-- the edges from a node to another; both edges of a test may lead to one node
abbrev pub edges_of : Option FlowNode → ℕ → ℕ
edges_of (Some (Op item next)) to = one_if next to
edges_of (Some (Test on on_yes on_no turn)) to = one_if on_yes to + one_if on_no to
edges_of (Some Stop) to = 0
edges_of (Some (Trap kind line)) to = 0
edges_of None to = 0

-- the edges to a node from these nodes
abbrev pub in_edges : FlowGraph → List ℕ → ℕ → ℕ
in_edges flow froms to = sum_by (λ from. edges_of (slice_get flow.nodes from) to) froms
