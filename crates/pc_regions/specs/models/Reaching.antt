-- The reachable nodes in the making.
use Rattle.std.specs.Prelude.{◌≡◌, ◌⊎◌, ℕ, ◌<◌, ◌≤◌, List, length, Some, slice_get}
use Rattle.pc_flow.specs.declared.node.FlowNode.{FlowNode}
use Rattle.pc_flow.specs.FlowGraph.{FlowGraph, HasEdge}
use Rattle.pc_flow.specs.Reachable.{IsReachableNode}
use Rattle.pc_regions.specs.models.Numbered.{Numbered, KeepsPlaces}

-- the nodes to which the edges of a node lead have been met, and no others
pub record MeetsEdges (nodes : List FlowNode) (from : ℕ) (old new : Numbered) : Type 0 where
  pub as_many_nodes : length new.numbers ≡ length old.numbers
  pub keeps : KeepsPlaces old.order new.order
  pub all : (node : FlowNode) (to : ℕ) → slice_get nodes from ≡ Some node → HasEdge node to → (place : ℕ) × (slice_get new.order place ≡ Some to)
  pub only : (place at : ℕ) → slice_get new.order place ≡ Some at
      → (slice_get old.order place ≡ Some at) ⊎ ((node : FlowNode) × (slice_get nodes from ≡ Some node) × HasEdge node at)

-- the nodes that were met are reachable, and of so many of them the edges were gone along
pub record IsReaching (flow : FlowGraph) (it : Numbered) (done : ℕ) : Type 0 where
  pub nodes : length it.numbers ≡ length flow.nodes
  pub entry : slice_get it.order 0 ≡ Some flow.entry
  pub few : done ≤ length it.order
  pub only : (place at : ℕ) → slice_get it.order place ≡ Some at → IsReachableNode flow at
  pub closed : (place at to : ℕ) (node : FlowNode) → place < done → slice_get it.order place ≡ Some at → slice_get flow.nodes at ≡ Some node → HasEdge node to
      → (other : ℕ) × (slice_get it.order other ≡ Some to)
