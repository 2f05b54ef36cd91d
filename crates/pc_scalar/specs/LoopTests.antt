-- Tests of loops, which no pass folds away.
use Rattle.std.specs.Prelude.{◌≡◌, ℕ, Some, slice_get}
use Rattle.pc_flow.specs.declared.node.FlowNode.{FlowNode}
use Rattle.pc_flow.specs.FlowGraph.{FlowGraph, HasEdge, tested_loop}

-- the node with this number is the test of this loop's condition
pub record IsLoopTest (flow : FlowGraph) (at turn : ℕ) : Type 0 where
  pub node : FlowNode
  pub there : slice_get flow.nodes at ≡ Some node
  pub tests : tested_loop node ≡ Some turn

-- an edge leads from one node to another
pub record IsEdge (flow : FlowGraph) (from to : ℕ) : Type 0 where
  pub node : FlowNode
  pub there : slice_get flow.nodes from ≡ Some node
  pub edge : HasEdge node to

-- each test of a loop is one still, and edges that led to it lead to it still
pub record KeepsLoopTests (old new : FlowGraph) : Type 0 where
  pub stay : (at turn : ℕ) → IsLoopTest old at turn → IsLoopTest new at turn
  pub led : (from to turn : ℕ) → IsLoopTest old to turn → IsEdge old from to → IsEdge new from to
  pub begins : (turn : ℕ) → IsLoopTest old old.entry turn → new.entry ≡ old.entry
