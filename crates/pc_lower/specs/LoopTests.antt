-- Which nodes test loops, and in which loop they stand.
use Rattle.std.specs.Prelude.{◌≡◌, ℕ, ◌<◌, length, Some, IfSome, slice_get}
use Rattle.pc_flow.specs.declared.node.FlowNode.{FlowNode}
use Rattle.pc_flow.specs.FlowGraph.{FlowGraph, tested_loop}

-- a node with this number is the test of a loop
pub record HasTest (flow : FlowGraph) (number loop : ℕ) : Type 0 where
  pub node : FlowNode
  pub is_there : slice_get flow.nodes number ≡ Some node
  pub tests : tested_loop node ≡ Some loop

-- the test of each loop stands in that loop
abbrev pub TestsInside : FlowGraph → Type 0
TestsInside flow =
    (number : ℕ) (node : FlowNode) → slice_get flow.nodes number ≡ Some node
    → IfSome (tested_loop node) (λ turn. slice_get flow.inside number ≡ Some (Some turn))

-- and each loop has a test
abbrev pub EachTested : FlowGraph → Type 0
EachTested flow = (loop : ℕ) → loop < length flow.loops → (number : ℕ) × HasTest flow number loop
