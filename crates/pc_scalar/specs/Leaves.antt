-- What a pass does to a graph, by what it leaves.
use Rattle.std.specs.Prelude.{ℕ}
use Rattle.pc_flow.specs.FlowGraph.{FlowGraph}
use Rattle.pc_scalar.specs.LoopTests.{KeepsLoopTests}
use Rattle.pc_scalar.specs.Tally.{Tallied}

-- the new graph is such as the pass leaves, the loops' tests are as in the old one, and the pass's count of changes rose by the
-- number of the nodes that it changed or skipped
pub record Leaves (IsLeft : FlowGraph → Type 0) (old new : FlowGraph) (before now : ℕ) : Type 0 where
  pub left : IsLeft new
  pub loop_tests : KeepsLoopTests old new
  pub tallied : Tallied old new before now
