-- What each pass counts: the nodes that it changed or skipped, each once.
use Rattle.std.specs.Prelude.{◌≡◌, ◌≢◌, ◌⊎◌, ℕ, suc, ◌+◌, ◌-◌, ◌^◌, min, length, Some, slice_get}
use Rattle.pc_flow.specs.declared.node.FlowNode.{FlowNode}
use Rattle.pc_flow.specs.declared.node.FlowNode.TheVariants.{Op, Test, Stop, Trap}
use Rattle.pc_flow.specs.FlowGraph.{FlowGraph}
use Rattle.pc_flow.specs.Reachable.{IsReachableNode}
use Rattle.pc_scalar.specs.LoopTests.{IsEdge}

-- the count with so many more, which stands still at the end of u64
abbrev pub counted : ℕ → ℕ → ℕ
counted before more = min (before + more) (2 ^ 64 - 1)

-- of the numbers below a bound so many are such
pub data AreMany (Is : ℕ → Type 0) : (bound : ℕ) → (many : ℕ) → Type 0 where
  None_below : AreMany Is 0 0
  One_is : {bound many : ℕ} → AreMany Is bound many → Is bound → AreMany Is (suc bound) (suc many)
  One_is_not : {bound many : ℕ} → AreMany Is bound many → (Is bound → ⊥) → AreMany Is (suc bound) many

-- a node, wherever its edges lead
abbrev pub without_edges : FlowNode → FlowNode
without_edges (Op item to) = Op item 0
without_edges (Test on on_yes on_no turn) = Test on 0 0 turn
without_edges Stop = Stop
without_edges (Trap kind line) = Trap kind line

-- a node that could be reached is another one now, and not only by its edges
pub record IsChangedNode (old new : FlowGraph) (at : ℕ) : Type 0 where
  pub reached : IsReachableNode old at
  pub before : FlowNode
  pub after : FlowNode
  pub was : slice_get old.nodes at ≡ Some before
  pub stands : slice_get new.nodes at ≡ Some after
  pub other : without_edges after ≢ without_edges before

-- a node that could be reached is skipped: no node that could be reached leads there now, and the graph does not begin there
pub record IsSkippedNode (old new : FlowGraph) (at : ℕ) : Type 0 where
  pub reached : IsReachableNode old at
  pub not_entry : at ≢ new.entry
  pub led_past : (from : ℕ) → IsReachableNode old from → IsEdge new from at → ⊥

-- a node was changed or skipped
abbrev pub IsWorkedOn : FlowGraph → FlowGraph → ℕ → Type 0
IsWorkedOn old new at = IsChangedNode old new at ⊎ IsSkippedNode old new at

-- a count rose by the number of the nodes that were changed or skipped
pub record Tallied (old new : FlowGraph) (before now : ℕ) : Type 0 where
  pub many : ℕ
  pub are_many : AreMany (IsWorkedOn old new) (length old.nodes) many
  pub rose : now ≡ counted before many
