-- Loops of a flow graph: what belongs to each, and where it is entered.
use Rattle.std.specs.Prelude.{◌≡◌, ℕ, ◌≤◌, List, Option, Some, None, slice_get}
use Rattle.pc_word.specs.declared.loop_mark.LoopMark.{LoopMark}
use Rattle.pc_flow.specs.declared.node.FlowNode.{FlowNode}
use Rattle.pc_flow.specs.FlowGraph.{FlowGraph, HasEdge}
use Rattle.pc_flow.specs.Reachable.{IsReachableNode}

-- a loop is another one, or stands in it, however deep
pub data IsWithin (loops : List LoopMark) : (inner outer : ℕ) → Type 0 where
  Same : {loop : ℕ} → IsWithin loops loop loop
  Deeper : {inner round outer : ℕ} {mark : LoopMark} →
      slice_get loops inner ≡ Some mark →
      mark.outer ≡ Some round →
      IsWithin loops round outer →
      IsWithin loops inner outer

-- a node belongs to a loop where it is inside the loop, or inside a loop within it
pub record BelongsTo (flow : FlowGraph) (loop at : ℕ) : Type 0 where
  pub inner : ℕ
  pub inside : slice_get flow.inside at ≡ Some (Some inner)
  pub within : IsWithin flow.loops inner loop

-- a loop is entered at a node that belongs to it: the graph begins there, or an edge leads there from a reachable node
-- that does not belong to the loop
pub data IsEntered (flow : FlowGraph) (loop : ℕ) : (at : ℕ) → Type 0 where
  Begins : BelongsTo flow loop flow.entry → IsEntered flow loop flow.entry
  Led_into : {from to : ℕ} {node : FlowNode} →
      IsReachableNode flow from →
      slice_get flow.nodes from ≡ Some node →
      HasEdge node to →
      (BelongsTo flow loop from → ⊥) →
      BelongsTo flow loop to →
      IsEntered flow loop to

-- the header of a loop: of the nodes where it is entered, the one with the least number
pub record IsHeader (flow : FlowGraph) (loop at : ℕ) : Type 0 where
  pub entered : IsEntered flow loop at
  pub least : (other : ℕ) → IsEntered flow loop other → at ≤ other

-- the loop whose header a node is, and the innermost one where several loops have that header
abbrev pub HeadsLoop : FlowGraph → ℕ → Option ℕ → Type 0
HeadsLoop flow at None = (loop : ℕ) → IsHeader flow loop at → ⊥
HeadsLoop flow at (Some loop) = IsHeader flow loop at × ((other : ℕ) → IsHeader flow other at → IsWithin flow.loops loop other)
