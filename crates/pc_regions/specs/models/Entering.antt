-- Headers of loops in the making: edges that enter loops, one after the other.
use Rattle.std.specs.Prelude.{◌≡◌, ◌⊎◌, ℕ, suc, ◌<◌, ◌≤◌, min, List, [], ◌∷◌, ◌++◌, length, Option, Some, None, slice_get, slice_index_or}
use Rattle.pc_word.specs.declared.loop_mark.LoopMark.{LoopMark}
use Rattle.pc_flow.specs.declared.node.FlowNode.{FlowNode}
use Rattle.pc_flow.specs.FlowGraph.{FlowGraph, HasEdge}
use Rattle.pc_regions.specs.Loops.{IsWithin, BelongsTo}

-- the loop round a loop
pub record Rounds (loops : List LoopMark) (loop : ℕ) (round : Option ℕ) : Type 0 where
  pub mark : LoopMark
  pub there : slice_get loops loop ≡ Some mark
  pub outer : mark.outer ≡ round

-- where something stands in the innermost loop `inner`, if any, it stands in this loop
abbrev pub InLoop : List LoopMark → Option ℕ → ℕ → Type 0
InLoop loops None loop = ⊥
InLoop loops (Some inner) loop = IsWithin loops inner loop

-- an edge from outside a loop leads into it
abbrev pub LeadsInto : List LoopMark → (inner outside : Option ℕ) → ℕ → Type 0
LeadsInto loops inner outside loop = InLoop loops inner loop × (InLoop loops outside loop → ⊥)

-- a number that is less for the loop round a loop, and 0 for no loop
abbrev pub depth_bound : Option ℕ → ℕ
depth_bound None = 0
depth_bound (Some loop) = suc loop

-- the header of a loop so far
abbrev pub header_at : List (Option ℕ) → ℕ → Option ℕ
header_at headers loop = slice_index_or headers loop None

-- the lesser of a node and a header so far
abbrev pub lesser : Option ℕ → ℕ → ℕ
lesser None at = at
lesser (Some header) at = min header at

-- each loop that an edge leads into has the node to which it leads as header, unless it had a lesser one; others are as before
pub record Enters (loops : List LoopMark) (inner outside : Option ℕ) (to : ℕ) (old new : List (Option ℕ)) : Type 0 where
  pub as_many : length new ≡ length old
  pub each : (loop : ℕ) → loop < length old
      → (LeadsInto loops inner outside loop × (header_at new loop ≡ Some (lesser (header_at old loop) to)))
      ⊎ ((LeadsInto loops inner outside loop → ⊥) × (header_at new loop ≡ header_at old loop))

-- a loop is entered at a node: the graph begins there, or an edge leads there from one of these nodes, which does not belong to
-- the loop
pub data IsEnteredFrom (flow : FlowGraph) (froms : List ℕ) (loop : ℕ) : (at : ℕ) → Type 0 where
  Begins : BelongsTo flow loop flow.entry → IsEnteredFrom flow froms loop flow.entry
  Led_into : {from to : ℕ} {node : FlowNode} →
      (place : ℕ) →
      slice_get froms place ≡ Some from →
      slice_get flow.nodes from ≡ Some node →
      HasEdge node to →
      (BelongsTo flow loop from → ⊥) →
      BelongsTo flow loop to →
      IsEnteredFrom flow froms loop to

-- the header of each loop is the least node at which it is entered
pub record AreHeadersOf (Entered : (loop at : ℕ) → Type 0) (headers : List (Option ℕ)) : Type 0 where
  pub there : (loop at : ℕ) → header_at headers loop ≡ Some at → Entered loop at
  pub least : (loop at : ℕ) → Entered loop at → (low : ℕ) × (header_at headers loop ≡ Some low) × (low ≤ at)

-- the same, so far as edges come from these nodes
pub record AreHeadersFrom (flow : FlowGraph) (froms : List ℕ) (headers : List (Option ℕ)) : Type 0 where
  pub as_many : length headers ≡ length flow.loops
  pub headers_of : AreHeadersOf (IsEnteredFrom flow froms) headers

-- a node more
abbrev pub EntersFrom : FlowGraph → ℕ → List (Option ℕ) → List (Option ℕ) → Type 0
EntersFrom flow from old new = (froms : List ℕ) → AreHeadersFrom flow froms old → AreHeadersFrom flow (froms ++ from ∷ []) new
