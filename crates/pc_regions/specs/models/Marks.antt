-- Heads that are marked, and the loop that a head heads.
use Rattle.std.specs.Prelude.{◌≡◌, ◌↔◌, ℕ, Bool, true, false, List, length, Option, Some, None, slice_get, slice_index_or}
use Rattle.pc_flow.specs.FlowGraph.{FlowGraph}
use Rattle.pc_regions.specs.Reachable.{AreReachable}
use Rattle.pc_regions.specs.Loops.{IsWithin, BelongsTo}
use Rattle.pc_regions.specs.Cut.{IsHead}
use Rattle.pc_regions.specs.models.Entering.{header_at, AreHeadersFrom}

-- whether a node is marked
abbrev pub mark_at : List Bool → ℕ → Bool
mark_at marks at = slice_index_or marks at false

-- a node is marked
abbrev pub IsMarked : List Bool → ℕ → Type 0
IsMarked marks at = mark_at marks at ≡ true

-- a node was marked before, or it is the entry, or one of these headers
pub data WillBeMarked (old : List Bool) (entry : ℕ) (headers : List (Option ℕ)) (at : ℕ) : Type 0 where
  Was_marked : IsMarked old at → WillBeMarked old entry headers at
  As_entry : entry ≡ at → WillBeMarked old entry headers at
  As_header : (loop : ℕ) → slice_get headers loop ≡ Some (Some at) → WillBeMarked old entry headers at

-- exactly those are marked
pub record Marks (old new : List Bool) (entry : ℕ) (headers : List (Option ℕ)) : Type 0 where
  pub as_many : length new ≡ length old
  pub marked : (at : ℕ) → IsMarked new at ↔ WillBeMarked old entry headers at

-- exactly the heads are marked, and each loop has its header
pub record AreHeads (flow : FlowGraph) (marks : List Bool) (headers : List (Option ℕ)) : Type 0 where
  pub reachable : List ℕ
  pub are_reachable : AreReachable flow reachable
  pub as_many : length marks ≡ length flow.nodes
  pub marked : (at : ℕ) → IsMarked marks at ↔ IsHead flow reachable at
  pub headers_from : AreHeadersFrom flow reachable headers

-- the innermost loop to which a node belongs and whose header it is
abbrev pub FindsLoop : FlowGraph → List (Option ℕ) → ℕ → Option ℕ → Type 0
FindsLoop flow headers at None = (loop : ℕ) → BelongsTo flow loop at → header_at headers loop ≡ Some at → ⊥
FindsLoop flow headers at (Some loop) =
    (header_at headers loop ≡ Some at) × ((other : ℕ) → BelongsTo flow other at → header_at headers other ≡ Some at → IsWithin flow.loops loop other)
