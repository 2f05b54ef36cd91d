-- Numbers of a draft that are filled from the end: what placing some of them keeps, what is said of nodes that later
-- placing leaves as they are, and which are open.
use Rattle.std.specs.Prelude.{◌≡◌, ℕ, ◌+◌, ◌<◌, ◌≤◌, ◌⊎◌, length, Option, IfSome, slice_get, slice_index}
use Rattle.pc_word.specs.SourceLimits.{most_nodes}
use Rattle.pc_flow.specs.FlowGraph.{FlowGraph}
use Rattle.pc_lower.specs.SourceLoops.{source_loops}
use Rattle.pc_lower.specs.models.Drafts.{Draft}

-- a number outside of those from one to another
abbrev pub IsOutside : (from to i : ℕ) → Type 0
IsOutside from to i = (i < from) ⊎ (to ≤ i)

-- no loop
abbrev pub NoLoop : ℕ → Type 0
NoLoop loop = ⊥

-- one of so many loops before a number
pub record IsOwn (many ends loop : ℕ) : Type 0 where
  pub from : ends ≤ loop + many
  pub below : loop < ends

-- a loop itself, or one of others
abbrev pub IsOr : (own : ℕ) → (Others : ℕ → Type 0) → ℕ → Type 0
IsOr own Others loop = (loop ≡ own) ⊎ Others loop

-- The nodes from one number to another were open, and were placed; all else is as before, but for the headers of some
-- loops.
pub record Fills (old new : Draft) (from to : ℕ) (Mine : ℕ → Type 0) : Type 0 where
  pub forward : from ≤ to
  pub as_many : length new.graph.nodes ≡ length old.graph.nodes
  pub as_many_loops : length new.graph.loops ≡ length old.graph.loops
  pub same_loops : source_loops new.graph.loops ≡ source_loops old.graph.loops
  pub arrays : new.graph.arrays ≡ old.graph.arrays
  pub initial : new.graph.initial ≡ old.graph.initial
  pub nodes_kept : (i : ℕ) → IsOutside from to i → slice_get new.graph.nodes i ≡ slice_get old.graph.nodes i
  pub inside_kept : (i : ℕ) → IsOutside from to i → slice_get new.graph.inside i ≡ slice_get old.graph.inside i
  pub loops_kept : (loop : ℕ) → (Mine loop → ⊥) → slice_get new.graph.loops loop ≡ slice_get old.graph.loops loop
  pub ranks_kept : (i : ℕ) → IsOutside from to i → slice_index new.graph.ranks i ≡ slice_index old.graph.ranks i
  pub opens : (i : ℕ) → from ≤ i → i < to → slice_index old.graph.ranks i ≡ 0
  pub filled : (i : ℕ) → from ≤ i → i < to → 1 ≤ slice_index new.graph.ranks i
  pub ranked : new.ranked + from ≡ old.ranked + to

-- a graph that has the nodes of a draft from one number to another, and the marks of some loops: what later placing
-- makes of it
pub record Keeps (draft : Draft) (from to : ℕ) (Mine : ℕ → Type 0) (final : FlowGraph) : Type 0 where
  pub arrays : final.arrays ≡ draft.graph.arrays
  pub nodes : (i : ℕ) → from ≤ i → i < to → slice_get final.nodes i ≡ slice_get draft.graph.nodes i
  pub inside : (i : ℕ) → from ≤ i → i < to → slice_get final.inside i ≡ slice_get draft.graph.inside i
  pub loops : (loop : ℕ) → Mine loop → slice_get final.loops loop ≡ slice_get draft.graph.loops loop

-- So many nodes were placed, from one number to another, and the headers of some loops were put, of which something holds
-- whatever is placed later.
pub record LaysLoops (old new : Draft) (size from to : ℕ) (Mine : ℕ → Type 0) (P : FlowGraph → Type 0) : Type 0 where
  pub size_is : from + size ≡ to
  pub fills : Fills old new from to Mine
  pub gives : (final : FlowGraph) → Keeps new from to Mine final → P final

-- the same where no header was put
abbrev pub Lays : (old new : Draft) (size from to : ℕ) (P : FlowGraph → Type 0) → Type 0
Lays old new size from to P = LaysLoops old new size from to NoLoop P

-- so many nodes may be placed before a number, inside a loop that there is or none
pub record HasRoom (draft : Draft) (size to : ℕ) (inside : Option ℕ) : Type 0 where
  pub within : size ≤ to
  pub there : to ≤ length draft.graph.nodes
  pub unranked : (i : ℕ) → i < to → to ≤ i + size → slice_index draft.graph.ranks i ≡ 0
  pub ranks : draft.ranked + size ≤ most_nodes
  pub loop_there : IfSome inside (λ loop. loop < length draft.graph.loops)
