-- Regions in the making: trees that hold whatever regions are named later, and the numbers that they name.
use Rattle.std.specs.Prelude.{◌≡◌, ◌⊎◌, ℕ, zero, ◌≤◌, Bool, true, false, List, length, filter, Some, slice_get}
use Rattle.std.specs.List.{range_with_len}
use Rattle.pc_flow.specs.FlowGraph.{FlowGraph}
use Rattle.pc_live.specs.declared.variable_set.VariableSet.{VariableSet}
use Rattle.pc_live.specs.Liveness.{member, set_at}
use Rattle.pc_table.specs.Table.{TableTree, TableRegion}
use Rattle.pc_regions.specs.Cut.{IsTreeOf, IsBehind, AreMet, AreFound, IsRegionOf, heads_of}
use Rattle.pc_regions.specs.models.Numbered.{Numbered, KeepsPlaces}
use Rattle.pc_regions.specs.models.Marks.{mark_at, IsMarked}

-- the tree of a node, where regions are known in this order, and however more are met after them
abbrev pub TreeFor : FlowGraph → List Bool → (order : List ℕ) → (room at : ℕ) → TableTree → (left : ℕ) → Type 0
TreeFor flow marks order room at tree left = (final : List ℕ) → KeepsPlaces order final → IsTreeOf flow (IsMarked marks) final room at tree left

-- the same of what stands after an edge
abbrev pub BehindFor : FlowGraph → List Bool → (order : List ℕ) → (room to : ℕ) → TableTree → (left : ℕ) → Type 0
BehindFor flow marks order room to tree left = (final : List ℕ) → KeepsPlaces order final → IsBehind flow (IsMarked marks) final room to tree left

-- and of a region
abbrev pub RegionFor : FlowGraph → List Bool → (order : List ℕ) → TableRegion → Type 0
RegionFor flow marks order region = (final : List ℕ) → KeepsPlaces order final → IsRegionOf flow (IsMarked marks) final region

-- a node may be taken: it is no head, and there is room; or it may not
abbrev pub MayBeTaken : List Bool → (to room : ℕ) → Bool → Type 0
MayBeTaken marks to room true = (mark_at marks to ≡ false) × (1 ≤ room)
MayBeTaken marks to room false = IsMarked marks to ⊎ (room ≡ zero)

-- these numbers were named, in order
pub record Names (names : List ℕ) (old new : Numbered) : Type 0 where
  pub as_many_nodes : length new.numbers ≡ length old.numbers
  pub keeps : KeepsPlaces old.order new.order
  pub met : AreMet (length old.order) names (length new.order)

-- the variables of a node's set that are below a number, in rising order
unfoldable pub live_below : List VariableSet → ℕ → ℕ → List ℕ
live_below sets at end = filter (λ x. member (set_at sets at) x) (range_with_len 0 end)

-- the regions so far are those of the heads that were met first
pub record AreRegionsSoFar (flow : FlowGraph) (marks : List Bool) (it : Numbered) (regions : List TableRegion) : Type 0 where
  pub nodes : length it.numbers ≡ length flow.nodes
  pub entry : slice_get it.order 0 ≡ Some flow.entry
  pub few : length regions ≤ length it.order
  pub heads : (number : ℕ) (region : TableRegion) → slice_get regions number ≡ Some region → slice_get it.order number ≡ Some region.head
  pub each : (number : ℕ) (region : TableRegion) → slice_get regions number ≡ Some region → RegionFor flow marks it.order region
  pub found : AreFound regions (length it.order)

-- the regions of a graph whose heads are marked
pub record AreRegions (flow : FlowGraph) (marks : List Bool) (regions : List TableRegion) : Type 0 where
  pub entry : slice_get (heads_of regions) 0 ≡ Some flow.entry
  pub once : (one other at : ℕ) → slice_get (heads_of regions) one ≡ Some at → slice_get (heads_of regions) other ≡ Some at → one ≡ other
  pub each : (number : ℕ) (region : TableRegion) → slice_get regions number ≡ Some region → IsRegionOf flow (IsMarked marks) (heads_of regions) region
  pub found : AreFound regions (length regions)
  pub few : length regions ≤ length flow.nodes
