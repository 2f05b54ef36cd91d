-- How a flow graph is cut into regions.
use Rattle.std.specs.Prelude.{◌≡◌, ◌⊎◌, ◌↔◌, ℕ, zero, suc, ◌<◌, ◌≤◌, true, nat_eq, List, [], ◌∷◌, ◌++◌, map, length, Some, slice_get, Option}
use Rattle.std.specs.List.{list_any}
use Rattle.std.specs.List.Sorted.{IsStrictlyIncreasing}
use Rattle.pc_word.specs.declared.item.Item.{Item}
use Rattle.pc_word.specs.declared.item.Operand.{Operand}
use Rattle.pc_word.specs.declared.item.TrapKind.{TrapKind}
use Rattle.pc_flow.specs.declared.node.FlowNode.TheVariants.{Op, Test, Stop, Trap}
use Rattle.pc_flow.specs.FlowGraph.{FlowGraph}
use Rattle.pc_live.specs.Live.{IsLive}
use Rattle.pc_table.specs.Table.{TableTree, Does, Asks, Next, Stops_here, Traps_here, TableRegion, Table}
use Rattle.pc_table.specs.TableKeeps.{most_region_nodes}
use Rattle.pc_regions.specs.Reachable.{AreReachable, in_edges}
use Rattle.pc_regions.specs.Loops.{IsHeader, HeadsLoop}

-- ---- heads

-- a node where regions begin: the entry, a node to which two edges or more lead from reachable nodes, or the header of a
-- loop
pub data IsHead (flow : FlowGraph) (reachable : List ℕ) (at : ℕ) : Type 0 where
  Is_entry : at ≡ flow.entry → IsHead flow reachable at
  Edges_meet : 2 ≤ in_edges flow reachable at → IsHead flow reachable at
  Heads_loop : (loop : ℕ) → IsHeader flow loop at → IsHead flow reachable at

-- ---- trees

-- `Head` says which nodes are heads, and `heads` is the head of each region. `room` nodes more may be taken, in preorder, the
-- yes side first, and then `left` more.
mutual
  -- the tree of a node that is taken
  pub data IsTreeOf (flow : FlowGraph) (Head : ℕ → Type 0) (heads : List ℕ) : (room at : ℕ) → (tree : TableTree) → (left : ℕ) → Type 0 where
    An_item : {room at next left : ℕ} {item : Item} {rest : TableTree} →
        slice_get flow.nodes at ≡ Some (Op item next) →
        IsBehind flow Head heads room next rest left →
        IsTreeOf flow Head heads (suc room) at (Does at item rest) left
    A_test : {room at yes_side no_side mid left : ℕ} {on : Operand} {turn : Option ℕ} {on_yes on_no : TableTree} →
        slice_get flow.nodes at ≡ Some (Test on yes_side no_side turn) →
        IsBehind flow Head heads room yes_side on_yes mid →
        IsBehind flow Head heads mid no_side on_no left →
        IsTreeOf flow Head heads (suc room) at (Asks at on on_yes on_no) left
    A_stop : {room at : ℕ} →
        slice_get flow.nodes at ≡ Some Stop →
        IsTreeOf flow Head heads (suc room) at Stops_here room
    A_trap : {room at line : ℕ} {kind : TrapKind} →
        slice_get flow.nodes at ≡ Some (Trap kind line) →
        IsTreeOf flow Head heads (suc room) at (Traps_here kind line) room

  -- what stands where an edge leads to a node: its tree, where it is no head and is taken; where it is a head, or no more
  -- may be taken, the region that begins with it
  pub data IsBehind (flow : FlowGraph) (Head : ℕ → Type 0) (heads : List ℕ) : (room to : ℕ) → (tree : TableTree) → (left : ℕ) → Type 0 where
    Taken : {room to left : ℕ} {tree : TableTree} →
        (Head to → ⊥) →
        IsTreeOf flow Head heads room to tree left →
        IsBehind flow Head heads room to tree left
    Not_taken : {room to region : ℕ} →
        Head to ⊎ (room ≡ zero) →
        slice_get heads region ≡ Some to →
        IsBehind flow Head heads room to (Next region) room

-- ---- the order of regions

-- the regions that a tree names, in preorder, the yes side first
abbrev pub nexts_of : TableTree → List ℕ
nexts_of (Does origin item rest) = nexts_of rest
nexts_of (Asks origin on on_yes on_no) = nexts_of on_yes ++ nexts_of on_no
nexts_of (Next region) = region ∷ []
nexts_of Stops_here = []
nexts_of (Traps_here kind line) = []

-- each name is that of a region that is known already, or gets the next number; so many are known before and after
pub data AreMet : (known : ℕ) → (names : List ℕ) → (after : ℕ) → Type 0 where
  None_met : {known : ℕ} → AreMet known [] known
  Known : {known region after : ℕ} {names : List ℕ} → region < known → AreMet known names after → AreMet known (region ∷ names) after
  Met : {known after : ℕ} {names : List ℕ} → AreMet (suc known) names after → AreMet known (known ∷ names) after

-- the first regions, each of which was known before it was gone over, and how many are known after them
pub data AreFound : (regions : List TableRegion) → (known : ℕ) → Type 0 where
  First : AreFound [] 1
  Found : {known after : ℕ} →
      (regions : List TableRegion) →
      (region : TableRegion) →
      AreFound regions known →
      length regions < known →
      AreMet known (nexts_of region.tree) after →
      AreFound (regions ++ region ∷ []) after

-- ---- regions and tables

-- the region of a head: its tree, exactly the variables that are live there, in rising order, and its loops
pub record IsRegionOf (flow : FlowGraph) (Head : ℕ → Type 0) (heads : List ℕ) (region : TableRegion) : Type 0 where
  pub left : ℕ
  pub tree : IsTreeOf flow Head heads most_region_nodes region.head region.tree left
  pub live : (x : ℕ) → (list_any (nat_eq x) region.live ≡ true) ↔ IsLive flow x region.head
  pub rising : IsStrictlyIncreasing region.live
  pub inside : slice_get flow.inside region.head ≡ Some region.inside
  pub heads_loop : HeadsLoop flow region.head region.heads

-- the heads of regions
abbrev pub heads_of : List TableRegion → List ℕ
heads_of regions = map (λ region. region.head) regions

-- The table is the graph's cut. Region 0 has the entry as its head, and no node is the head of two regions. Regions have
-- their numbers in the order in which they are first named, region by region.
pub record IsCutOf (flow : FlowGraph) (table : Table) : Type 0 where
  pub reachable : List ℕ
  pub are_reachable : AreReachable flow reachable
  pub entry : slice_get (heads_of table.regions) 0 ≡ Some flow.entry
  pub once : (one other at : ℕ) → slice_get (heads_of table.regions) one ≡ Some at → slice_get (heads_of table.regions) other ≡ Some at → one ≡ other
  pub each : (number : ℕ) (region : TableRegion) → slice_get table.regions number ≡ Some region
      → IsRegionOf flow (IsHead flow reachable) (heads_of table.regions) region
  pub found : AreFound table.regions (length table.regions)
  pub loops : table.loops ≡ flow.loops
  pub arrays : table.arrays ≡ flow.arrays
