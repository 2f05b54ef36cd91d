-- A cut shows what its graph shows, unit by unit.
use Rattle.std.proofs.Common.{◌≡◌, ℕ, zero, suc, Bool, true, false, List, [], ◌∷◌, Option, Some, None, refl, sym, ◌∙◌, ap, subst}
use Rattle.std.specs.Prelude.{if◌then◌else◌, slice_get}
use Rattle.pc_word.specs.declared.item.Item.{Item}
use Rattle.pc_word.specs.declared.item.MachineFault.{MachineFault}
use Rattle.pc_word.specs.Word.{holds}
use Rattle.pc_word.specs.State.{State, start_state}
use Rattle.pc_word.specs.Items.{operand_value}
use Rattle.pc_word.specs.Commit.{fault_of, prints_of, state_after}
use Rattle.pc_word.specs.Row.{commit_of, item_step}
use Rattle.pc_word.specs.Run.{Seen, AgreeOnInputs, after_printing, seen_of, run_from}
use Rattle.pc_word.proofs.Runs.{Agree-equal}
use Rattle.pc_flow.specs.declared.node.FlowNode.{FlowNode}
use Rattle.pc_flow.specs.FlowGraph.{FlowGraph}
use Rattle.pc_flow.specs.FlowRun.{step_after_item, run_node, flow_step, flow_run}
use Rattle.pc_table.specs.Table.{TableTree, TableRegion, Table, tree_of, region_tree}
use Rattle.pc_table.specs.RegionRun.{arrive, place_at, lead_on, region_step, region_step_at, table_run}
use Rattle.pc_regions.specs.Cut.{IsTreeOf, An_item, A_test, A_stop, A_trap, IsBehind, Taken, Not_taken, IsRegionOf, IsCutOf, heads_of}
use Rattle.pc_regions.specs.Laws.{ACutRunsAsItsGraph, RegionsRunAsTheirNodes}

-- the region whose head stands at a place among the heads
pub region_at : (regions : List TableRegion) (number head : ℕ) → slice_get (heads_of regions) number ≡ Some head
    → (region : TableRegion) × (slice_get regions number ≡ Some region) × (region.head ≡ head)
region_at [] number head e = absurd (cc)
region_at (region ∷ regions) zero head e = (region, refl, cc)
region_at (region ∷ regions) (suc number) head e = region_at regions number head e

-- a tree is no name of a region, so what comes first in it is the tree itself
pub arrive_tree : (flow : FlowGraph) (Head : ℕ → Type 0) (heads : List ℕ) (table : Table) (room at left : ℕ) (tree : TableTree)
    → IsTreeOf flow Head heads room at tree left → arrive table tree ≡ tree
arrive_tree flow Head heads table room at left _ (An_item here behind) = refl
arrive_tree flow Head heads table room at left _ (A_test here one other) = refl
arrive_tree flow Head heads table room at left _ (A_stop here) = refl
arrive_tree flow Head heads table room at left _ (A_trap here) = refl

module _ (flow : FlowGraph) (Head : ℕ → Type 0) (table : Table) (same_arrays : table.arrays ≡ flow.arrays)
    (each : (number : ℕ) (region : TableRegion) → slice_get table.regions number ≡ Some region → IsRegionOf flow Head (heads_of table.regions) region) where
  -- a tree is that of a node
  record IsAt (tree : TableTree) (node : ℕ) : Type 0 where
    room : ℕ
    left : ℕ
    is_tree : IsTreeOf flow Head (heads_of table.regions) room node tree left

  -- the tree of a region, by its number
  region_is_at : (number head : ℕ) → slice_get (heads_of table.regions) number ≡ Some head → IsAt (region_tree table number) head
  region_is_at number head e =
      let found = region_at table.regions number head e in
      let is = each number found.0 found.1 in
      let tree : IsAt found.0.tree found.0.head = record { room = _; left = is.left; is_tree = is.tree } in
      subst (λ (r : Option TableRegion). IsAt (tree_of r) head) (sym found.1) (subst (λ (h : ℕ). IsAt found.0.tree h) found.2 tree)

  -- where an edge leads to a node, its tree comes next
  arrives : (room to left : ℕ) (tree : TableTree) → IsBehind flow Head (heads_of table.regions) room to tree left → IsAt (arrive table tree) to
  arrives room to left tree (Taken no_head is) =
      subst (λ (t : TableTree). IsAt t to) (sym (arrive_tree flow Head (heads_of table.regions) table room to left tree is))
      (record { room = room; left = left; is_tree = is })
  arrives room to left _ (Not_taken {region} head there) = region_is_at region to there

  -- what is seen from a tree, and from its node
  abbrev Shows : ℕ → TableTree → ℕ → Type 0
  Shows n tree node = (s : State) → run_from (region_step table) n (record { tree = tree; state = s }) ≡ run_from (flow_step flow) n (record { node = node; state = s })

  -- an item that has been done
  item_shows : (n next : ℕ) (item : Item) (rest : TableTree) (s : State) (fault : Option MachineFault) → Shows n (arrive table rest) next
      → seen_of (lead_on (commit_of flow.arrays s (item ∷ []) rest fault) (place_at table)) (run_from (region_step table) n)
      ≡ seen_of (step_after_item (commit_of flow.arrays s (item ∷ []) next fault)) (run_from (flow_step flow) n)
  item_shows n next item rest s (Some fault) shows = refl
  item_shows n next item rest s None shows =
      ap (λ (seen : Seen). after_printing (prints_of s (item ∷ [])) seen) (shows (state_after flow.arrays s (item ∷ [])))

  -- the side that a test takes
  side_shows : (n yes_side no_side : ℕ) (on_yes on_no : TableTree) (s : State) (b : Bool) → Shows n (arrive table on_yes) yes_side → Shows n (arrive table on_no) no_side
      → run_from (region_step table) n (place_at table (if b then on_yes else on_no) s)
      ≡ run_from (flow_step flow) n (record { node = if b then yes_side else no_side; state = s })
  side_shows n yes_side no_side on_yes on_no s true one other = one s
  side_shows n yes_side no_side on_yes on_no s false one other = other s

  -- one unit of a tree, and of its node
  unit_shows : (n : ℕ) → ((tree : TableTree) (node : ℕ) → IsAt tree node → Shows n tree node)
      → (room node left : ℕ) (tree : TableTree) → IsTreeOf flow Head (heads_of table.regions) room node tree left → (s : State)
      → seen_of (region_step_at table tree s) (run_from (region_step table) n) ≡ seen_of (run_node flow.arrays s (slice_get flow.nodes node)) (run_from (flow_step flow) n)
  unit_shows n later _ node left _ (An_item {room} {next} {item} {rest} here behind) s =
      ap (λ (lengths : List ℕ). seen_of (lead_on (item_step lengths item rest s) (place_at table)) (run_from (region_step table) n)) same_arrays
      ∙ item_shows n next item rest s (fault_of flow.arrays s (item ∷ [])) (later (arrive table rest) next (arrives room next left rest behind))
      ∙ ap (λ (found : Option FlowNode). seen_of (run_node flow.arrays s found) (run_from (flow_step flow) n)) (sym here)
  unit_shows n later _ node left _ (A_test {room} {yes_side} {no_side} {mid} {on} {turn} {on_yes} {on_no} here one other) s =
      ap (λ (seen : Seen). after_printing [] seen)
      (side_shows n yes_side no_side on_yes on_no s (holds (operand_value s.names on))
      (later (arrive table on_yes) yes_side (arrives room yes_side mid on_yes one)) (later (arrive table on_no) no_side (arrives mid no_side left on_no other)))
      ∙ ap (λ (found : Option FlowNode). seen_of (run_node flow.arrays s found) (run_from (flow_step flow) n)) (sym here)
  unit_shows n later _ node left _ (A_stop here) s =
      ap (λ (found : Option FlowNode). seen_of (run_node flow.arrays s found) (run_from (flow_step flow) n)) (sym here)
  unit_shows n later _ node left _ (A_trap here) s =
      ap (λ (found : Option FlowNode). seen_of (run_node flow.arrays s found) (run_from (flow_step flow) n)) (sym here)

  -- as many units show the same
  trees_show : (n : ℕ) (tree : TableTree) (node : ℕ) → IsAt tree node → Shows n tree node
  trees_show zero tree node is s = refl
  trees_show (suc n) tree node is s = unit_shows n (λ t to at. trees_show n t to at) is.room node is.left tree is.is_tree s

-- each region shows what the nodes from its head show
pub region_shows : RegionsRunAsTheirNodes
region_shows flow table cut number head there s n =
    let is_at = region_is_at flow _ table cut.arrays cut.each number head there in
    trees_show flow _ table cut.arrays cut.each n (region_tree table number) head is_at s

-- so the table shows what the graph shows
pub cut_shows : ACutRunsAsItsGraph
cut_shows flow table cut input n = region_shows flow table cut 0 flow.entry cut.entry (start_state flow.initial input) n

-- so they agree
pub cut_agrees : (flow : FlowGraph) (table : Table) → IsCutOf flow table → AgreeOnInputs (table_run table flow.initial) (flow_run flow)
cut_agrees flow table cut input words = Agree-equal (table_run table flow.initial input) (flow_run flow input) (cut_shows flow table cut input)
