-- Regions that are cut, one after the other.
use Rattle.std.proofs.Common.{◌≡◌, inl, inr, ℕ, suc, ◌-◌, ◌<◌, Bool, List, [], ◌∷◌, ◌++◌, length, Option, Some, None, refl, sym, ◌∙◌, ap, subst, arith}
use Rattle.std.specs.Prelude.{is_some, slice_get}
use Rattle.std.proofs.lemmas.List.{length-map, length-replicate, map-append}
use Rattle.std.proofs.lemmas.List.Sums.{count_by-le-length}
use Rattle.std.proofs.lemmas.Option.{slice_get_within}
use Rattle.pc_flow.specs.FlowGraph.{FlowGraph, IsFlow, variables}
use Rattle.pc_live.specs.declared.variable_set.VariableSet.{VariableSet}
use Rattle.pc_live.specs.Liveness.{IsLivenessOf}
use Rattle.pc_table.specs.declared.table.Region.{Region}
use Rattle.pc_table.specs.Table.{TableTree, TableRegion, Table, table_region, table_regions}
use Rattle.pc_table.specs.TableKeeps.{most_region_nodes}
use Rattle.pc_regions.specs.Cut.{IsHead, IsTreeOf, An_item, A_test, A_stop, A_trap, IsBehind, Taken, Not_taken, AreFound, First, Found, IsRegionOf, IsCutOf, heads_of, nexts_of}
use Rattle.pc_regions.specs.models.Numbered.{Numbered, IsNumbered, nothing_met, Meets}
use Rattle.pc_regions.specs.models.Marks.{IsMarked, AreHeads, FindsLoop}
use Rattle.pc_regions.specs.models.Cutting.{TreeFor, RegionFor, Names, live_below, AreRegionsSoFar, AreRegions}
use Rattle.pc_regions.proofs.Reaching.{first_of}
use Rattle.pc_regions.proofs.LiveLists.{live_exact, live_rising}
use Rattle.pc_regions.proofs.Marking.{finds_heads}
use Rattle.pc_word.proofs.Places.{get_more, length_more, none_left}

-- ---- one region

-- a region with a tree, a list of variables and loops that are found
pub region_found : (flow : FlowGraph) (marks : List Bool) (headers : List (Option ℕ)) (sets : List VariableSet) (order : List ℕ) (head left : ℕ) (tree : TableTree) (live : List ℕ)
    (inside heads : Option ℕ) → IsFlow flow → IsLivenessOf flow sets → AreHeads flow marks headers → head < length flow.nodes
    → TreeFor flow marks order most_region_nodes head tree left → live ≡ live_below sets head variables → slice_get flow.inside head ≡ Some inside
    → FindsLoop flow headers head heads → RegionFor flow marks order (record { head = head; tree = tree; live = live; inside = inside; heads = heads })
region_found flow marks headers sets order head left tree live inside heads is are found lt is_tree live_is inside_is finds final keeps = record {
  left = left;
  tree = is_tree final keeps;
  live = λ x. rw live_is (live_exact flow sets head x is are lt);
  rising = rw live_is (live_rising sets head);
  inside = inside_is;
  heads_loop = finds_heads flow found.reachable headers head heads found.are_reachable found.headers_from finds;
}

-- there are as many marks as nodes, as many headers as loops
pub marks_many : (flow : FlowGraph) (marks : List Bool) (headers : List (Option ℕ)) → AreHeads flow marks headers → length marks ≡ length flow.nodes
marks_many flow marks headers found = found.as_many

pub headers_many : (flow : FlowGraph) (marks : List Bool) (headers : List (Option ℕ)) → AreHeads flow marks headers → length headers ≡ length flow.loops
headers_many flow marks headers found = found.headers_from.as_many

-- as many sets as nodes
pub sets_many : (flow : FlowGraph) (sets : List VariableSet) (head : ℕ) → IsLivenessOf flow sets → head < length flow.nodes → head < length sets
sets_many flow sets head are lt = subst (λ (n : ℕ). head < n) (sym are.as_many) lt

pub ruleset region = (region_found, marks_many, headers_many, sets_many)

-- ---- the loop over heads

-- the entry is met first
pub so_far_begins : (flow : FlowGraph) (marks : List Bool) (it new : Numbered) (number : ℕ) → it ≡ nothing_met (length flow.nodes) → Meets it new flow.entry number
    → AreRegionsSoFar flow marks new []
so_far_begins flow marks it new number is meets =
    let nothing : Option ℕ = None in
    let as_many : length it.numbers ≡ length flow.nodes = ap (λ (x : Numbered). length x.numbers) is ∙ length-replicate (length flow.nodes) nothing in
    let order = first_of it new flow.entry number (ap (λ (x : Numbered). x.order) is) meets in
    record {
      nodes = meets.as_many_nodes ∙ as_many;
      entry = ap (λ (l : List ℕ). slice_get l 0) order;
      few = omega arith;
      heads = λ number region e. absurd (cc);
      each = λ number region e. absurd (cc);
      found = subst (λ (n : ℕ). AreFound [] n) (sym (ap (λ (l : List ℕ). length l) order)) First;
    }

-- a region more
pub so_far_goes_on : (flow : FlowGraph) (marks : List Bool) (it new : Numbered) (regions : List TableRegion) (region : TableRegion) (head : ℕ) → AreRegionsSoFar flow marks it regions
    → slice_get it.order (length regions) ≡ Some head → region.head ≡ head → RegionFor flow marks new.order region → Names (nexts_of region.tree) it new
    → AreRegionsSoFar flow marks new (regions ++ region ∷ [])
so_far_goes_on flow marks it new regions region head h here head_is is names =
    let within = slice_get_within it.order (length regions) head here in
    record {
      nodes = names.as_many_nodes ∙ h.nodes;
      entry = names.keeps 0 flow.entry h.entry;
      few =
          let there = slice_get_within new.order (length regions) head (names.keeps (length regions) head here) in
          let longer = length_more regions region in
          omega (arith, there, longer);
      heads = λ number other e. elim (get_more regions region number other e) [
        | inl before ↦ names.keeps number other.head (h.heads number other before)
        | inr last ↦ last_head number other last
      ];
      each = λ number other e. elim (get_more regions region number other e) [
        | inl before ↦ λ final keeps. h.each number other before final (λ place at there. keeps place at (names.keeps place at there))
        | inr last ↦ subst (RegionFor flow marks new.order) last.1 is
      ];
      found = Found regions region h.found within names.met;
    }
  where
    last_head : (number : ℕ) (other : TableRegion) → (number ≡ length regions) × (region ≡ other) → slice_get new.order number ≡ Some other.head
    last_head number other last =
        subst (λ (n : ℕ). slice_get new.order n ≡ Some other.head) (sym last.0)
        (names.keeps (length regions) head here ∙ ap (λ (n : ℕ). Some n) (sym head_is ∙ ap (λ (r : TableRegion). r.head) last.1))

-- regions whose heads stand in an order, as many as there are
heads_are : (regions : List TableRegion) (order : List ℕ) → length regions ≡ length order
    → ((number : ℕ) (region : TableRegion) → slice_get regions number ≡ Some region → slice_get order number ≡ Some region.head) → heads_of regions ≡ order
heads_are [] [] as_many h = refl
heads_are [] (x ∷ order) as_many h = absurd (omega (arith, as_many))
heads_are (region ∷ regions) [] as_many h = absurd (omega (arith, as_many))
heads_are (region ∷ regions) (x ∷ order) as_many h =
    let first : x ≡ region.head = one_head (h 0 region refl) in
    let rest : heads_of regions ≡ order = heads_are regions order (omega (arith, as_many)) (λ number other e. h (suc number) other e) in
    ap (λ (l : List ℕ). region.head ∷ l) rest ∙ ap (λ (n : ℕ). n ∷ order) (sym first)
  where
    one_head : Some x ≡ Some region.head → x ≡ region.head
    one_head e = cc

-- then they are all
pub so_far_whole : (flow : FlowGraph) (marks : List Bool) (it : Numbered) (regions : List TableRegion) → AreRegionsSoFar flow marks it regions → IsNumbered it
    → slice_get it.order (length regions) ≡ None → AreRegions flow marks regions
so_far_whole flow marks it regions h is none =
    let fewer = none_left it.order (length regions) none in
    let few = h.few in
    let as_many : length regions ≡ length it.order = omega (arith, fewer, few) in
    let heads = heads_are regions it.order as_many h.heads in
    record {
      entry = rw heads h.entry;
      once = λ one other at p q. let e = sym (is.node_there one at (rw heads at p)) ∙ is.node_there other at (rw heads at q) in (cc);
      each = λ number region e. subst (λ (order : List ℕ). IsRegionOf flow (IsMarked marks) order region) (sym heads) (h.each number region e it.order (λ place at there. there));
      found = subst (λ (n : ℕ). AreFound regions n) (sym as_many) h.found;
      few = let counted = count_by-le-length is_some it.numbers in let met = is.as_many in let nodes = h.nodes in omega (arith, few, counted, met, nodes);
    }

-- a head that was met is a node
pub head_within : (flow : FlowGraph) (marks : List Bool) (it : Numbered) (regions : List TableRegion) (number head : ℕ) → AreRegionsSoFar flow marks it regions → IsNumbered it
    → slice_get it.order number ≡ Some head → head < length flow.nodes
head_within flow marks it regions number head h is there =
    subst (λ (n : ℕ). head < n) h.nodes (slice_get_within it.numbers head (Some number) (is.node_there number head there))

-- there are no more regions than nodes
pub regions_within : (flow : FlowGraph) (marks : List Bool) (it : Numbered) (regions : List TableRegion) (head : ℕ) → AreRegionsSoFar flow marks it regions → IsNumbered it
    → slice_get it.order (length regions) ≡ Some head → length regions < length flow.nodes
regions_within flow marks it regions head h is there =
    let within = slice_get_within it.order (length regions) head there in
    let counted = count_by-le-length is_some it.numbers in
    let as_many = is.as_many in
    let nodes = h.nodes in
    omega (arith, within, counted, as_many, nodes)

-- ---- regions in memory

-- what stands after the regions so far, in terms of the regions in memory
pub behind_regions : (order : List ℕ) (regions : List Region) (count : ℕ) (found : Option ℕ) → found ≡ slice_get order count → count ≡ length regions
    → slice_get order (length (table_regions regions)) ≡ found
behind_regions order regions count found e same = ap (λ (n : ℕ). slice_get order n) (length-map regions table_region ∙ sym same) ∙ sym e

-- a region more in memory is a region more
pub region_more : (regions new : List Region) (region : Region) → new ≡ regions ++ region ∷ [] → table_regions new ≡ table_regions regions ++ table_region region ∷ []
region_more regions new region e = ap table_regions e ∙ map-append table_region regions (region ∷ [])

-- and fewer are left
pub fewer_left : (count : ℕ) (regions new : List Region) (region : Region) → new ≡ regions ++ region ∷ [] → length (table_regions regions) < count
    → count - length new < count - length regions
fewer_left count regions new region e within =
    let more : length new ≡ suc (length regions) = ap (λ (l : List Region). length l) e ∙ length_more regions region in
    let as_many = length-map regions table_region in
    omega (arith, more, as_many, within)

-- ---- the table

module _ (flow : FlowGraph) (P Q : ℕ → Type 0) (heads : List ℕ) (forth : (at : ℕ) → P at → Q at) (back : (at : ℕ) → Q at → P at) where
  -- trees are the same where heads are said another way
  mutual
    tree_alike : (room at left : ℕ) (tree : TableTree) → IsTreeOf flow P heads room at tree left → IsTreeOf flow Q heads room at tree left
    tree_alike _ at left _ (An_item {room} {next} {rest} here behind) = An_item here (behind_alike room next left rest behind)
    tree_alike _ at left _ (A_test {room} {yes_side} {no_side} {mid} {on_yes} {on_no} here one other) =
        A_test here (behind_alike room yes_side mid on_yes one) (behind_alike mid no_side left on_no other)
    tree_alike _ at left _ (A_stop here) = A_stop here
    tree_alike _ at left _ (A_trap here) = A_trap here

    behind_alike : (room to left : ℕ) (tree : TableTree) → IsBehind flow P heads room to tree left → IsBehind flow Q heads room to tree left
    behind_alike room to left tree (Taken no_head is) = Taken (λ head. no_head (back to head)) (tree_alike room to left tree is)
    behind_alike room to left _ (Not_taken (inl head) there) = Not_taken (inl (forth to head)) there
    behind_alike room to left _ (Not_taken (inr full) there) = Not_taken (inr full) there

  region_alike : (region : TableRegion) → IsRegionOf flow P heads region → IsRegionOf flow Q heads region
  region_alike region is = record {
    left = is.left;
    tree = tree_alike most_region_nodes region.head is.left region.tree is.tree;
    live = is.live;
    rising = is.rising;
    inside = is.inside;
    heads_loop = is.heads_loop;
  }

-- the regions of the heads that are marked are the graph's cut
pub regions_are_cut : (flow : FlowGraph) (marks : List Bool) (headers : List (Option ℕ)) (table : Table) → AreHeads flow marks headers → AreRegions flow marks table.regions
    → table.loops ≡ flow.loops → table.arrays ≡ flow.arrays → IsCutOf flow table
regions_are_cut flow marks headers table heads h loops arrays = record {
  reachable = heads.reachable;
  are_reachable = heads.are_reachable;
  entry = h.entry;
  once = h.once;
  each = λ number region e. region_alike flow (IsMarked marks) (IsHead flow heads.reachable) (heads_of table.regions) (λ at m. (heads.marked at).0 m) (λ at m. (heads.marked at).1 m)
      region (h.each number region e);
  found = h.found;
  loops = loops;
  arrays = arrays;
}
