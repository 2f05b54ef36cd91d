-- Each node of a graph comes into its cut at most once, so the cut has no more items and tests than the graph has nodes.
use Rattle.std.proofs.Common.{◌≡◌, ◌≢◌, ◌⊎◌, inl, inr, ℕ, zero, suc, ◌+◌, ◌<◌, ◌≤◌, List, [], ◌∷◌, ◌++◌, length, Option, Some, None, refl, sym, ◌∙◌, ap, subst, arith}
use Rattle.std.specs.Prelude.{slice_get}
use Rattle.std.specs.List.{AllByRecursion}
use Rattle.std.proofs.lemmas.List.{length-append, length-map}
use Rattle.std.proofs.lemmas.Option.{slice_get_within}
use Rattle.pc_word.proofs.Lists.{all_both, all_imply}
use Rattle.pc_word.proofs.Truth.{decide_le}
use Rattle.pc_flow.specs.declared.node.FlowNode.{FlowNode}
use Rattle.pc_flow.specs.declared.node.FlowNode.TheVariants.{Op, Test, Stop, Trap}
use Rattle.pc_flow.specs.FlowGraph.{FlowGraph, HasEdge}
use Rattle.pc_flow.specs.Reachable.{IsReachableNode, Entry, Behind}
use Rattle.pc_table.specs.Table.{TableTree, Does, Asks, Next, Stops_here, Traps_here, TableRegion, Table}
use Rattle.pc_table.specs.TableKeeps.{units}
use Rattle.pc_regions.specs.Reachable.{AreReachable, one_if, edges_of, in_edges}
use Rattle.pc_regions.specs.Cut.{IsTreeOf, An_item, A_test, A_stop, A_trap, IsBehind, Taken, Not_taken, IsHead, Is_entry, Edges_meet, IsRegionOf, IsCutOf, heads_of, nexts_of}
use Rattle.pc_regions.proofs.Members.{Has}
use Rattle.pc_regions.proofs.CutKeeps.{head_at}
use Rattle.pc_regions.proofs.CutRuns.{region_at}
use Rattle.pc_compile.proofs.Counts.{all_units}
use Rattle.pc_compile.proofs.MetRegions.{found_all}
use Rattle.pc_compile.proofs.Sums.{same_or_not, one_if_same, one_if_other, total, total_both, total_most, total_one, total_two, sum_is}
use Rattle.pc_compile.proofs.Sums.{count, counted, counted_once, has_front, has_back, all_of_members, member_of_all, no_more}

-- ---- the nodes and names of trees and regions

-- the nodes from which the items and tests of a tree come
abbrev pub origins : TableTree → List ℕ
origins (Does origin item rest) = origin ∷ origins rest
origins (Asks origin on on_yes on_no) = origin ∷ (origins on_yes ++ origins on_no)
origins (Next region) = []
origins Stops_here = []
origins (Traps_here kind line) = []

-- and those of regions
abbrev pub all_origins : List TableRegion → List ℕ
all_origins [] = []
all_origins (region ∷ regions) = origins region.tree ++ all_origins regions

-- the regions that regions name
abbrev all_nexts : List TableRegion → List ℕ
all_nexts [] = []
all_nexts (region ∷ regions) = nexts_of region.tree ++ all_nexts regions

as_many : (tree : TableTree) → length (origins tree) ≡ units tree
as_many (Does origin item rest) = ap suc (as_many rest)
as_many (Asks origin on on_yes on_no) =
    let both = length-append (origins on_yes) (origins on_no) in
    let one = as_many on_yes in
    let other = as_many on_no in
    omega (arith, both, one, other)
as_many (Next region) = refl
as_many Stops_here = refl
as_many (Traps_here kind line) = refl

as_many_in_all : (regions : List TableRegion) → length (all_origins regions) ≡ all_units regions
as_many_in_all [] = refl
as_many_in_all (region ∷ regions) =
    let both = length-append (origins region.tree) (all_origins regions) in
    let one = as_many region.tree in
    let rest = as_many_in_all regions in
    omega (arith, both, one, rest)

-- what one region names is among what all name
named_in : (regions : List TableRegion) (number : ℕ) (region : TableRegion) (name : ℕ) → slice_get regions number ≡ Some region → Has (nexts_of region.tree) name
    → Has (all_nexts regions) name
named_in [] number region name e has = absurd (cc)
named_in (other ∷ regions) zero region name e has =
    let same : region ≡ other = (cc) in
    has_front (nexts_of other.tree) (all_nexts regions) name (subst (λ (r : TableRegion). Has (nexts_of r.tree) name) same has)
named_in (other ∷ regions) (suc number) region name e has = has_back (nexts_of other.tree) (all_nexts regions) name (named_in regions number region name e has)

-- ---- the nodes are there

mutual
  tree_within : (flow : FlowGraph) (Head : ℕ → Type 0) (heads : List ℕ) (room at left : ℕ) (tree : TableTree) → IsTreeOf flow Head heads room at tree left
      → AllByRecursion (λ node. node < length flow.nodes) (origins tree)
  tree_within flow Head heads _ at left _ (An_item {room} {next} {item} {rest} here behind) =
      (slice_get_within flow.nodes at (Op item next) here, behind_within flow Head heads room next left rest behind)
  tree_within flow Head heads _ at left _ (A_test {room} {yes_side} {no_side} {mid} {on} {turn} {on_yes} {on_no} here one other) = (
    slice_get_within flow.nodes at (Test on yes_side no_side turn) here,
    all_both (λ node. node < length flow.nodes) (origins on_yes) (origins on_no)
        (behind_within flow Head heads room yes_side mid on_yes one) (behind_within flow Head heads mid no_side left on_no other),
  )
  tree_within flow Head heads _ at left _ (A_stop here) = tt
  tree_within flow Head heads _ at left _ (A_trap here) = tt

  behind_within : (flow : FlowGraph) (Head : ℕ → Type 0) (heads : List ℕ) (room to left : ℕ) (tree : TableTree) → IsBehind flow Head heads room to tree left
      → AllByRecursion (λ node. node < length flow.nodes) (origins tree)
  behind_within flow Head heads room to left tree (Taken no_head is) = tree_within flow Head heads room to left tree is
  behind_within flow Head heads room to left _ (Not_taken head there) = tt

-- the node of a tree is there
node_there : (flow : FlowGraph) (Head : ℕ → Type 0) (heads : List ℕ) (room at left : ℕ) (tree : TableTree) → IsTreeOf flow Head heads room at tree left
    → at < length flow.nodes
node_there flow Head heads _ at left _ (An_item {next} {item} here behind) = slice_get_within flow.nodes at (Op item next) here
node_there flow Head heads _ at left _ (A_test {yes_side} {no_side} {on} {turn} here one other) = slice_get_within flow.nodes at (Test on yes_side no_side turn) here
node_there flow Head heads _ at left _ (A_stop here) = slice_get_within flow.nodes at Stop here
node_there flow Head heads _ at left _ (A_trap {line} {kind} here) = slice_get_within flow.nodes at (Trap kind line) here

-- ---- trees, and how often a node is taken, named and led to

-- for how much an item counts in a sum
item_sum : (a t n l e o : ℕ) → t + n ≤ o + l → e ≡ o → a + t + n ≤ a + (e + l)
item_sum a t n l e o h k = omega (arith, h, k)

-- and a test with two sides
test_sum : (a t n l e t1 t2 n1 n2 l1 l2 o1 o2 : ℕ) → t ≡ t1 + t2 → n ≡ n1 + n2 → l ≡ l1 + l2 → t1 + n1 ≤ o1 + l1 → t2 + n2 ≤ o2 + l2 → e ≡ o1 + o2
    → a + t + n ≤ a + (e + l)
test_sum a t n l e t1 t2 n1 n2 l1 l2 o1 o2 p q r h k s = omega (arith, p, q, r, h, k, s)

-- 1 where a head is this node, and else 0
abbrev head_is : Option ℕ → ℕ → ℕ
head_is None x = 0
head_is (Some head) x = one_if head x

module _ (flow : FlowGraph) (Head : ℕ → Type 0) (heads : List ℕ) (x : ℕ) where
  -- 1 where the region with this number begins at the node
  abbrev begins : ℕ → ℕ
  begins region = head_is (slice_get heads region) x

  -- the edges from a node to this one
  abbrev leads : ℕ → ℕ
  leads at = edges_of (slice_get flow.nodes at) x

  mutual
    -- the node is taken and named no more often than edges lead to it
    tree_takes : (room at left : ℕ) (tree : TableTree) → IsTreeOf flow Head heads room at tree left
        → count x (origins tree) + total begins (nexts_of tree) ≤ one_if at x + total leads (origins tree)
    tree_takes _ at left _ (An_item {room} {next} {item} {rest} here behind) =
        item_sum (one_if at x) (count x (origins rest)) (total begins (nexts_of rest)) (total leads (origins rest)) (leads at) (one_if next x)
        (behind_takes room next left rest behind) (ap (λ (found : Option FlowNode). edges_of found x) here)
    tree_takes _ at left _ (A_test {room} {yes_side} {no_side} {mid} {on_yes} {on_no} here one other) =
        test_sum (one_if at x) (count x (origins on_yes ++ origins on_no)) (total begins (nexts_of on_yes ++ nexts_of on_no)) (total leads (origins on_yes ++ origins on_no)) (leads at)
        (count x (origins on_yes)) (count x (origins on_no)) (total begins (nexts_of on_yes)) (total begins (nexts_of on_no))
        (total leads (origins on_yes)) (total leads (origins on_no)) (one_if yes_side x) (one_if no_side x)
        (total_both (λ y. one_if y x) (origins on_yes) (origins on_no)) (total_both begins (nexts_of on_yes) (nexts_of on_no)) (total_both leads (origins on_yes) (origins on_no))
        (behind_takes room yes_side mid on_yes one) (behind_takes mid no_side left on_no other) (ap (λ (found : Option FlowNode). edges_of found x) here)
    tree_takes _ at left _ (A_stop here) = nothing (one_if at x)
      where
        nothing : (a : ℕ) → 0 + 0 ≤ a + 0
        nothing a = omega arith
    tree_takes _ at left _ (A_trap here) = nothing (one_if at x)
      where
        nothing : (a : ℕ) → 0 + 0 ≤ a + 0
        nothing a = omega arith

    behind_takes : (room to left : ℕ) (tree : TableTree) → IsBehind flow Head heads room to tree left
        → count x (origins tree) + total begins (nexts_of tree) ≤ one_if to x + total leads (origins tree)
    behind_takes room to left tree (Taken no_head is) = tree_takes room to left tree is
    behind_takes room to left _ (Not_taken {region} head there) = named (begins region) (one_if to x) (ap (λ (found : Option ℕ). head_is found x) there)
      where
        named : (a b : ℕ) → a ≡ b → 0 + (a + 0) ≤ b + 0
        named a b e = omega (arith, e)

  -- a node where regions begin is taken at the root of a tree alone
  module _ (is_head : Head x) where
    mutual
      head_taken : (room at left : ℕ) (tree : TableTree) → IsTreeOf flow Head heads room at tree left → count x (origins tree) ≤ one_if at x
      head_taken _ at left _ (An_item {room} {next} {item} {rest} here behind) =
          root (one_if at x) (count x (origins rest)) (head_not_taken room next left rest behind)
        where
          root : (a b : ℕ) → b ≤ 0 → a + b ≤ a
          root a b h = omega (arith, h)
      head_taken _ at left _ (A_test {room} {yes_side} {no_side} {mid} {on_yes} {on_no} here one other) =
          root (one_if at x) (count x (origins on_yes ++ origins on_no)) (count x (origins on_yes)) (count x (origins on_no))
          (total_both (λ y. one_if y x) (origins on_yes) (origins on_no)) (head_not_taken room yes_side mid on_yes one) (head_not_taken mid no_side left on_no other)
        where
          root : (a b c d : ℕ) → b ≡ c + d → c ≤ 0 → d ≤ 0 → a + b ≤ a
          root a b c d e h k = omega (arith, e, h, k)
      head_taken _ at left _ (A_stop here) = omega arith
      head_taken _ at left _ (A_trap here) = omega arith

      head_not_taken : (room to left : ℕ) (tree : TableTree) → IsBehind flow Head heads room to tree left → count x (origins tree) ≤ 0
      head_not_taken room to left tree (Taken no_head is) =
          let other = one_if_other to x (λ e. no_head (subst Head (sym e) is_head)) in
          subst (λ (n : ℕ). count x (origins tree) ≤ n) other (head_taken room to left tree is)
      head_not_taken room to left _ (Not_taken head there) = omega arith

-- ---- trees, and what can be reached

module _ (flow : FlowGraph) (Head : ℕ → Type 0) (heads : List ℕ) where
  -- the head of a region is reachable
  abbrev ReachesHead : ℕ → Type 0
  ReachesHead region = (head : ℕ) → slice_get heads region ≡ Some head → IsReachableNode flow head

  -- so are the nodes of a tree, and the heads of the regions that it names
  abbrev ReachesAll : TableTree → Type 0
  ReachesAll tree = AllByRecursion (IsReachableNode flow) (origins tree) × AllByRecursion ReachesHead (nexts_of tree)

  mutual
    tree_reaches : (room at left : ℕ) (tree : TableTree) → IsTreeOf flow Head heads room at tree left → IsReachableNode flow at → ReachesAll tree
    tree_reaches _ at left _ (An_item {room} {next} {item} {rest} here behind) reached =
        let below = behind_reaches room next left rest behind (Behind reached here refl) in ((reached, below.0), below.1)
    tree_reaches _ at left _ (A_test {room} {yes_side} {no_side} {mid} {on_yes} {on_no} here one other) reached =
        let first = behind_reaches room yes_side mid on_yes one (Behind reached here (inl refl)) in
        let second = behind_reaches mid no_side left on_no other (Behind reached here (inr refl)) in (
          (reached, all_both (IsReachableNode flow) (origins on_yes) (origins on_no) first.0 second.0),
          all_both ReachesHead (nexts_of on_yes) (nexts_of on_no) first.1 second.1,
        )
    tree_reaches _ at left _ (A_stop here) reached = (tt, tt)
    tree_reaches _ at left _ (A_trap here) reached = (tt, tt)

    behind_reaches : (room to left : ℕ) (tree : TableTree) → IsBehind flow Head heads room to tree left → IsReachableNode flow to → ReachesAll tree
    behind_reaches room to left tree (Taken no_head is) reached = tree_reaches room to left tree is reached
    behind_reaches room to left _ (Not_taken {region} head there) reached = (tt, ((λ at e. let same : to ≡ at = (cc) in subst (IsReachableNode flow) same reached), tt))

-- ---- edges

-- an edge is counted
edge_counts : (node : FlowNode) (to : ℕ) → HasEdge node to → 1 ≤ edges_of (Some node) to
edge_counts (Op item next) to e = let one = one_if_same next to e in omega (arith, one)
edge_counts (Test on on_yes on_no turn) to (inl e) = first (one_if on_yes to) (one_if on_no to) (one_if_same on_yes to e)
  where
    first : (a b : ℕ) → a ≡ 1 → 1 ≤ a + b
    first a b h = omega (arith, h)
edge_counts (Test on on_yes on_no turn) to (inr e) = second (one_if on_yes to) (one_if on_no to) (one_if_same on_no to e)
  where
    second : (a b : ℕ) → b ≡ 1 → 1 ≤ a + b
    second a b h = omega (arith, h)
edge_counts Stop to e = absurd e
edge_counts (Trap kind line) to e = absurd e

module _ (flow : FlowGraph) (reachable : List ℕ) (are : AreReachable flow reachable) (from to : ℕ) (reached : IsReachableNode flow from) where
  abbrev edges : ℕ → ℕ
  edges at = edges_of (slice_get flow.nodes at) to

  -- where one edge leads to a node, it is the edge from this one
  only_edge : in_edges flow reachable to ≤ 1 → 1 ≤ edges from → (at : ℕ) → IsReachableNode flow at → edges at ≤ one_if at from
  only_edge few some at there =
      let sum = sum_is edges reachable in
      let here = are.all at there in
      let source = are.all from reached in
      elim (same_or_not at from) [
        | inl e ↦
            let most = total_one edges reachable here.0 at here.1 in
            same (edges at) (total edges reachable) (in_edges flow reachable to) (one_if at from) most sum few (one_if_same at from e)
        | inr differ ↦
            let most = total_two edges reachable here.0 source.0 at from here.1 source.1 differ in
            other (edges at) (edges from) (total edges reachable) (in_edges flow reachable to) (one_if at from) most sum few some
      ]
    where
      same : (a t s o : ℕ) → a ≤ t → s ≡ t → s ≤ 1 → o ≡ 1 → a ≤ o
      same a t s o h e k f = omega (arith, h, e, k, f)

      other : (a b t s o : ℕ) → a + b ≤ t → s ≡ t → s ≤ 1 → 1 ≤ b → a ≤ o
      other a b t s o h e k f = omega (arith, h, e, k, f)

-- ---- the table

module _ (flow : FlowGraph) (table : Table) (cut : IsCutOf flow table) where
  abbrev heads : List ℕ
  heads = heads_of table.regions

  abbrev Head : ℕ → Type 0
  Head = IsHead flow cut.reachable

  -- regions of the table
  abbrev Each : List TableRegion → Type 0
  Each regions = (number : ℕ) (region : TableRegion) → slice_get regions number ≡ Some region → IsRegionOf flow Head heads region

  -- over all regions a node is taken and named no more often than it heads regions and edges lead to it
  regions_take : (x : ℕ) (regions : List TableRegion) → Each regions
      → count x (all_origins regions) + total (begins flow Head heads x) (all_nexts regions) ≤ count x (heads_of regions) + total (leads flow Head heads x) (all_origins regions)
  regions_take x [] each = omega arith
  regions_take x (region ∷ regions) each =
      let is = each 0 region refl in
      sum (count x (all_origins (region ∷ regions))) (count x (origins region.tree)) (count x (all_origins regions))
      (total (begins flow Head heads x) (all_nexts (region ∷ regions))) (total (begins flow Head heads x) (nexts_of region.tree)) (total (begins flow Head heads x) (all_nexts regions))
      (one_if region.head x) (count x (heads_of regions))
      (total (leads flow Head heads x) (all_origins (region ∷ regions))) (total (leads flow Head heads x) (origins region.tree)) (total (leads flow Head heads x) (all_origins regions))
      (total_both (λ y. one_if y x) (origins region.tree) (all_origins regions)) (total_both (begins flow Head heads x) (nexts_of region.tree) (all_nexts regions))
      (total_both (leads flow Head heads x) (origins region.tree) (all_origins regions))
      (tree_takes flow Head heads x _ region.head is.left region.tree is.tree) (regions_take x regions (λ number it there. each (suc number) it there))
    where
      sum : (t t1 t2 n n1 n2 a h l l1 l2 : ℕ) → t ≡ t1 + t2 → n ≡ n1 + n2 → l ≡ l1 + l2 → t1 + n1 ≤ a + l1 → t2 + n2 ≤ h + l2 → t + n ≤ a + h + l
      sum t t1 t2 n n1 n2 a h l l1 l2 p q r s u = omega (arith, p, q, r, s, u)

  -- a node where regions begin is taken no more often than it heads regions
  head_takes : (x : ℕ) → Head x → (regions : List TableRegion) → Each regions → count x (all_origins regions) ≤ count x (heads_of regions)
  head_takes x is_head [] each = omega arith
  head_takes x is_head (region ∷ regions) each =
      let is = each 0 region refl in
      sum (count x (all_origins (region ∷ regions))) (count x (origins region.tree)) (count x (all_origins regions)) (one_if region.head x) (count x (heads_of regions))
      (total_both (λ y. one_if y x) (origins region.tree) (all_origins regions)) (head_taken flow Head heads x is_head _ region.head is.left region.tree is.tree)
      (head_takes x is_head regions (λ number it there. each (suc number) it there))
    where
      sum : (t t1 t2 a h : ℕ) → t ≡ t1 + t2 → t1 ≤ a → t2 ≤ h → t ≤ a + h
      sum t t1 t2 a h p s u = omega (arith, p, s, u)

  -- a node that heads a region heads one
  heads_one : (x : ℕ) → count x heads ≤ 1
  heads_one x = counted_once x heads cut.once

  -- each region but the first is named
  abbrev IsNamed : ℕ → Type 0
  IsNamed number = (number ≡ 0) ⊎ Has (all_nexts table.regions) number

  region_named : (number : ℕ) → number < length table.regions → IsNamed number
  region_named number lt = found_all IsNamed table.regions (length table.regions) cut.found (inl refl)
      (λ other region there had. all_of_members IsNamed (nexts_of region.tree) (λ name has. inr (named_in table.regions other region name there has))) number lt

  -- so a node but the entry is named as often as it heads regions
  named_often : (x : ℕ) → x ≢ flow.entry → count x heads ≤ total (begins flow Head heads x) (all_nexts table.regions)
  named_often x differ = elim (counted x heads) [
    | inl none ↦ few (count x heads) (total (begins flow Head heads x) (all_nexts table.regions)) none
    | inr has ↦
        let found = region_at table.regions has.0 x has.1 in
        elim (region_named has.0 (slice_get_within table.regions has.0 found.0 found.1)) [
          | inl first ↦
              let at_first : slice_get heads 0 ≡ Some x = subst (λ (n : ℕ). slice_get heads n ≡ Some x) first has.1 in
              let entry = cut.entry in
              absurd (differ (cc))
          | inr named ↦
              let one = total_one (begins flow Head heads x) (all_nexts table.regions) named.0 has.0 named.1 in
              let here : begins flow Head heads x has.0 ≡ 1 = ap (λ (head : Option ℕ). head_is head x) has.1 ∙ one_if_same x x refl in
              both (count x heads) (begins flow Head heads x has.0) (total (begins flow Head heads x) (all_nexts table.regions)) (heads_one x) here one
        ]
  ]
    where
      few : (a b : ℕ) → a ≡ 0 → a ≤ b
      few a b h = omega (arith, h)

      both : (a b c : ℕ) → a ≤ 1 → b ≡ 1 → b ≤ c → a ≤ c
      both a b c h k l = omega (arith, h, k, l)

  -- ---- every node of the regions is reachable

  region_reaches : (number : ℕ) → number < length table.regions → ReachesHead flow Head heads number
  region_reaches number lt = found_all (ReachesHead flow Head heads) table.regions (length table.regions) cut.found first
      (λ other region there had.
      let is = cut.each other region there in
      (tree_reaches flow Head heads _ region.head is.left region.tree is.tree (had region.head (head_at table.regions other region there))).1) number lt
    where
      first : ReachesHead flow Head heads 0
      first head e = let entry = cut.entry in let same : flow.entry ≡ head = (cc) in subst (IsReachableNode flow) same Entry

  -- what holds of the nodes of each region holds of all
  in_all : (P : ℕ → Type 0) (regions : List TableRegion)
      → ((number : ℕ) (region : TableRegion) → slice_get regions number ≡ Some region → AllByRecursion P (origins region.tree)) → AllByRecursion P (all_origins regions)
  in_all P [] h = tt
  in_all P (region ∷ regions) h =
      all_both P (origins region.tree) (all_origins regions) (h 0 region refl) (in_all P regions (λ number it there. h (suc number) it there))

  all_within : AllByRecursion (λ node. node < length flow.nodes) (all_origins table.regions)
  all_within = in_all (λ node. node < length flow.nodes) table.regions (λ number region there.
      let is = cut.each number region there in tree_within flow Head heads _ region.head is.left region.tree is.tree)

  all_reached : AllByRecursion (IsReachableNode flow) (all_origins table.regions)
  all_reached = in_all (IsReachableNode flow) table.regions (λ number region there.
      let is = cut.each number region there in
      let head = region_reaches number (slice_get_within table.regions number region there) region.head (head_at table.regions number region there) in
      (tree_reaches flow Head heads _ region.head is.left region.tree is.tree head).0)

  -- ---- and is there once

  taken_as_head : (x : ℕ) → Head x → count x (all_origins table.regions) ≤ 1
  taken_as_head x is_head =
      let most = head_takes x is_head table.regions cut.each in
      let one = heads_one x in
      both (count x (all_origins table.regions)) (count x heads) most one
    where
      both : (a b : ℕ) → a ≤ b → b ≤ 1 → a ≤ 1
      both a b h k = omega (arith, h, k)

  -- a node to which one edge leads is taken as often as the node that leads to it
  taken_behind : (from to : ℕ) (node : FlowNode) → IsReachableNode flow from → slice_get flow.nodes from ≡ Some node → HasEdge node to → in_edges flow cut.reachable to ≤ 1
      → to ≢ flow.entry → count from (all_origins table.regions) ≤ 1 → count to (all_origins table.regions) ≤ 1
  taken_behind from to node reached here edge few differ once =
      let takes = regions_take to table.regions cut.each in
      let named = named_often to differ in
      let some : 1 ≤ edges_of (slice_get flow.nodes from) to = subst (λ (found : Option FlowNode). 1 ≤ edges_of found to) (sym here) (edge_counts node to edge) in
      let led = total_most (leads flow Head heads to) (λ at. one_if at from) (all_origins table.regions)
      (all_imply (IsReachableNode flow) (λ at. leads flow Head heads to at ≤ one_if at from) (all_origins table.regions)
      (λ at there. only_edge flow cut.reachable cut.are_reachable from to reached few some at there) all_reached) in
      sum (count to (all_origins table.regions)) (total (begins flow Head heads to) (all_nexts table.regions)) (count to heads)
      (total (leads flow Head heads to) (all_origins table.regions)) (count from (all_origins table.regions)) takes named led once
    where
      sum : (t n h l f : ℕ) → t + n ≤ h + l → h ≤ n → l ≤ f → f ≤ 1 → t ≤ 1
      sum t n h l f p q r s = omega (arith, p, q, r, s)

  taken_once : (x : ℕ) → IsReachableNode flow x → count x (all_origins table.regions) ≤ 1
  taken_once _ Entry = taken_as_head flow.entry (Is_entry refl)
  taken_once x (Behind {from} {to} {node} reached here edge) = elim (same_or_not to flow.entry) [
    | inl e ↦ taken_as_head to (Is_entry e)
    | inr differ ↦ elim (decide_le (in_edges flow cut.reachable to) 1) [
      | inl few ↦ taken_behind from to node reached here edge few differ (taken_once from reached)
      | inr many ↦ taken_as_head to (Edges_meet (omega (arith, many)))
    ]
  ]

  -- so the table has no more items and tests than the graph has nodes
  pub few_units : all_units table.regions ≤ length flow.nodes
  few_units = subst (λ (n : ℕ). n ≤ length flow.nodes) (as_many_in_all table.regions)
      (no_more (all_origins table.regions) (length flow.nodes) all_within
      (λ x. elim (counted x (all_origins table.regions)) [
        | inl none ↦ none_few (count x (all_origins table.regions)) none
        | inr has ↦ taken_once x (member_of_all (IsReachableNode flow) (all_origins table.regions) x all_reached has)
      ]))
    where
      none_few : (a : ℕ) → a ≡ 0 → a ≤ 1
      none_few a h = omega (arith, h)

  -- nor more regions
  pub few_regions : length table.regions ≤ length flow.nodes
  few_regions = subst (λ (n : ℕ). n ≤ length flow.nodes) (length-map table.regions (λ (region : TableRegion). region.head))
      (no_more heads (length flow.nodes) heads_within heads_one)
    where
      in_list : (regions : List TableRegion) → ((number : ℕ) (region : TableRegion) → slice_get regions number ≡ Some region → region.head < length flow.nodes)
          → AllByRecursion (λ node. node < length flow.nodes) (heads_of regions)
      in_list [] each = tt
      in_list (region ∷ regions) each = (each 0 region refl, in_list regions (λ number other there. each (suc number) other there))

      heads_within : AllByRecursion (λ node. node < length flow.nodes) heads
      heads_within = in_list table.regions (λ number region there. (let is = cut.each number region there in
          node_there flow Head heads _ region.head is.left region.tree is.tree))
