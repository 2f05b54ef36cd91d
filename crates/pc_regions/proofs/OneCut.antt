-- A graph has one cut.
use Rattle.std.proofs.Common.{◌≡◌, inl, inr, ℕ, zero, suc, ◌<◌, ◌≤◌, true, false, List, [], ◌∷◌, ◌++◌, length, Option, Some, None, refl, sym, ◌∙◌, ap, subst, arith}
use Rattle.std.specs.Prelude.{nat_le, if◌then◌else◌, slice_get}
use Rattle.std.proofs.lemmas.Bool.Decides.{nat_tests}
use Rattle.std.proofs.lemmas.Option.{slice_get_within}
use Rattle.pc_word.specs.declared.loop_mark.LoopMark.{LoopMark}
use Rattle.pc_word.proofs.Truth.{decide_le}
use Rattle.pc_flow.specs.FlowGraph.{FlowGraph, IsFlow}
use Rattle.pc_table.specs.Table.{TableTree, TableRegion, Table}
use Rattle.pc_table.specs.TableKeeps.{most_region_nodes}
use Rattle.pc_regions.specs.Reachable.{AreReachable, edges_of}
use Rattle.pc_regions.specs.Loops.{HeadsLoop}
use Rattle.pc_live.specs.Live.{IsLive}
use Rattle.pc_regions.specs.Cut.{IsTreeOf, IsHead, Is_entry, Edges_meet, Heads_loop, AreMet, None_met, Known, Met, AreFound, First, Found, IsRegionOf, IsCutOf, heads_of, nexts_of}
use Rattle.pc_regions.proofs.LoopsEntered.{within_below}
use Rattle.pc_regions.proofs.CutKeeps.{head_at}
use Rattle.pc_regions.proofs.Members.{same_sum, same_rising}
use Rattle.pc_regions.proofs.SameTrees.{SameBelow, same_tree}
use Rattle.pc_word.proofs.Places.{found_within, get_more, length_more}

-- ---- heads

-- whatever list of the reachable nodes is taken, the heads are the same
same_heads : (flow : FlowGraph) (reachable others : List ℕ) → AreReachable flow reachable → AreReachable flow others → (at : ℕ) → IsHead flow reachable at → IsHead flow others at
same_heads flow reachable others are are_too at (Is_entry e) = Is_entry e
same_heads flow reachable others are are_too at (Edges_meet many) =
    let same = same_sum (λ from. edges_of (slice_get flow.nodes from) at) reachable others are.once are_too.once
    (λ x has. are_too.all x (are.only has.0 x has.1)) (λ x has. are.all x (are_too.only has.0 x has.1)) in
    Edges_meet (omega (arith, many, same))
same_heads flow reachable others are are_too at (Heads_loop loop is) = Heads_loop loop is

-- a head heads one loop
same_loop : (flow : FlowGraph) → IsFlow flow → (at : ℕ) (one other : Option ℕ) → HeadsLoop flow at one → HeadsLoop flow at other → one ≡ other
same_loop flow is at None None h k = refl
same_loop flow is at None (Some loop) h k = absurd (h loop k.0)
same_loop flow is at (Some loop) None h k = absurd (k loop h.0)
same_loop flow is at (Some loop) (Some other) h k =
    let low = within_below flow.loops loop other is.outer_first (h.1 other k.0) in
    let high = within_below flow.loops other loop is.outer_first (k.1 loop h.0) in
    let same : loop ≡ other = omega (arith, low, high) in
    ap (λ (n : ℕ). Some n) same

-- ---- how many regions are known before each

-- names only make more known
met_more : (known after : ℕ) (names : List ℕ) → AreMet known names after → known ≤ after
met_more known _ _ None_met = omega arith
met_more known after _ (Known {names} less rest) = met_more known after names rest
met_more known after _ (Met {names} rest) = let more = met_more (suc known) after names rest in omega (arith, more)

pub record Steps (regions : List TableRegion) (known : ℕ) : Type 0 where
  pub known_at : ℕ → ℕ
  pub begins : known_at 0 ≡ 1
  pub ends : known_at (length regions) ≡ known
  pub each : (number : ℕ) (region : TableRegion) → slice_get regions number ≡ Some region
      → (number < known_at number) × AreMet (known_at number) (nexts_of region.tree) (known_at (suc number))
  pub most : (number : ℕ) → number ≤ length regions → known_at number ≤ known

-- a number at most a count, or the next one
at_most : (n m : ℕ) → n ≤ m → nat_le n m ≡ true
at_most n m h = grind (arith, nat_tests)

above : (n m : ℕ) → m < n → nat_le n m ≡ false
above n m h = grind (arith, nat_tests)

module _ (regions : List TableRegion) (region : TableRegion) (known after : ℕ) (before : Steps regions known) (less : length regions < known)
    (met : AreMet known (nexts_of region.tree) after) where
  -- so many are known before a region, with one more
  abbrev longer : ℕ → ℕ
  longer number = if nat_le number (length regions) then before.known_at number else after

  as_before : (number : ℕ) → number ≤ length regions → longer number ≡ before.known_at number
  as_before number low = let e = at_most number (length regions) low in simp e refl

  behind : (number : ℕ) → length regions < number → longer number ≡ after
  behind number high = let e = above number (length regions) high in simp e refl

  abbrev Step : ℕ → TableRegion → (ℕ → ℕ) → Type 0
  Step number other known_at = (number < known_at number) × AreMet (known_at number) (nexts_of other.tree) (known_at (suc number))

  step_of : (number low high : ℕ) (other : TableRegion) → longer number ≡ low → longer (suc number) ≡ high → (number < low) × AreMet low (nexts_of other.tree) high → Step number other longer
  step_of number low high other p q h = (
    subst (λ (n : ℕ). number < n) (sym p) h.0,
    subst (λ (n : ℕ). AreMet n (nexts_of other.tree) (longer (suc number))) (sym p) (subst (λ (n : ℕ). AreMet low (nexts_of other.tree) n) (sym q) h.1),
  )

  step_more : (number : ℕ) (other : TableRegion) → slice_get (regions ++ region ∷ []) number ≡ Some other → Step number other longer
  step_more number other there = elim (get_more regions region number other there) [
    | inl was ↦
        let within = slice_get_within regions number other was in
        step_of number (before.known_at number) (before.known_at (suc number)) other (as_before number (omega (arith, within))) (as_before (suc number) (omega (arith, within)))
        (before.each number other was)
    | inr last ↦
        let low : longer number ≡ known = as_before number (let e = last.0 in omega (arith, e)) ∙ ap before.known_at last.0 ∙ before.ends in
        let high : longer (suc number) ≡ after = behind (suc number) (let e = last.0 in omega (arith, e)) in
        step_of number known after other low high (
          let e = last.0 in omega (arith, e, less),
          subst (λ (r : TableRegion). AreMet known (nexts_of r.tree) after) last.1 met,
        )
  ]

  most_more : (number : ℕ) → longer number ≤ after
  most_more number = elim (decide_le number (length regions)) [
    | inl low ↦
        let same = as_before number low in
        let most = before.most number low in
        let more = met_more known after (nexts_of region.tree) met in
        omega (arith, same, most, more)
    | inr high ↦ let same = behind number high in omega (arith, same)
  ]

  steps_more : Steps (regions ++ region ∷ []) after
  steps_more = record {
    known_at = longer;
    begins = as_before 0 (omega arith) ∙ before.begins;
    ends = behind (length (regions ++ region ∷ [])) (let more = length_more regions region in omega (arith, more));
    each = step_more;
    most = λ number low. most_more number;
  }

found_steps : (regions : List TableRegion) (known : ℕ) → AreFound regions known → Steps regions known
found_steps _ _ First = record {
  known_at = λ number. 1;
  begins = refl;
  ends = refl;
  each = λ number region e. absurd (cc);
  most = λ number low. omega arith;
}
found_steps _ after (Found {known} regions region before less met) = steps_more regions region known after (found_steps regions known before) less met

-- ---- equal lists, regions, tables

same_list : {X : Type 0} (xs ys : List X) → length xs ≡ length ys → ((i : ℕ) → i < length xs → slice_get xs i ≡ slice_get ys i) → xs ≡ ys
same_list [] [] as_many h = refl
same_list [] (y ∷ ys) as_many h = absurd (omega (arith, as_many))
same_list (x ∷ xs) [] as_many h = absurd (omega (arith, as_many))
same_list (x ∷ xs) (y ∷ ys) as_many h =
    let first : x ≡ y = of_some (h 0 (omega arith)) in
    let rest = same_list xs ys (omega (arith, as_many)) (λ i lt. h (suc i) (omega (arith, lt))) in
    ap (λ z. z ∷ xs) first ∙ ap (λ l. y ∷ l) rest
  where
    of_some : Some x ≡ Some y → x ≡ y
    of_some e = cc

-- regions with equal parts are equal
region_equal : (one other : TableRegion) → one.head ≡ other.head → one.tree ≡ other.tree → one.live ≡ other.live → one.inside ≡ other.inside → one.heads ≡ other.heads → one ≡ other
region_equal one other p q r s t =
    ap (λ (x : ℕ). let made : TableRegion = record { head = x; tree = one.tree; live = one.live; inside = one.inside; heads = one.heads } in made) p
    ∙ ap (λ (x : TableTree). let made : TableRegion = record { head = other.head; tree = x; live = one.live; inside = one.inside; heads = one.heads } in made) q
    ∙ ap (λ (x : List ℕ). let made : TableRegion = record { head = other.head; tree = other.tree; live = x; inside = one.inside; heads = one.heads } in made) r
    ∙ ap (λ (x : Option ℕ). let made : TableRegion = record { head = other.head; tree = other.tree; live = other.live; inside = x; heads = one.heads } in made) s
    ∙ ap (λ (x : Option ℕ). let made : TableRegion = record { head = other.head; tree = other.tree; live = other.live; inside = other.inside; heads = x } in made) t

-- tables with equal parts are equal
table_equal : (one other : Table) → one.regions ≡ other.regions → one.loops ≡ other.loops → one.arrays ≡ other.arrays → one ≡ other
table_equal one other p q r =
    ap (λ (x : List TableRegion). let made : Table = record { regions = x; loops = one.loops; arrays = one.arrays } in made) p
    ∙ ap (λ (x : List LoopMark). let made : Table = record { regions = other.regions; loops = x; arrays = one.arrays } in made) q
    ∙ ap (λ (x : List ℕ). let made : Table = record { regions = other.regions; loops = other.loops; arrays = x } in made) r

-- ---- two cuts

module _ (flow : FlowGraph) (is : IsFlow flow) (one other : Table) (cut : IsCutOf flow one) (cut_too : IsCutOf flow other) where
  forth : (at : ℕ) → IsHead flow cut.reachable at → IsHead flow cut_too.reachable at
  forth at h = same_heads flow cut.reachable cut_too.reachable cut.are_reachable cut_too.are_reachable at h

  back : (at : ℕ) → IsHead flow cut_too.reachable at → IsHead flow cut.reachable at
  back at h = same_heads flow cut_too.reachable cut.reachable cut_too.are_reachable cut.are_reachable at h

  abbrev Below : ℕ → Type 0
  Below known = SameBelow flow (IsHead flow cut.reachable) (IsHead flow cut_too.reachable) forth back (heads_of one.regions) (heads_of other.regions) cut.once cut_too.once known

  steps : Steps one.regions (length one.regions)
  steps = found_steps one.regions (length one.regions) cut.found

  steps_too : Steps other.regions (length other.regions)
  steps_too = found_steps other.regions (length other.regions) cut_too.found

  -- the first regions are the same, as many are known after them, and their heads are the same
  record SameSoFar (known known_too : ℕ → ℕ) (number : ℕ) : Type 0 where
    known_is : known number ≡ known_too number
    below : Below (known number)
    regions : (i : ℕ) → i < number → slice_get one.regions i ≡ slice_get other.regions i

  -- two regions of one head with one tree are the same
  same_region : (region region_too : TableRegion) → region.head ≡ region_too.head → region.tree ≡ region_too.tree
      → IsRegionOf flow (IsHead flow cut.reachable) (heads_of one.regions) region
      → IsRegionOf flow (IsHead flow cut_too.reachable) (heads_of other.regions) region_too → region ≡ region_too
  same_region region region_too head tree is_one is_too = region_equal region region_too head tree
      (same_rising region.live region_too.live is_one.rising is_too.rising
      (λ x h. (is_too.live x).1 (subst (λ (n : ℕ). IsLive flow x n) head ((is_one.live x).0 h)))
      (λ x h. (is_one.live x).1 (subst (λ (n : ℕ). IsLive flow x n) (sym head) ((is_too.live x).0 h))))
      (one_inside (sym is_one.inside ∙ ap (λ (n : ℕ). slice_get flow.inside n) head ∙ is_too.inside))
      (same_loop flow is region_too.head region.heads region_too.heads (subst (λ (n : ℕ). HeadsLoop flow n region.heads) head is_one.heads_loop) is_too.heads_loop)
    where
      one_inside : Some region.inside ≡ Some region_too.inside → region.inside ≡ region_too.inside
      one_inside e = cc

  -- one region more
  region_too_same : (number : ℕ) (region region_too : TableRegion) → slice_get one.regions number ≡ Some region → slice_get other.regions number ≡ Some region_too
      → SameSoFar steps.known_at steps_too.known_at number → SameSoFar steps.known_at steps_too.known_at (suc number)
  region_too_same number region region_too there there_too h =
      let step = steps.each number region there in
      let step_too = steps_too.each number region_too there_too in
      let head : region.head ≡ region_too.head =
      one_head (sym (head_at one.regions number region there) ∙ h.below number step.0 ∙ head_at other.regions number region_too there_too) in
      let is_one = cut.each number region there in
      let is_too = cut_too.each number region_too there_too in
      let trees = same_tree flow (IsHead flow cut.reachable) (IsHead flow cut_too.reachable) forth back (heads_of one.regions) (heads_of other.regions) cut.once cut_too.once
      most_region_nodes region.head is_one.left region.tree is_one.tree is_too.left region_too.tree
      (subst (λ (n : ℕ). IsTreeOf flow (IsHead flow cut_too.reachable) (heads_of other.regions) most_region_nodes n region_too.tree is_too.left) (sym head) is_too.tree)
      (steps.known_at number) (steps.known_at (suc number)) (steps_too.known_at (suc number)) step.1
      (subst (λ (k : ℕ). AreMet k (nexts_of region_too.tree) (steps_too.known_at (suc number))) (sym h.known_is) step_too.1) h.below in
      let same = same_region region region_too head trees.tree_is is_one is_too in
      record {
        known_is = trees.after_is;
        below = trees.below;
        regions = λ i lt. elim (decide_le (suc i) number) [
          | inl low ↦ h.regions i low
          | inr high ↦
              let last : i ≡ number = omega (arith, lt, high) in
              subst (λ (n : ℕ). slice_get one.regions n ≡ slice_get other.regions n) (sym last) (there ∙ ap (λ (r : TableRegion). Some r) same ∙ sym there_too)
        ];
      }
    where
      one_head : Some region.head ≡ Some region_too.head → region.head ≡ region_too.head
      one_head e = cc

  so_far : (number : ℕ) → number ≤ length one.regions → number ≤ length other.regions → SameSoFar steps.known_at steps_too.known_at number
  so_far zero low low_too = record {
    known_is = steps.begins ∙ sym steps_too.begins;
    below = subst Below (sym steps.begins) first_below;
    regions = λ i lt. absurd (omega arith);
  }
    where
      first_below : Below 1
      first_below zero lt = cut.entry ∙ sym cut_too.entry
      first_below (suc i) lt = absurd (omega arith)
  so_far (suc number) low low_too =
      let here = found_within one.regions number low in
      let here_too = found_within other.regions number low_too in
      region_too_same number here.0 here_too.0 here.1 here_too.1 (so_far number (omega (arith, low)) (omega (arith, low_too)))

  -- so neither has more regions than the other
  no_fewer : length other.regions ≤ length one.regions
  no_fewer = elim (decide_le (length other.regions) (length one.regions)) [
    | inl low ↦ low
    | inr high ↦
        let h = so_far (length one.regions) (omega arith) (omega (arith, high)) in
        let next = found_within other.regions (length one.regions) high in
        let step = steps_too.each (length one.regions) next.0 next.1 in
        let less = step.0 in
        let same = h.known_is in
        let all = steps.ends in
        absurd (omega (arith, less, same, all))
  ]

  no_more : length one.regions ≤ length other.regions
  no_more = elim (decide_le (length one.regions) (length other.regions)) [
    | inl low ↦ low
    | inr high ↦
        let h = so_far (length other.regions) (omega (arith, high)) (omega arith) in
        let next = found_within one.regions (length other.regions) high in
        let step = steps.each (length other.regions) next.0 next.1 in
        let less = step.0 in
        let same = h.known_is in
        let all = steps_too.ends in
        absurd (omega (arith, less, same, all))
  ]

  -- and they are the same
  pub one_cut : one ≡ other
  one_cut =
      let as_many : length one.regions ≡ length other.regions = let low = no_fewer in let high = no_more in omega (arith, low, high) in
      let all = so_far (length one.regions) (omega arith) no_more in
      table_equal one other (same_list one.regions other.regions as_many all.regions) (cut.loops ∙ sym cut_too.loops) (cut.arrays ∙ sym cut_too.arrays)
