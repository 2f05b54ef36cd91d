-- Lists of passes of which one was applied, and graphs that were kept.
use Rattle.std.proofs.Common.{◌≡◌, inl, inr, ℕ, ◌+◌, ◌<◌, ◌≤◌, List, length, map, set, get_or, refl, sym, ◌∙◌, ap, subst, arith, get_or-set_same, get_or-set_other}
use Rattle.std.proofs.lemmas.Bool.{cases_eq}
use Rattle.std.proofs.lemmas.List.{map-set, set-get_or, get_or-map, length-map}
use Rattle.pc_word.proofs.Runs.{Answers-refl, Answers-trans, AgreeOnInputs-refl, AgreeOnInputs-trans}
use Rattle.pc_flow.specs.FlowGraph.{FlowGraph}
use Rattle.pc_flow.specs.FlowRun.{flow_run}
use Rattle.pc_pass.specs.Pass.{Keeps, NoneFell}
use Rattle.pc_word.specs.Count.{Rose}

-- ---- graphs

-- a graph keeps itself
pub keeps_refl : (flow : FlowGraph) → Keeps flow flow
keeps_refl flow = record {
  agrees = AgreeOnInputs-refl (flow_run flow);
  pace = λ input words n. Answers-refl (flow_run flow input n);
  as_many = refl;
  same_loops = refl;
  same_inside = refl;
  same_arrays = refl;
  same_initial = refl;
}

-- what keeps a graph that keeps a graph keeps that
pub keeps_trans : (old mid new : FlowGraph) → Keeps old mid → Keeps mid new → Keeps old new
keeps_trans old mid new p q = record {
  agrees = AgreeOnInputs-trans (flow_run new) (flow_run mid) (flow_run old) q.agrees p.agrees;
  pace = λ input words n. Answers-trans (flow_run old input n) (flow_run mid input n) (flow_run new input n) (flow_run old input n).end (flow_run mid input n).end refl
      (p.pace input words n) (q.pace input words n);
  as_many = q.as_many ∙ p.as_many;
  same_loops = q.same_loops ∙ p.same_loops;
  same_inside = q.same_inside ∙ p.same_inside;
  same_arrays = q.same_arrays ∙ p.same_arrays;
  same_initial = q.same_initial ∙ p.same_initial;
}

-- an equal graph keeps a graph as well
pub keeps_same : (old mid new : FlowGraph) → Keeps old mid → new ≡ mid → Keeps old new
keeps_same old mid new p e = subst (Keeps old) (sym e) p

-- ---- counts

-- what rises from a count rises from each count that is not above it
pub rose_after : (a b n : ℕ) → a ≤ b → Rose b n → Rose a n
rose_after a b n h r = omega arith

module _ {X : Type 0} (xs : List X) (i : ℕ) (d new : X) where
  abbrev old : X
  old = get_or xs i d

  -- where one element is replaced by one of the same label, the labels are the same
  pub one_named : (label : X → List ℕ) → label new ≡ label old → map label (set xs i new) ≡ map label xs
  one_named label e =
      map-set label xs i new ∙ ap (set (map label xs) i) e ∙ sym (map-set label xs i old) ∙ ap (map label) (set-get_or xs i d)

  -- the count of the element itself
  count_is : (count : X → ℕ) → i < length xs → get_or (map count xs) i 0 ≡ count old
  count_is count there = get_or-map count xs i d 0 there

  module _ (count : X → ℕ) (there : i < length xs) where
    mapped : map count (set xs i new) ≡ set (map count xs) i (count new)
    mapped = map-set count xs i new

    -- the count of the new element stands at its place
    count_same : get_or (map count (set xs i new)) i 0 ≡ count new
    count_same =
        ap (λ (l : List ℕ). get_or l i 0) mapped
        ∙ get_or-set_same (map count xs) i (count new) 0 (subst (λ (n : ℕ). i < n) (sym (length-map xs count)) there)

    -- and at each other place what stood there
    count_other : (at : ℕ) → (at ≡ i → ⊥) → get_or (map count (set xs i new)) at 0 ≡ get_or (map count xs) at 0
    count_other at other = ap (λ (l : List ℕ). get_or l at 0) mapped ∙ get_or-set_other (map count xs) i at (count new) 0 other

    -- where one element is replaced by one whose count is no lower, no count has fallen
    pub one_counted : (before : List ℕ) → count old ≤ count new → NoneFell before (map count xs) → NoneFell before (map count (set xs i new))
    one_counted before up none at low = elim (cases_eq at i) [
      | inl same ↦
          let was : get_or before at 0 ≤ get_or (map count xs) at 0 = none at low in
          let old_is : get_or (map count xs) at 0 ≡ count old = ap (λ (k : ℕ). get_or (map count xs) k 0) same ∙ count_is count there in
          let new_is : get_or (map count (set xs i new)) at 0 ≡ count new = ap (λ (k : ℕ). get_or (map count (set xs i new)) k 0) same ∙ count_same in
          omega (arith, new_is, was, old_is, up)
      | inr other ↦ omega (arith, count_other at other, none at low)
    ]

    -- where one element more is replaced by one whose count rose, one count more has risen
    pub one_ran : (before : List ℕ) → length before ≡ length xs → Rose (count old) (count new) → NoneFell before (map count xs)
        → ((at : ℕ) → at < i → Rose (get_or before at 0) (get_or (map count xs) at 0))
        → (at : ℕ) → at < i + 1 → Rose (get_or before at 0) (get_or (map count (set xs i new)) at 0)
    one_ran before long up none ran at low = elim (cases_eq at i) [
      | inl same ↦
          let old_is : get_or (map count xs) at 0 ≡ count old = ap (λ (k : ℕ). get_or (map count xs) k 0) same ∙ count_is count there in
          let new_is : get_or (map count (set xs i new)) at 0 ≡ count new = ap (λ (k : ℕ). get_or (map count (set xs i new)) k 0) same ∙ count_same in
          let was : get_or before at 0 ≤ get_or (map count xs) at 0 = none at (omega arith) in
          let rose : Rose (get_or before at 0) (count new) = rose_after (get_or before at 0) (count old) (count new) (omega arith) up in
          subst (Rose (get_or before at 0)) (sym new_is) rose
      | inr other ↦ subst (Rose (get_or before at 0)) (sym (count_other at other)) (ran at (omega arith))
    ]
