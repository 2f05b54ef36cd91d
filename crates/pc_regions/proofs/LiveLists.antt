-- Lists of variables that rise, and hold exactly those of a set.
use Rattle.std.proofs.Common.{◌≡◌, ℕ, zero, suc, ◌+◌, ◌<◌, ◌≤◌, Bool, true, false, cond, List, [], ◌∷◌, ◌++◌, length, filter, refl, sym, ◌∙◌, ap, arith, append-nil}
use Rattle.std.specs.Prelude.{nat_eq, ◌↔◌, ◌||◌}
use Rattle.std.specs.List.{range_with_len, list_any}
use Rattle.std.specs.List.Sorted.{IsStrictlyIncreasing}
use Rattle.std.proofs.lemmas.Bool.Decides.{nat_tests}
use Rattle.std.proofs.lemmas.List.Elements.{filter-append}
use Rattle.std.proofs.lemmas.List.FromFn.{length-range_with_len, get_or-range_with_len}
use Rattle.std.proofs.lemmas.List.Kept.{IsStrictlyIncreasing-filter}
use Rattle.pc_flow.specs.FlowGraph.{FlowGraph, variables, IsFlow}
use Rattle.pc_live.specs.declared.variable_set.VariableSet.{VariableSet}
use Rattle.pc_live.specs.Live.{IsLive}
use Rattle.pc_live.specs.Liveness.{member, set_at, IsLivenessOf}
use Rattle.pc_regions.specs.models.Cutting.{live_below}
use Rattle.pc_regions.proofs.CutKeeps.{live_small}
use Rattle.pc_word.proofs.Places.{same_number}

-- ---- ranges

-- a range with a number more
range_more : (a n : ℕ) → range_with_len a (suc n) ≡ range_with_len a n ++ (a + n) ∷ []
range_more a zero = let e : a + 0 ≡ a = omega arith in ap (λ (k : ℕ). k ∷ []) (sym e)
range_more a (suc n) =
    let e : a + 1 + n ≡ a + suc n = omega arith in
    ap (λ (l : List ℕ). a ∷ l) (range_more (a + 1) n ∙ ap (λ (k : ℕ). range_with_len (a + 1) n ++ k ∷ []) e)

-- the numbers below one more that pass a test
below_more : (p : ℕ → Bool) (n : ℕ) → filter p (range_with_len 0 (n + 1)) ≡ filter p (range_with_len 0 n) ++ cond (p n) (n ∷ []) []
below_more p n =
    let next : n + 1 ≡ suc n = omega arith in
    ap (λ (k : ℕ). filter p (range_with_len 0 k)) next
    ∙ ap (filter p) (range_more 0 n)
    ∙ filter-append p (range_with_len 0 n) ((0 + n) ∷ [])
    ∙ ap (λ (k : ℕ). filter p (range_with_len 0 n) ++ filter p (k ∷ [])) (zero_more n)
  where
    zero_more : (n : ℕ) → 0 + n ≡ n
    zero_more n = omega arith

-- none is below 0
pub live_none : (sets : List VariableSet) (at : ℕ) → live_below sets at 0 ≡ []
unfolding live_below
live_none sets at = refl

-- one that is live is put after them
pub live_more : (sets : List VariableSet) (at n : ℕ) → member (set_at sets at) n ≡ true → live_below sets at (n + 1) ≡ live_below sets at n ++ n ∷ []
unfolding live_below
live_more sets at n passes =
    below_more (λ x. member (set_at sets at) x) n
    ∙ ap (λ (b : Bool). filter (λ x. member (set_at sets at) x) (range_with_len 0 n) ++ cond b (n ∷ []) []) passes

-- one that is not is left out
pub live_same : (sets : List VariableSet) (at n : ℕ) → member (set_at sets at) n ≡ false → live_below sets at (n + 1) ≡ live_below sets at n
unfolding live_below
live_same sets at n fails =
    below_more (λ x. member (set_at sets at) x) n
    ∙ ap (λ (b : Bool). filter (λ x. member (set_at sets at) x) (range_with_len 0 n) ++ cond b (n ∷ []) []) fails
    ∙ append-nil (filter (λ x. member (set_at sets at) x) (range_with_len 0 n))

pub ruleset live = (live_none, live_more, live_same)

-- ---- what a list holds

-- a number stands in a range
in_range : (a n x : ℕ) → a ≤ x → x < a + n → list_any (nat_eq x) (range_with_len a n) ≡ true
in_range a zero x low high = absurd (omega (arith, low, high))
in_range a (suc n) x low high = here (λ least. in_range (a + 1) n x least (omega (arith, high))) (nat_eq x a) refl
  where
    other : (x a : ℕ) → nat_eq x a ≡ false → a ≤ x → a + 1 ≤ x
    other x a e h = grind (arith, nat_tests)

    here : (a + 1 ≤ x → list_any (nat_eq x) (range_with_len (a + 1) n) ≡ true) → (b : Bool) → nat_eq x a ≡ b → (b || list_any (nat_eq x) (range_with_len (a + 1) n)) ≡ true
    here rest true e = refl
    here rest false e = rest (other x a e low)

-- and what stands in it is below its end
range_below : (a n x : ℕ) → list_any (nat_eq x) (range_with_len a n) ≡ true → x < a + n
range_below a zero x h = absurd (cc)
range_below a (suc n) x h = here (λ e. range_below (a + 1) n x e) (nat_eq x a) refl h
  where
    here : (list_any (nat_eq x) (range_with_len (a + 1) n) ≡ true → x < a + 1 + n) → (b : Bool) → nat_eq x a ≡ b
        → (b || list_any (nat_eq x) (range_with_len (a + 1) n)) ≡ true → x < a + suc n
    here rest true e h = let is = same_number x a e in omega (arith, is)
    here rest false e h = let below = rest h in omega (arith, below)

-- ---- what passes a test

-- a number that stands in a list and passes stands in what passes
has_step : (p : ℕ → Bool) (x y : ℕ) (xs : List ℕ) → (list_any (nat_eq x) xs ≡ true → list_any (nat_eq x) (filter p xs) ≡ true) → p x ≡ true
    → (b : Bool) → p y ≡ b → (c : Bool) → nat_eq x y ≡ c → (c || list_any (nat_eq x) xs) ≡ true → list_any (nat_eq x) (cond b (y ∷ filter p xs) (filter p xs)) ≡ true
has_step p x y xs rest passes true e true d h = simp d refl
has_step p x y xs rest passes true e false d h = simp d (rest h)
has_step p x y xs rest passes false e true d h =
    let same = same_number x y d in
    let never : true ≡ false = sym passes ∙ ap p same ∙ e in
    absurd (cc)
has_step p x y xs rest passes false e false d h = rest h

filter_has : (p : ℕ → Bool) (x : ℕ) (xs : List ℕ) → list_any (nat_eq x) xs ≡ true → p x ≡ true → list_any (nat_eq x) (filter p xs) ≡ true
filter_has p x [] h passes = h
filter_has p x (y ∷ xs) h passes = has_step p x y xs (λ e. filter_has p x xs e passes) passes (p y) refl (nat_eq x y) refl h

-- and the other way round
had_step : (p : ℕ → Bool) (x y : ℕ) (xs : List ℕ) → (list_any (nat_eq x) (filter p xs) ≡ true → (list_any (nat_eq x) xs ≡ true) × (p x ≡ true))
    → (b : Bool) → p y ≡ b → (c : Bool) → nat_eq x y ≡ c → list_any (nat_eq x) (cond b (y ∷ filter p xs) (filter p xs)) ≡ true
    → ((c || list_any (nat_eq x) xs) ≡ true) × (p x ≡ true)
had_step p x y xs rest true e true d h = (refl, ap p (same_number x y d) ∙ e)
had_step p x y xs rest true e false d h = rest (simp d at h)
had_step p x y xs rest false e true d h = (refl, (rest h).1)
had_step p x y xs rest false e false d h = rest h

filter_had : (p : ℕ → Bool) (x : ℕ) (xs : List ℕ) → list_any (nat_eq x) (filter p xs) ≡ true → (list_any (nat_eq x) xs ≡ true) × (p x ≡ true)
filter_had p x [] h = absurd (cc)
filter_had p x (y ∷ xs) h = had_step p x y xs (λ e. filter_had p x xs e) (p y) refl (nat_eq x y) refl h

-- ---- the live variables of a node

-- they are exactly those that are live
pub live_exact : (flow : FlowGraph) (sets : List VariableSet) (at x : ℕ) → IsFlow flow → IsLivenessOf flow sets → at < length flow.nodes
    → (list_any (nat_eq x) (live_below sets at variables) ≡ true) ↔ IsLive flow x at
unfolding live_below
live_exact flow sets at x is are lt = (
  (λ h.
      let had = filter_had (λ y. member (set_at sets at) y) x (range_with_len 0 variables) h in
      let below = range_below 0 variables x had.0 in
      (are.exact at x lt (omega (arith, below))).0 had.1),
  (λ live.
      let small = live_small flow x at is live in
      filter_has (λ y. member (set_at sets at) y) x (range_with_len 0 variables) (in_range 0 variables x (omega arith) (omega (arith, small)))
      ((are.exact at x lt small).1 live)),
)

-- and rise
pub live_rising : (sets : List VariableSet) (at : ℕ) → IsStrictlyIncreasing (live_below sets at variables)
unfolding live_below
live_rising sets at = IsStrictlyIncreasing-filter (λ y. member (set_at sets at) y) (range_with_len 0 variables) (rising variables)
  where
    rising : (n : ℕ) → IsStrictlyIncreasing (range_with_len 0 n)
    rising n k lt =
        let long = length-range_with_len 0 n in
        let here = get_or-range_with_len 0 n k 0 (omega (arith, lt, long)) in
        let next = get_or-range_with_len 0 n (k + 1) 0 (omega (arith, lt, long)) in
        omega (arith, here, next)
