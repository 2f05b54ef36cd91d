-- The new numbers of form variables.
use Rattle.std.proofs.Common.{◌≡◌, inl, inr, ℕ, zero, suc, ◌+◌, ◌<◌, ◌≤◌, List, [], ◌∷◌, refl, sym, ◌∙◌, ap, subst, arith}
use Rattle.std.specs.Prelude.{pos, ◌+ℤ◌, Bool, true, false, if◌then◌else◌, nat_eq}
use Rattle.std.specs.List.{AllByRecursion}
use Rattle.std.proofs.lemmas.Bool.{eqb-true, eq-eqb}
use lib.IntN.{+ℤ_idl}
use Rattle.pc_word.proofs.Lists.{all_imply}
use Rattle.pc_word.proofs.Truth.{or_made_false, decide_le, or_first, or_second}
use Rattle.pc_linear.specs.declared.term.Term.{Term}
use Rattle.pc_linear.specs.Form.{Form, factor_of, terms_in_variables, in_variables}
use Rattle.pc_window.specs.Opening.{TermsBelow, FormBelow}
use Rattle.pc_window.specs.Rebasing.{is_in}
use Rattle.pc_window.proofs.Grafts.{nat_eq-same}
use Rattle.pc_canon.specs.Pairs.{Pair, ones, others}
use Rattle.pc_canon.specs.Shift.{OneToOne, EachPair, FormsAlike, has_terms}
use Rattle.pc_canon.proofs.Membership.{has, has_is, Distinct, distinct_to}
use Rattle.pc_renumber.specs.Renumbering.{stands_in, stands_in_any, how_many_below}

-- terms whose variables are among some
abbrev pub Among : (ℕ → Bool) → List Term → Type 0
Among among terms = AllByRecursion (λ (term : Term). among term.variable ≡ true) terms

module _ (among : ℕ → Bool) where
  -- ---- how many are below

  pub at_most : (n : ℕ) → how_many_below among n ≤ n
  at_most zero = omega arith
  at_most (suc n) = by (among n) (at_most n)
    where
      by : (b : Bool) → how_many_below among n ≤ n → (if b then 1 else 0) + how_many_below among n ≤ suc n
      by true h = omega (arith, h)
      by false h = omega (arith, h)

  not_fewer : (b : Bool) (m : ℕ) → m ≤ (if b then 1 else 0) + m
  not_fewer true m = omega arith
  not_fewer false m = omega arith

  -- they rise behind each that is among them
  pub rises : (x n : ℕ) → among x ≡ true → x < n → how_many_below among x < how_many_below among n
  rises x zero is lt = absurd (omega (arith, lt))
  rises x (suc n) is lt = elim (decide_le n x) [
    | inl h ↦
        let same : x ≡ n = omega (arith, h, lt) in
        subst (λ (m : ℕ). how_many_below among m < (if among n then 1 else 0) + how_many_below among n) (sym same)
        (subst (λ (b : Bool). how_many_below among n < (if b then 1 else 0) + how_many_below among n) (sym (ap among (sym same) ∙ is)) (omega arith))
    | inr h ↦ let less = rises x n is h in let le = not_fewer (among n) (how_many_below among n) in omega (arith, less, le)
  ]

  pub tells_apart : (x y : ℕ) → among x ≡ true → among y ≡ true → nat_eq (how_many_below among x) (how_many_below among y) ≡ nat_eq x y
  tells_apart x y p q = by (nat_eq x y) refl
    where
      unequal : (m n : ℕ) → (m ≡ n → ⊥) → nat_eq m n ≡ false
      unequal m n f = no (nat_eq m n) refl
        where
          no : (b : Bool) → nat_eq m n ≡ b → b ≡ false
          no false e = refl
          no true e = absurd (f (eqb-true m n e))

      clash : nat_eq x y ≡ false → how_many_below among x ≡ how_many_below among y → ⊥
      clash e same = elim (decide_le y x) [
        | inl h ↦ elim (decide_le x y) [
          | inl k ↦ let is = eq-eqb x y (omega (arith, h, k)) in cc
          | inr k ↦ let less = rises y x q k in omega (arith, less, same)
        ]
        | inr h ↦ let less = rises x y p h in omega (arith, less, same)
      ]

      by : (b : Bool) → nat_eq x y ≡ b → nat_eq (how_many_below among x) (how_many_below among y) ≡ b
      by true e = eq-eqb _ _ (ap (how_many_below among) (eqb-true x y e))
      by false e = unequal _ _ (clash e)

  -- ---- each variable with its new number

  -- pairs, and in front of them a number with its new number, if it is among them
  abbrev pair_if : Bool → ℕ → List Pair → List Pair
  pair_if b n pairs = if b then (record { one = n; other = how_many_below among n }) ∷ pairs else pairs

  -- those below a number, the last in front
  abbrev pub variable_pairs : ℕ → List Pair
  variable_pairs zero = []
  variable_pairs (suc n) = pair_if (among n) n (variable_pairs n)

  ones_below : (n x : ℕ) → n ≤ x → has (ones (variable_pairs n)) x ≡ false
  ones_below zero x h = refl
  ones_below (suc n) x h = by (among n) (ones_below n x (omega (arith, h)))
    where
      other : nat_eq n x ≡ false
      other = grind (arith, h)

      by : (b : Bool) → has (ones (variable_pairs n)) x ≡ false
          → has (ones (pair_if b n (variable_pairs n))) x ≡ false
      by true k = or_made_false (nat_eq n x) (has (ones (variable_pairs n)) x) other k
      by false k = k

  others_below : (n z : ℕ) → how_many_below among n ≤ z → has (others (variable_pairs n)) z ≡ false
  others_below zero z h = refl
  others_below (suc n) z h = by (among n) h (others_below n z)
    where
      other : (m : ℕ) → suc m ≤ z → nat_eq m z ≡ false
      other m h = grind (arith, h)

      by : (b : Bool) → (if b then 1 else 0) + how_many_below among n ≤ z → (how_many_below among n ≤ z → has (others (variable_pairs n)) z ≡ false)
          → has (others (pair_if b n (variable_pairs n))) z ≡ false
      by true h k = or_made_false (nat_eq (how_many_below among n) z) (has (others (variable_pairs n)) z) (other (how_many_below among n) (omega (arith, h))) (k (omega (arith, h)))
      by false h k = k (omega (arith, h))

  ones_distinct : (n : ℕ) → Distinct (ones (variable_pairs n))
  ones_distinct zero = tt
  ones_distinct (suc n) = by (among n) (ones_distinct n)
    where
      by : (b : Bool) → Distinct (ones (variable_pairs n))
          → Distinct (ones (pair_if b n (variable_pairs n)))
      by true k = (ones_below n n (omega arith), k)
      by false k = k

  others_distinct : (n : ℕ) → Distinct (others (variable_pairs n))
  others_distinct zero = tt
  others_distinct (suc n) = by (among n) (others_distinct n)
    where
      by : (b : Bool) → Distinct (others (variable_pairs n))
          → Distinct (others (pair_if b n (variable_pairs n)))
      by true k = (others_below n (how_many_below among n) (omega arith), k)
      by false k = k

  pub one_to_one : (n : ℕ) → OneToOne (variable_pairs n)
  one_to_one n = record { ones_differ = distinct_to _ (ones_distinct n); others_differ = distinct_to _ (others_distinct n) }

  -- a variable that is among them is paired with its number
  module _ (x : ℕ) (is : among x ≡ true) where
    both_paired : (n : ℕ) → x < n → (has (ones (variable_pairs n)) x ≡ true) × (has (others (variable_pairs n)) (how_many_below among x) ≡ true)
    both_paired zero lt = absurd (omega (arith, lt))
    both_paired (suc n) lt = elim (decide_le n x) [
      | inl h ↦ (let same : x ≡ n = omega (arith, h, lt) in here same)
      | inr h ↦ there (among n) (both_paired n h)
    ]
      where
        here : x ≡ n → (has (ones (variable_pairs (suc n))) x ≡ true) × (has (others (variable_pairs (suc n))) (how_many_below among x) ≡ true)
        here same =
            subst (λ (b : Bool).
            (has (ones (pair_if b n (variable_pairs n))) x ≡ true)
            × (has (others (pair_if b n (variable_pairs n))) (how_many_below among x) ≡ true))
            (sym (ap among (sym same) ∙ is)) (
              or_first (nat_eq n x) _ (eq-eqb n x (sym same)),
              or_first (nat_eq (how_many_below among n) (how_many_below among x)) _ (eq-eqb _ _ (ap (how_many_below among) (sym same))),
            )

        there : (b : Bool) → (has (ones (variable_pairs n)) x ≡ true) × (has (others (variable_pairs n)) (how_many_below among x) ≡ true)
            → (has (ones (pair_if b n (variable_pairs n))) x ≡ true)
            × (has (others (pair_if b n (variable_pairs n))) (how_many_below among x) ≡ true)
        there true h = (or_second (nat_eq n x) _ h.0, or_second (nat_eq (how_many_below among n) (how_many_below among x)) _ h.1)
        there false h = h

  -- ---- factors

  factor_same : (x : ℕ) → among x ≡ true → (ts : List Term) → Among among ts
      → factor_of ts x ≡ factor_of (terms_in_variables (how_many_below among) ts) (how_many_below among x)
  factor_same x is [] h = refl
  factor_same x is (t ∷ ts) h = λ i. (if sym (tells_apart x t.variable is h.0) i then t.factor else pos 0) +ℤ factor_same x is ts h.1 i

  each_factor : (ts : List Term) → Among among ts → (n : ℕ)
      → EachPair (variable_pairs n) (λ x y. factor_of ts x ≡ factor_of (terms_in_variables (how_many_below among) ts) y)
  each_factor ts h zero = tt
  each_factor ts h (suc n) = by (among n) refl (each_factor ts h n)
    where
      by : (b : Bool) → among n ≡ b → EachPair (variable_pairs n) (λ x y. factor_of ts x ≡ factor_of (terms_in_variables (how_many_below among) ts) y)
          → EachPair (pair_if b n (variable_pairs n))
          (λ x y. factor_of ts x ≡ factor_of (terms_in_variables (how_many_below among) ts) y)
      by true is k = (factor_same n is ts h, k)
      by false is k = k

  none_of : (t : Term) (ts : List Term) (x : ℕ) → nat_eq x t.variable ≡ false → factor_of ts x ≡ pos 0 → factor_of (t ∷ ts) x ≡ pos 0
  none_of t ts x apart none = (λ i. (if apart i then t.factor else pos 0) +ℤ none i) ∙ +ℤ_idl (pos 0)

  -- numbers that differ in whether they are in a list are not the same
  not_same : (xs : List ℕ) (x y : ℕ) → is_in x xs ≡ false → has xs y ≡ true → nat_eq x y ≡ false
  not_same xs x y p q = by (nat_eq x y) refl
    where
      by : (b : Bool) → nat_eq x y ≡ b → b ≡ false
      by false e = refl
      by true e = absurd (let k : has xs y ≡ false = ap (has xs) (sym (eqb-true x y e)) ∙ has_is xs x ∙ p in cc)

  -- variables that are not paired have no factor
  no_factor : (n x : ℕ) → is_in x (ones (variable_pairs n)) ≡ false → (ts : List Term) → Among among ts → TermsBelow n ts → factor_of ts x ≡ pos 0
  no_factor n x out [] h below = refl
  no_factor n x out (t ∷ ts) h below =
      none_of t ts x (not_same (ones (variable_pairs n)) x t.variable out (both_paired t.variable h.0 n below.0).0) (no_factor n x out ts h.1 below.1)

  no_other_factor : (n y : ℕ) → is_in y (others (variable_pairs n)) ≡ false → (ts : List Term) → Among among ts → TermsBelow n ts
      → factor_of (terms_in_variables (how_many_below among) ts) y ≡ pos 0
  no_other_factor n y out [] h below = refl
  no_other_factor n y out (t ∷ ts) h below =
      none_of (record { variable = how_many_below among t.variable; factor = t.factor }) (terms_in_variables (how_many_below among) ts) y
      (not_same (others (variable_pairs n)) y (how_many_below among t.variable) out (both_paired t.variable h.0 n below.0).1)
      (no_other_factor n y out ts h.1 below.1)

  as_many : (ts : List Term) → has_terms ts ≡ has_terms (terms_in_variables (how_many_below among) ts)
  as_many [] = refl
  as_many (t ∷ ts) = refl

  -- a form is alike with its new variables
  pub form_alike : (n : ℕ) (f : Form) → Among among f.terms → FormBelow n f → FormsAlike (variable_pairs n) f (in_variables (how_many_below among) f)
  form_alike n f h below = record {
    constants = refl;
    both_terms = as_many f.terms;
    factors = each_factor f.terms h n;
    no_more = λ x out. no_factor n x out f.terms h below;
    no_others = λ y out. no_other_factor n y out f.terms h below;
  }

  -- and its variables are below their number
  pub terms_below : (n : ℕ) (ts : List Term) → Among among ts → TermsBelow n ts → TermsBelow (how_many_below among n) (terms_in_variables (how_many_below among) ts)
  terms_below n [] h below = tt
  terms_below n (t ∷ ts) h below = (rises t.variable n h.0 below.0, terms_below n ts h.1 below.1)

-- ---- variables that stand in forms

stand_in_terms : (ts : List Term) → Among (stands_in ts) ts
stand_in_terms [] = tt
stand_in_terms (t ∷ ts) = (
  or_first (nat_eq t.variable t.variable) (stands_in ts t.variable) (nat_eq-same t.variable),
  all_imply (λ (u : Term). stands_in ts u.variable ≡ true) (λ (u : Term). stands_in (t ∷ ts) u.variable ≡ true) ts
      (λ u e. or_second (nat_eq u.variable t.variable) (stands_in ts u.variable) e) (stand_in_terms ts),
)

pub each_stands : (forms : List Form) → AllByRecursion (λ (f : Form). Among (stands_in_any forms) f.terms) forms
each_stands [] = tt
each_stands (f ∷ forms) = (
  all_imply (λ (t : Term). stands_in f.terms t.variable ≡ true) (λ (t : Term). stands_in_any (f ∷ forms) t.variable ≡ true) f.terms
      (λ t e. or_first (stands_in f.terms t.variable) (stands_in_any forms t.variable) e) (stand_in_terms f.terms),
  all_imply (λ (g : Form). Among (stands_in_any forms) g.terms) (λ (g : Form). Among (stands_in_any (f ∷ forms)) g.terms) forms
      (λ g h. all_imply (λ (t : Term). stands_in_any forms t.variable ≡ true) (λ (t : Term). stands_in_any (f ∷ forms) t.variable ≡ true) g.terms
      (λ t e. or_second (stands_in f.terms t.variable) (stands_in_any forms t.variable) e) h) (each_stands forms),
)
