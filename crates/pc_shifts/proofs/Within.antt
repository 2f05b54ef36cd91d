-- Variables that correspond and are in use on both sides are enough for forms that have no others.
use Rattle.std.proofs.Common.{◌≡◌, ℕ, ◌<◌, ◌≤◌, List, [], ◌∷◌, refl, sym, ◌∙◌, subst}
use Rattle.std.specs.Prelude.{ℤ, pos, Bool, true, false, ◌&&◌, if◌then◌else◌, nat_eq, nat_lt}
use Rattle.std.proofs.lemmas.Bool.{eqb-true}
use Rattle.pc_word.proofs.Truth.{and_true, or_false, or_made_false, less_of, most_of}
use Rattle.pc_linear.specs.Form.{Form, factor_of}
use Rattle.pc_window.specs.Opening.{FormBelow}
use Rattle.pc_canon.specs.Pairs.{Pair, ones, others}
use Rattle.pc_canon.specs.Shift.{OneToOne, EachPair, FormsAlike}
use Rattle.pc_canon.proofs.Membership.{has, Distinct, has_is, distinct_from, distinct_to}
use Rattle.pc_shifts.proofs.Supplies.{factor_from}

-- the pairs of which each side is below a number
abbrev pub within : ℕ → ℕ → List Pair → List Pair
within m n [] = []
within m n (pair ∷ pairs) = if nat_lt pair.one m && nat_lt pair.other n then pair ∷ within m n pairs else within m n pairs

pub within_known : (m n : ℕ) (pairs : List Pair) → EachPair (within m n pairs) (λ x y. (x < m) × (y < n))
within_known m n [] = tt
within_known m n (pair ∷ pairs) = by_test (nat_lt pair.one m && nat_lt pair.other n) refl (within_known m n pairs)
  where
    by_test : (b : Bool) → (nat_lt pair.one m && nat_lt pair.other n) ≡ b → EachPair (within m n pairs) (λ x y. (x < m) × (y < n))
        → EachPair (if b then pair ∷ within m n pairs else within m n pairs) (λ x y. (x < m) × (y < n))
    by_test true e later = let p = and_true (nat_lt pair.one m) (nat_lt pair.other n) e in ((less_of pair.one m p.0, less_of pair.other n p.1), later)
    by_test false e later = later

within_each : (m n : ℕ) (pairs : List Pair) (P : ℕ → ℕ → Type 0) → EachPair pairs P → EachPair (within m n pairs) P
within_each m n [] P h = tt
within_each m n (pair ∷ pairs) P h = by_test (nat_lt pair.one m && nat_lt pair.other n) (within_each m n pairs P h.1)
  where
    by_test : (b : Bool) → EachPair (within m n pairs) P → EachPair (if b then pair ∷ within m n pairs else within m n pairs) P
    by_test true k = (h.0, k)
    by_test false k = k

absent_ones : (m n : ℕ) (pairs : List Pair) (x : ℕ) → has (ones pairs) x ≡ false → has (ones (within m n pairs)) x ≡ false
absent_ones m n [] x h = refl
absent_ones m n (pair ∷ pairs) x h =
    let p = or_false (nat_eq pair.one x) (has (ones pairs) x) h in
    by_test (nat_lt pair.one m && nat_lt pair.other n) p.0 (absent_ones m n pairs x p.1)
  where
    by_test : (b : Bool) → nat_eq pair.one x ≡ false → has (ones (within m n pairs)) x ≡ false
        → has (ones (if b then pair ∷ within m n pairs else within m n pairs)) x ≡ false
    by_test true e k = or_made_false (nat_eq pair.one x) (has (ones (within m n pairs)) x) e k
    by_test false e k = k

distinct_ones : (m n : ℕ) (pairs : List Pair) → Distinct (ones pairs) → Distinct (ones (within m n pairs))
distinct_ones m n [] h = tt
distinct_ones m n (pair ∷ pairs) h = by_test (nat_lt pair.one m && nat_lt pair.other n) (distinct_ones m n pairs h.1)
  where
    by_test : (b : Bool) → Distinct (ones (within m n pairs)) → Distinct (ones (if b then pair ∷ within m n pairs else within m n pairs))
    by_test true k = (absent_ones m n pairs pair.one h.0, k)
    by_test false k = k

absent_others : (m n : ℕ) (pairs : List Pair) (x : ℕ) → has (others pairs) x ≡ false → has (others (within m n pairs)) x ≡ false
absent_others m n [] x h = refl
absent_others m n (pair ∷ pairs) x h =
    let p = or_false (nat_eq pair.other x) (has (others pairs) x) h in
    by_test (nat_lt pair.one m && nat_lt pair.other n) p.0 (absent_others m n pairs x p.1)
  where
    by_test : (b : Bool) → nat_eq pair.other x ≡ false → has (others (within m n pairs)) x ≡ false
        → has (others (if b then pair ∷ within m n pairs else within m n pairs)) x ≡ false
    by_test true e k = or_made_false (nat_eq pair.other x) (has (others (within m n pairs)) x) e k
    by_test false e k = k

distinct_others : (m n : ℕ) (pairs : List Pair) → Distinct (others pairs) → Distinct (others (within m n pairs))
distinct_others m n [] h = tt
distinct_others m n (pair ∷ pairs) h = by_test (nat_lt pair.one m && nat_lt pair.other n) (distinct_others m n pairs h.1)
  where
    by_test : (b : Bool) → Distinct (others (within m n pairs)) → Distinct (others (if b then pair ∷ within m n pairs else within m n pairs))
    by_test true k = (absent_others m n pairs pair.other h.0, k)
    by_test false k = k

pub within_once : (m n : ℕ) (pairs : List Pair) → OneToOne pairs → OneToOne (within m n pairs)
within_once m n pairs h = record {
  ones_differ = distinct_to (ones (within m n pairs)) (distinct_ones m n pairs (distinct_from (ones pairs) h.ones_differ));
  others_differ = distinct_to (others (within m n pairs)) (distinct_others m n pairs (distinct_from (others pairs) h.others_differ));
}

-- ---- forms

module _ (m n : ℕ) (F G : ℕ → ℤ) (above : (x : ℕ) → m ≤ x → F x ≡ pos 0) (others_above : (y : ℕ) → n ≤ y → G y ≡ pos 0) where
  dropped : (x y : ℕ) (b c : Bool) → nat_lt x m ≡ b → nat_lt y n ≡ c → (b && c) ≡ false → F x ≡ G y → F x ≡ pos 0
  dropped x y false c e k d same = above x (most_of x m e)
  dropped x y true false e k d same = same ∙ others_above y (most_of y n k)
  dropped x y true true e k d same = absurd (cc)

  other_dropped : (x y : ℕ) (b c : Bool) → nat_lt x m ≡ b → nat_lt y n ≡ c → (b && c) ≡ false → F x ≡ G y → G y ≡ pos 0
  other_dropped x y b c e k d same = sym same ∙ dropped x y b c e k d same

  none_ones : (pairs : List Pair) → EachPair pairs (λ x y. F x ≡ G y) → (x : ℕ) → has (ones (within m n pairs)) x ≡ false
      → (has (ones pairs) x ≡ false → F x ≡ pos 0) → F x ≡ pos 0
  none_ones [] h x e k = k refl
  none_ones (pair ∷ pairs) h x e k = by_test (nat_lt pair.one m && nat_lt pair.other n) refl e (none_ones pairs h.1 x)
    where
      by_name : (c : Bool) → nat_eq pair.one x ≡ c → (nat_lt pair.one m && nat_lt pair.other n) ≡ false → ((has (ones pairs) x ≡ false → F x ≡ pos 0) → F x ≡ pos 0) → F x ≡ pos 0
      by_name true d t next =
          subst (λ (z : ℕ). F z ≡ pos 0) (eqb-true pair.one x d) (dropped pair.one pair.other (nat_lt pair.one m) (nat_lt pair.other n) refl refl t h.0)
      by_name false d t next = next (λ q. k (or_made_false (nat_eq pair.one x) (has (ones pairs) x) d q))

      by_test : (b : Bool) → (nat_lt pair.one m && nat_lt pair.other n) ≡ b → has (ones (if b then pair ∷ within m n pairs else within m n pairs)) x ≡ false
          → (has (ones (within m n pairs)) x ≡ false → (has (ones pairs) x ≡ false → F x ≡ pos 0) → F x ≡ pos 0) → F x ≡ pos 0
      by_test true t e next =
          let p = or_false (nat_eq pair.one x) (has (ones (within m n pairs)) x) e in
          next p.1 (λ q. k (or_made_false (nat_eq pair.one x) (has (ones pairs) x) p.0 q))
      by_test false t e next = by_name (nat_eq pair.one x) refl t (next e)

  none_others : (pairs : List Pair) → EachPair pairs (λ x y. F x ≡ G y) → (x : ℕ) → has (others (within m n pairs)) x ≡ false
      → (has (others pairs) x ≡ false → G x ≡ pos 0) → G x ≡ pos 0
  none_others [] h x e k = k refl
  none_others (pair ∷ pairs) h x e k = by_test (nat_lt pair.one m && nat_lt pair.other n) refl e (none_others pairs h.1 x)
    where
      by_name : (c : Bool) → nat_eq pair.other x ≡ c → (nat_lt pair.one m && nat_lt pair.other n) ≡ false → ((has (others pairs) x ≡ false → G x ≡ pos 0) → G x ≡ pos 0) → G x ≡ pos 0
      by_name true d t next =
          subst (λ (z : ℕ). G z ≡ pos 0) (eqb-true pair.other x d) (other_dropped pair.one pair.other (nat_lt pair.one m) (nat_lt pair.other n) refl refl t h.0)
      by_name false d t next = next (λ q. k (or_made_false (nat_eq pair.other x) (has (others pairs) x) d q))

      by_test : (b : Bool) → (nat_lt pair.one m && nat_lt pair.other n) ≡ b → has (others (if b then pair ∷ within m n pairs else within m n pairs)) x ≡ false
          → (has (others (within m n pairs)) x ≡ false → (has (others pairs) x ≡ false → G x ≡ pos 0) → G x ≡ pos 0) → G x ≡ pos 0
      by_test true t e next =
          let p = or_false (nat_eq pair.other x) (has (others (within m n pairs)) x) e in
          next p.1 (λ q. k (or_made_false (nat_eq pair.other x) (has (others pairs) x) p.0 q))
      by_test false t e next = by_name (nat_eq pair.other x) refl t (next e)

-- forms that have no variables beyond are alike by the pairs within
pub within_forms : (m n : ℕ) (variables : List Pair) (f g : Form) → FormBelow m f → FormBelow n g → FormsAlike variables f g → FormsAlike (within m n variables) f g
within_forms m n variables f g b b' a = record {
  constants = a.constants;
  both_terms = a.both_terms;
  factors = within_each m n variables (λ x y. factor_of f.terms x ≡ factor_of g.terms y) a.factors;
  no_more = λ x e. none_ones m n (λ z. factor_of f.terms z) (λ z. factor_of g.terms z) (λ z le. factor_from m f.terms z b le) (λ z le. factor_from n g.terms z b' le)
      variables a.factors x (has_is (ones (within m n variables)) x ∙ e) (λ q. a.no_more x (sym (has_is (ones variables) x) ∙ q));
  no_others = λ y e. none_others m n (λ z. factor_of f.terms z) (λ z. factor_of g.terms z) (λ z le. factor_from m f.terms z b le) (λ z le. factor_from n g.terms z b' le)
      variables a.factors y (has_is (others (within m n variables)) y ∙ e) (λ q. a.no_others y (sym (has_is (others variables) y) ∙ q));
}
