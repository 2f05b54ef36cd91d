-- Forms that are alike have as many terms: the factors of the variables that correspond count them.
use Rattle.std.proofs.Common.{◌≡◌, ℕ, zero, suc, ◌+◌, List, [], ◌∷◌, length, refl, sym, ◌∙◌, ap, arith}
use Rattle.std.specs.Prelude.{ℤ, pos, negsuc, ◌+ℤ◌, Bool, true, false, ◌||◌, if◌then◌else◌, nat_eq}
use Rattle.std.specs.List.{AllByRecursion}
use Rattle.std.proofs.lemmas.Bool.{eqb-true, eq-eqb}
use lib.IntN.{+ℤ_idl, +ℤ_idr}
use Rattle.pc_word.proofs.Truth.{or_false}
use Rattle.pc_linear.specs.declared.term.Term.{Term}
use Rattle.pc_linear.specs.Form.{Form, Rising, HasFactor, factor_of}
use Rattle.pc_linear.proofs.Normal.{factor-below}
use Rattle.pc_canon.specs.Pairs.{Pair, ones, others}
use Rattle.pc_canon.specs.Shift.{OneToOne, EachPair, FormsAlike}
use Rattle.pc_canon.proofs.Membership.{has, Distinct, has_is, distinct_from}
use Rattle.pc_shifts.specs.Alike.{HasNormalTerms}

-- 1 for a factor other than 0
abbrev counted : ℤ → ℕ
counted (pos zero) = 0
counted (pos (suc n)) = 1
counted (negsuc n) = 1

-- how many of these variables have a factor
abbrev tally : List Term → List ℕ → ℕ
tally ts [] = 0
tally ts (x ∷ xs) = counted (factor_of ts x) + tally ts xs

counted_one : (z : ℤ) → (z ≡ pos 0 → ⊥) → counted z ≡ 1
counted_one (pos zero) h = absurd (h refl)
counted_one (pos (suc n)) h = refl
counted_one (negsuc n) h = refl

tally_none : (xs : List ℕ) → tally [] xs ≡ 0
tally_none [] = refl
tally_none (x ∷ xs) = let e = tally_none xs in omega (arith, e)

pub tally_same : (ts us : List Term) (pairs : List Pair) → EachPair pairs (λ x y. factor_of ts x ≡ factor_of us y) → tally ts (ones pairs) ≡ tally us (others pairs)
tally_same ts us [] h = refl
tally_same ts us (pair ∷ pairs) h = λ i. counted (h.0 i) + tally_same ts us pairs h.1 i

module _ (t : Term) (ts : List Term) (rising : Rising (suc t.variable) ts) where
  other_factor : (x : ℕ) → nat_eq x t.variable ≡ false → factor_of (t ∷ ts) x ≡ factor_of ts x
  other_factor x e = ap (λ (b : Bool). (if b then t.factor else pos 0) +ℤ factor_of ts x) e ∙ +ℤ_idl (factor_of ts x)

  none_later : factor_of ts t.variable ≡ pos 0
  none_later = factor-below t.variable (suc t.variable) ts (omega arith) rising

  own_factor : factor_of (t ∷ ts) t.variable ≡ t.factor
  own_factor = (λ i. (if eq-eqb t.variable t.variable refl i then t.factor else pos 0) +ℤ none_later i) ∙ +ℤ_idr t.factor

  flip_test : (x y : ℕ) → nat_eq x y ≡ false → nat_eq y x ≡ false
  flip_test x y e = grind arith

  tally_apart : (xs : List ℕ) → has xs t.variable ≡ false → tally (t ∷ ts) xs ≡ tally ts xs
  tally_apart [] h = refl
  tally_apart (x ∷ xs) h =
      let p = or_false (nat_eq x t.variable) (has xs t.variable) h in
      λ i. counted (other_factor x p.0 i) + tally_apart xs p.1 i

  tally_once : (xs : List ℕ) → (t.factor ≡ pos 0 → ⊥) → Distinct xs → has xs t.variable ≡ true → tally (t ∷ ts) xs ≡ suc (tally ts xs)
  tally_once [] nonzero d h = absurd (cc)
  tally_once (x ∷ xs) nonzero d h = by_test (nat_eq x t.variable) refl h (tally_once xs nonzero d.1)
    where
      here : x ≡ t.variable → tally (t ∷ ts) (x ∷ xs) ≡ suc (tally ts (x ∷ xs))
      here e =
          let one : counted (factor_of (t ∷ ts) x) ≡ 1 = ap (λ (y : ℕ). counted (factor_of (t ∷ ts) y)) e ∙ ap counted own_factor ∙ counted_one t.factor nonzero in
          let none : counted (factor_of ts x) ≡ 0 = ap (λ (y : ℕ). counted (factor_of ts y)) e ∙ ap counted none_later in
          let rest : tally (t ∷ ts) xs ≡ tally ts xs = tally_apart xs (ap (has xs) (sym e) ∙ d.0) in
          omega (arith, one, none, rest)

      by_test : (b : Bool) → nat_eq x t.variable ≡ b → (b || has xs t.variable) ≡ true → (has xs t.variable ≡ true → tally (t ∷ ts) xs ≡ suc (tally ts xs))
          → tally (t ∷ ts) (x ∷ xs) ≡ suc (tally ts (x ∷ xs))
      by_test true e k next = here (eqb-true x t.variable e)
      by_test false e k next =
          let same : counted (factor_of (t ∷ ts) x) ≡ counted (factor_of ts x) = ap counted (other_factor x e) in
          let rest = next k in
          omega (arith, same, rest)

-- where no other variable has a factor, there are as many terms
tally_length : (least : ℕ) (ts : List Term) (xs : List ℕ) → Rising least ts → AllByRecursion HasFactor ts → Distinct xs
    → ((x : ℕ) → has xs x ≡ false → factor_of ts x ≡ pos 0) → tally ts xs ≡ length ts
tally_length least [] xs r h d none = tally_none xs
tally_length least (t ∷ ts) xs r h d none =
    tally_once t ts r.1 xs h.0.nonzero d (there (has xs t.variable) refl)
    ∙ ap suc (tally_length (suc t.variable) ts xs r.1 h.1 d (λ x e. later x (nat_eq x t.variable) refl e))
  where
    there : (b : Bool) → has xs t.variable ≡ b → b ≡ true
    there true e = refl
    there false e = absurd (h.0.nonzero (sym (own_factor t ts r.1) ∙ none t.variable e))

    later : (x : ℕ) (b : Bool) → nat_eq x t.variable ≡ b → has xs x ≡ false → factor_of ts x ≡ pos 0
    later x true e k = ap (factor_of ts) (eqb-true x t.variable e) ∙ none_later t ts r.1
    later x false e k = sym (other_factor t ts r.1 x e) ∙ none x k

-- sums in normal form with the same factors of corresponding variables, and no others, have as many terms
pub as_many : (variables : List Pair) (f f' : Form) → OneToOne variables → HasNormalTerms f → HasNormalTerms f'
    → EachPair variables (λ x y. factor_of f.terms x ≡ factor_of f'.terms y)
    → ((x : ℕ) → has (ones variables) x ≡ false → factor_of f.terms x ≡ pos 0)
    → ((y : ℕ) → has (others variables) y ≡ false → factor_of f'.terms y ≡ pos 0) → length f.terms ≡ length f'.terms
as_many variables f f' once n n' same none none' =
    sym (tally_length 0 f.terms (ones variables) n.rising n.factors (distinct_from (ones variables) once.ones_differ) none)
    ∙ tally_same f.terms f'.terms variables same
    ∙ tally_length 0 f'.terms (others variables) n'.rising n'.factors (distinct_from (others variables) once.others_differ) none'

pub as_long : (variables : List Pair) (f f' : Form) → OneToOne variables → HasNormalTerms f → HasNormalTerms f' → FormsAlike variables f f'
    → length f.terms ≡ length f'.terms
as_long variables f f' once n n' alike =
    as_many variables f f' once n n' alike.factors (λ x e. alike.no_more x (sym (has_is (ones variables) x) ∙ e))
    (λ y e. alike.no_others y (sym (has_is (others variables) y) ∙ e))
