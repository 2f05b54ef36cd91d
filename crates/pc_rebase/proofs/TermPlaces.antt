-- The terms of a form, from a place on.
use Rattle.std.proofs.Common.{◌≡◌, ◌≢◌, ◌⊎◌, inl, inr, ℕ, zero, suc, ◌+◌, ◌≤◌, List}
use Rattle.std.proofs.Common.{[], ◌∷◌, Option, Some, None, drop, refl, sym, ◌∙◌, ap, subst, arith}
use Rattle.std.specs.Prelude.{ℤ, pos, ◌+ℤ◌, Bool, true, false, if◌then◌else◌, nat_eq, slice_get}
use Rattle.std.proofs.lemmas.Bool.Decides.{eqb_tells}
use lib.IntN.{+ℤ_idl, +ℤ_idr}
use Rattle.pc_word.proofs.Places.{drop_at}
use Rattle.pc_linear.specs.declared.term.Term.{Term}
use Rattle.pc_linear.specs.Form.{Form, IsForm, Rising, factor_of}
use Rattle.pc_linear.proofs.FewPlaces.{few_places, fewer_places, none_from}
use Rattle.pc_linear.proofs.Normal.{factor-below}
use Rattle.pc_window.specs.Rebasing.{is_in, free_terms}
use Rattle.pc_rebase.specs.declared.terms.FewTerms.{FewTerms}
use Rattle.pc_rebase.specs.declared.terms.FewTerms.TheVariants.{Nothing}
use Rattle.pc_rebase.specs.models.Finding.{variable_below, old_variable}
use Rattle.pc_rebase.specs.models.Turning.{few_of, and_term}

-- ---- what stands at a place

rising_fewer : (m n : ℕ) (us : List Term) → m ≤ n → Rising n us → Rising m us
rising_fewer m n [] le r = tt
rising_fewer m n (u ∷ us) le r = let p = r.0 in (omega arith, r.1)

rising_from : (ts : List Term) (at m n : ℕ) → m ≤ n → Rising n ts → Rising m (drop at ts)
rising_from [] zero m n le r = tt
rising_from [] (suc at) m n le r = tt
rising_from (t ∷ ts) zero m n le r = rising_fewer m n (t ∷ ts) le r
rising_from (t ∷ ts) (suc at) m n le r = let p = r.0 in rising_from ts at m (suc t.variable) (omega arith) r.1

-- ---- factors

factor_here : (t : Term) (ts : List Term) (x : ℕ) → t.variable ≡ x → Rising 0 (t ∷ ts) → factor_of (t ∷ ts) x ≡ t.factor
factor_here t ts x is r =
    (λ i. (if same i then t.factor else pos 0) +ℤ factor-below x (suc t.variable) ts (omega arith) r.1 i) ∙ +ℤ_idr t.factor
  where
    same : nat_eq x t.variable ≡ true
    same = grind arith

factor_there : (t : Term) (ts : List Term) (x : ℕ) → t.variable ≢ x → factor_of (t ∷ ts) x ≡ factor_of ts x
factor_there t ts x is = ap (λ (b : Bool). (if b then t.factor else pos 0) +ℤ factor_of ts x) other ∙ +ℤ_idl (factor_of ts x)
  where
    other : nat_eq x t.variable ≡ false
    other = by (eqb_tells x t.variable)
      where
        by : ((nat_eq x t.variable ≡ true) × (x ≡ t.variable)) ⊎ ((nat_eq x t.variable ≡ false) × (x ≢ t.variable)) → nat_eq x t.variable ≡ false
        by (inl same) = absurd (is (sym same.1))
        by (inr apart) = apart.0

module _ (f : Form) (kept : IsForm f) (at : ℕ) where
  pub no_factor : (x : ℕ) → slice_get f.terms at ≡ None → pos 0 ≡ factor_of (drop at f.terms) x
  no_factor x none = ap (λ (ts : List Term). factor_of ts x) (sym (none_from f.terms at none))

  pub its_factor : (x : ℕ) (t : Term) → slice_get f.terms at ≡ Some t → t.variable ≡ x → t.factor ≡ factor_of (drop at f.terms) x
  its_factor x t is same =
      let from = drop_at f.terms at t is in
      sym (ap (λ (ts : List Term). factor_of ts x) from
      ∙ factor_here t (drop (suc at) f.terms) x same (subst (λ (ts : List Term). Rising 0 ts) from (rising_from f.terms at 0 0 (omega arith) kept.normal.rising)))

  pub later_factor : (x : ℕ) (t : Term) (z : ℤ) → slice_get f.terms at ≡ Some t → t.variable ≢ x → z ≡ factor_of (drop (at + 1) f.terms) x → z ≡ factor_of (drop at f.terms) x
  later_factor x t z is other later =
      let next : at + 1 ≡ suc at = omega arith in
      later ∙ ap (λ (n : ℕ). factor_of (drop n f.terms) x) next ∙ sym (ap (λ (ts : List Term). factor_of ts x) (drop_at f.terms at t is) ∙ factor_there t (drop (suc at) f.terms) x other)

  -- ---- terms whose variables are no bases

  pub no_terms : (bases : List ℕ) → slice_get f.terms at ≡ None → Nothing ≡ few_of (free_terms bases (drop at f.terms))
  no_terms bases none = ap (λ (ts : List Term). few_of (free_terms bases ts)) (sym (none_from f.terms at none))

  pub taken_term : (bases : List ℕ) (t : Term) (more : FewTerms) → slice_get f.terms at ≡ Some t → is_in t.variable bases ≡ true
      → more ≡ few_of (free_terms bases (drop (at + 1) f.terms)) → more ≡ few_of (free_terms bases (drop at f.terms))
  taken_term bases t more is taken later =
      let next : at + 1 ≡ suc at = omega arith in
      later ∙ ap (λ (n : ℕ). few_of (free_terms bases (drop n f.terms))) next
      ∙ sym (ap (λ (ts : List Term). few_of (free_terms bases ts)) (drop_at f.terms at t is)
      ∙ ap (λ (b : Bool). few_of (if b then free_terms bases (drop (suc at) f.terms) else t ∷ free_terms bases (drop (suc at) f.terms))) taken)

  pub free_term : (bases : List ℕ) (t : Term) (more : FewTerms) → slice_get f.terms at ≡ Some t → is_in t.variable bases ≡ false
      → more ≡ few_of (free_terms bases (drop (at + 1) f.terms)) → and_term t more ≡ few_of (free_terms bases (drop at f.terms))
  free_term bases t more is free later =
      let next : at + 1 ≡ suc at = omega arith in
      ap (and_term t) (later ∙ ap (λ (n : ℕ). few_of (free_terms bases (drop n f.terms))) next)
      ∙ one_more (free_terms bases (drop (suc at) f.terms))
      ∙ sym (ap (λ (ts : List Term). few_of (free_terms bases ts)) (drop_at f.terms at t is)
      ∙ ap (λ (b : Bool). few_of (if b then free_terms bases (drop (suc at) f.terms) else t ∷ free_terms bases (drop (suc at) f.terms))) free)
    where
      one_more : (ts : List Term) → and_term t (few_of ts) ≡ few_of (t ∷ ts)
      one_more [] = refl
      one_more (u ∷ []) = refl
      one_more (u ∷ v ∷ ts) = refl

pub ruleset places = (no_factor, its_factor, later_factor, few_places, fewer_places, no_terms, taken_term, free_term)

-- ---- a term alone

module _ (first : ℕ) (ts : List Term) where
  pub no_variable : slice_get ts 0 ≡ None → None ≡ old_variable first ts
  no_variable none = by ts none
    where
      by : (ts : List Term) → slice_get ts 0 ≡ None → None ≡ old_variable first ts
      by [] h = refl
      by (t ∷ ts) h = absurd (cc)

  pub one_variable : (t : Term) (found : Option ℕ) → slice_get ts 0 ≡ Some t → slice_get ts 1 ≡ None → found ≡ variable_below first t → found ≡ old_variable first ts
  one_variable t found one none is = is ∙ by ts one none
    where
      by : (ts : List Term) → slice_get ts 0 ≡ Some t → slice_get ts 1 ≡ None → variable_below first t ≡ old_variable first ts
      by [] h k = absurd (cc)
      by (u ∷ []) h k = let same : t ≡ u = (cc) in ap (variable_below first) same
      by (u ∷ v ∷ ts) h k = absurd (cc)

  pub several : (t u : Term) → slice_get ts 0 ≡ Some t → slice_get ts 1 ≡ Some u → None ≡ old_variable first ts
  several t u one more = by ts more
    where
      by : (ts : List Term) → slice_get ts 1 ≡ Some u → None ≡ old_variable first ts
      by [] k = absurd (cc)
      by (w ∷ []) k = absurd (cc)
      by (w ∷ v ∷ ts) k = refl

pub ruleset choices = (no_variable, one_variable, several)
