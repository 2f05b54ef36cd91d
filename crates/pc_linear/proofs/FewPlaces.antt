-- The places of the terms of a form, and how many there are.
use Rattle.std.proofs.Common.{◌≡◌, ℕ, zero, suc, ◌+◌, ◌-◌, ◌<◌, List, [], ◌∷◌, Some, None, length, drop, refl, ◌∙◌, ap, arith}
use Rattle.std.specs.Prelude.{slice_get}
use Rattle.pc_word.proofs.Places.{drop_at}
use Rattle.pc_linear.specs.declared.term.Term.{Term}
use Rattle.pc_linear.specs.Form.{Form, IsForm}

-- the terms from a place on
pub none_from : (ts : List Term) (at : ℕ) → slice_get ts at ≡ None → drop at ts ≡ []
none_from [] zero h = refl
none_from [] (suc at) h = refl
none_from (t ∷ ts) zero h = absurd (cc)
none_from (t ∷ ts) (suc at) h = none_from ts at h

pub one_from : (ts : List Term) (at : ℕ) (t : Term) → slice_get ts at ≡ Some t → drop at ts ≡ t ∷ drop (at + 1) ts
one_from ts at t h = let next : suc at ≡ at + 1 = omega arith in drop_at ts at t h ∙ ap (λ (n : ℕ). t ∷ drop n ts) next

within : (ts : List Term) (at : ℕ) (t : Term) → slice_get ts at ≡ Some t → at < length ts
within [] at t h = absurd (cc)
within (u ∷ ts) zero t h = omega arith
within (u ∷ ts) (suc at) t h = let lt = within ts at t h in omega arith

module _ (f : Form) (kept : IsForm f) (at : ℕ) where
  -- there are few places, and fewer after one that is there
  pub few_places : (t : Term) → slice_get f.terms at ≡ Some t → at < 4
  few_places t is = let lt = within f.terms at t is in let few = kept.few in omega arith

  pub fewer_places : (t : Term) → slice_get f.terms at ≡ Some t → length f.terms - (at + 1) < length f.terms - at
  fewer_places t is = let lt = within f.terms at t is in omega arith
