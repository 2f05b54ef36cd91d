-- What stands beside a name.
use Rattle.std.proofs.Common.{◌≡◌, ℕ, suc, ◌+◌, Bool, true, false, cond, List, [], ◌∷◌, Some, None, refl, sym, ◌∙◌, ap, arith}
use Rattle.std.specs.Prelude.{nat_eq, slice_get, position, if◌then◌else◌}
use Rattle.std.specs.List.{position_from}
use Rattle.std.proofs.lemmas.Iterator.Adapters.{position_from-zero}
use Rattle.pc_assign.specs.Stored.{beside}

-- where a name is found, what stands beside it is at that place
found_from : (names registers : List ℕ) (name i j : ℕ) → position_from (nat_eq name) i names ≡ Some j
    → (k : ℕ) × (j ≡ i + k) × (slice_get registers k ≡ beside names registers name)
found_from [] registers name i j e = absurd (cc)
found_from (first ∷ names) registers name i j e = by (nat_eq name first) refl registers (λ rs at. found_from names rs name (i + 1) j at) e
  where
    by : (b : Bool) → nat_eq name first ≡ b → (rs : List ℕ)
        → ((rest : List ℕ) → position_from (nat_eq name) (i + 1) names ≡ Some j → (k : ℕ) × (j ≡ (i + 1) + k) ×
        (slice_get rest k ≡ beside names rest name))
        → cond b (Some i) (position_from (nat_eq name) (i + 1) names) ≡ Some j
        → (k : ℕ) × (j ≡ i + k) × (slice_get rs k ≡ beside (first ∷ names) rs name)
    by true is [] below at = let same : i ≡ j = (cc) in (0, omega arith, refl)
    by true is (r ∷ rs) below at =
        let same : i ≡ j = (cc) in (0, omega arith, ap (λ (b : Bool). if b then Some r else beside names rs name) (sym is))
    by false is [] below at = let next = below [] at in (suc next.0, omega (arith, next.1), refl)
    by false is (r ∷ rs) below at =
        let next = below rs at in
        (suc next.0, omega (arith, next.1), next.2 ∙ ap (λ (b : Bool). if b then Some r else beside names rs name) (sym is))

-- where it is not, nothing does
missing_from : (names registers : List ℕ) (name i : ℕ) → position_from (nat_eq name) i names ≡ None → beside names registers name ≡ None
missing_from [] registers name i e = refl
missing_from (first ∷ names) registers name i e = by (nat_eq name first) refl registers (λ rs at. missing_from names rs name (i + 1) at) e
  where
    by : (b : Bool) → nat_eq name first ≡ b → (rs : List ℕ)
        → ((rest : List ℕ) → position_from (nat_eq name) (i + 1) names ≡ None → beside names rest name ≡ None)
        → cond b (Some i) (position_from (nat_eq name) (i + 1) names) ≡ None
        → beside (first ∷ names) rs name ≡ None
    by true is rs below at = absurd (cc)
    by false is [] below at = refl
    by false is (r ∷ rs) below at = ap (λ (b : Bool). if b then Some r else beside names rs name) is ∙ below rs at

pub beside_found : (names registers : List ℕ) (name at : ℕ) → position (nat_eq name) names ≡ Some at
    → slice_get registers at ≡ beside names registers name
beside_found names registers name at e =
    let it = found_from names registers name 0 at (sym (position_from-zero (nat_eq name) names) ∙ e) in
    let same : at ≡ it.0 = omega (arith, it.1) in ap (slice_get registers) same ∙ it.2

pub beside_missing : (names registers : List ℕ) (name : ℕ) → position (nat_eq name) names ≡ None → beside names registers name ≡ None
beside_missing names registers name e = missing_from names registers name 0 (sym (position_from-zero (nat_eq name) names) ∙ e)

pub ruleset lookups = (beside_found, beside_missing)
