-- The first of refusals in a row.
use Rattle.std.proofs.Common.{◌≡◌, refl, sym, ap, subst, ◌∙◌, List, [], ◌∷◌, ◌++◌, Some, Ok, Err, Result, IsErrAnd, OnOk, IfErr}
use Rattle.pc_inline.specs.declared.error.InlineError.{InlineError}
use Rattle.pc_inline.specs.Inlined.{inline_cause}
use Rattle.pc_inline.specs.models.First.{IsFirst}
use Rattle.pc_calls.specs.Refusals.{Refusal}

-- an error tells a refusal that stands alone, or before others
pub IsFirst-made : (e : InlineError) (refusal : Refusal) (others : List Refusal) → inline_cause e ≡ Some refusal → IsFirst e (refusal ∷ others)
IsFirst-made e refusal others is = record { refusal = refusal; told = is; first = refl }

-- the first of the front is the first of the whole
pub IsFirst-front : (e : InlineError) (front rest : List Refusal) → IsFirst e front → IsFirst e (front ++ rest)
IsFirst-front e [] rest is = let first = is.first in absurd (cc)
IsFirst-front e (one ∷ others) rest is = record { refusal = is.refusal; told = is.told; first = is.first }

-- the first of the rest is the first of the whole, where the front is empty
pub IsFirst-rest : (e : InlineError) (front rest : List Refusal) → front ≡ [] → IsFirst e rest → IsFirst e (front ++ rest)
IsFirst-rest e front rest none is = subst (λ (x : List Refusal). IsFirst e (x ++ rest)) (sym none) is

-- two empty lists in a row
pub none_both : (front rest : List Refusal) → front ≡ [] → rest ≡ [] → front ++ rest ≡ []
none_both front rest one other = ap (λ (x : List Refusal). x ++ rest) one ∙ other

-- what is answered of the rest is answered of the whole, where the front is empty
pub rest_passed : {X : Type 0} (r : Result X InlineError) (front rest : List Refusal) → front ≡ [] → OnOk r (rest ≡ []) → OnOk r (front ++ rest ≡ [])
rest_passed (Ok value) front rest none passed = none_both front rest none passed
rest_passed (Err e) front rest none passed = tt

pub rest_refused : {X : Type 0} (r : Result X InlineError) (front rest : List Refusal) → front ≡ [] → IfErr r (λ e. IsFirst e rest) →
    IfErr r (λ e. IsFirst e (front ++ rest))
rest_refused (Ok value) front rest none refused = tt
rest_refused (Err e) front rest none refused = IsFirst-rest e front rest none refused

pub ruleset first_refusals = (IsFirst-made, IsFirst-front, IsFirst-rest, none_both, rest_passed, rest_refused)

-- a refusal that is passed on by `?` stays
pub passed_on : {X : Type 0} (r : Result X InlineError) (e : InlineError) (found : List Refusal) →
    IsErrAnd r (λ x. x ≡ e) → IsFirst e found → IfErr r (λ x. IsFirst x found)
passed_on (Ok value) e found same is = tt
passed_on (Err x) e found same is = let P : InlineError → Type 0 = λ y. IsFirst y found in subst P (sym same) is
