-- The first fault of lists of faults in a row.
use Rattle.std.proofs.Common.{◌≡◌, sym, ap, subst, ◌∙◌, List, [], ◌∷◌, ◌++◌, Some, Result, Ok, Err, IsErrAnd, IfErr, slice_get}
use Rattle.pc_word.specs.Exact.{checked, IsRefusal, IsExact}
use Rattle.pc_check.specs.declared.error.CheckError.{CheckError}
use Rattle.pc_check.specs.declared.error.CheckError.TheVariants.{Undeclared, Redeclared, NotArray, NotScalar, BadSize, OutsideLoop}
use Rattle.pc_check.specs.declared.error.CheckError.TheVariants.{TooManyScalars, TooManyArrays, TooManyElements, TooManyValues, TooDeep, Memory}
use Rattle.pc_check.specs.Checks.{check_cause}
use Rattle.pc_check.specs.models.Resolves.{IsFirst}

-- want of memory says nothing of the faults
pub IsFirst-memory : (e : CheckError) (found : List CheckError) → e ≡ Memory → IsFirst e found
IsFirst-memory e found is = let P : CheckError → Type 0 = λ x. IsFirst x found in subst P (sym is) tt

-- the first fault of a list is at place 0
abbrev pub is_first : (e : CheckError) (found : List CheckError) → slice_get found 0 ≡ Some e → IsFirst e found
is_first Memory found at = tt
is_first (Undeclared line) found at = at
is_first (Redeclared line) found at = at
is_first (NotArray line) found at = at
is_first (NotScalar line) found at = at
is_first (BadSize line) found at = at
is_first (OutsideLoop line) found at = at
is_first (TooManyScalars line) found at = at
is_first (TooManyArrays line) found at = at
is_first (TooManyElements line) found at = at
is_first (TooManyValues line) found at = at
is_first (TooDeep line) found at = at

-- the first fault of the front is the first of the whole
pub IsFirst-front : (e : CheckError) (front rest : List CheckError) → IsFirst e front → IsFirst e (front ++ rest)
IsFirst-front e (first ∷ others) rest is = by e is
  where
    by : (e : CheckError) → IsFirst e (first ∷ others) → IsFirst e (first ∷ (others ++ rest))
    by Memory is = tt
    by (Undeclared line) is = is
    by (Redeclared line) is = is
    by (NotArray line) is = is
    by (NotScalar line) is = is
    by (BadSize line) is = is
    by (OutsideLoop line) is = is
    by (TooManyScalars line) is = is
    by (TooManyArrays line) is = is
    by (TooManyElements line) is = is
    by (TooManyValues line) is = is
    by (TooDeep line) is = is
IsFirst-front e [] rest is = by e is
  where
    by : (e : CheckError) → IsFirst e [] → IsFirst e rest
    by Memory is = tt
    by (Undeclared line) is = cc
    by (Redeclared line) is = cc
    by (NotArray line) is = cc
    by (NotScalar line) is = cc
    by (BadSize line) is = cc
    by (OutsideLoop line) is = cc
    by (TooManyScalars line) is = cc
    by (TooManyArrays line) is = cc
    by (TooManyElements line) is = cc
    by (TooManyValues line) is = cc
    by (TooDeep line) is = cc

-- where the front has no fault, the first of the rest is the first of the whole
pub IsFirst-rest : (e : CheckError) (front rest : List CheckError) → front ≡ [] → IsFirst e rest → IsFirst e (front ++ rest)
IsFirst-rest e front rest none is =
    let P : List CheckError → Type 0 = λ x. IsFirst e (x ++ rest) in subst P (sym none) is

-- the same, where a list is known to be of two parts
pub in_front : (e : CheckError) (whole front rest : List CheckError) → whole ≡ front ++ rest → IsFirst e front → IsFirst e whole
in_front e whole front rest parts is = subst (IsFirst e) (sym parts) (IsFirst-front e front rest is)

pub in_rest : (e : CheckError) (whole front rest : List CheckError) → whole ≡ front ++ rest → front ≡ [] → IsFirst e rest → IsFirst e whole
in_rest e whole front rest parts none is = subst (IsFirst e) (sym parts) (IsFirst-rest e front rest none is)

-- no fault in the front and none in the rest is none at all
pub none_in_both : (front rest : List CheckError) → front ≡ [] → rest ≡ [] → front ++ rest ≡ []
none_in_both front rest none still = ap (λ (x : List CheckError). x ++ rest) none ∙ still

pub ruleset first_faults = (IsFirst-memory, IsFirst-front, IsFirst-rest, none_in_both)

-- what is checked and has faults is refused with the first
first_of : {X : Type 0} {e : CheckError} (found : List CheckError) (value : X) → slice_get found 0 ≡ Some e → checked found value ≡ Err e
first_of [] value is = cc
first_of (first ∷ others) value is = cc

-- the first of the faults of what is checked is its answer
IsFirst-cause : {X : Type 0} (e : CheckError) (found : List CheckError) (value : X) → IsFirst e found → IsRefusal (check_cause e) (checked found value)
IsFirst-cause Memory found value is = tt
IsFirst-cause (Undeclared line) found value is = first_of found value is
IsFirst-cause (Redeclared line) found value is = first_of found value is
IsFirst-cause (NotArray line) found value is = first_of found value is
IsFirst-cause (NotScalar line) found value is = first_of found value is
IsFirst-cause (BadSize line) found value is = first_of found value is
IsFirst-cause (OutsideLoop line) found value is = first_of found value is
IsFirst-cause (TooManyScalars line) found value is = first_of found value is
IsFirst-cause (TooManyArrays line) found value is = first_of found value is
IsFirst-cause (TooManyElements line) found value is = first_of found value is
IsFirst-cause (TooManyValues line) found value is = first_of found value is
IsFirst-cause (TooDeep line) found value is = first_of found value is

-- also where it is passed on by `?`
pub exact_refusal : {X Y : Type 0} (view : X → Y) (r : Result X CheckError) (e : CheckError) (found : List CheckError) (value : Y) →
    IsErrAnd r (λ x. x ≡ e) → IsFirst e found → IsExact view check_cause r (checked found value)
exact_refusal view (Ok x) e found value same is = absurd same
exact_refusal view (Err x) e found value same is =
    let P : CheckError → Type 0 = λ y. IsRefusal (check_cause y) (checked found value) in
    subst P (sym same) (IsFirst-cause e found value is)

-- a fault that is passed on by `?` stays
pub passed_on : {X : Type 0} (r : Result X CheckError) (e : CheckError) (found : List CheckError) →
    IsErrAnd r (λ x. x ≡ e) → IsFirst e found → IfErr r (λ x. IsFirst x found)
passed_on (Ok value) e found same is = tt
passed_on (Err x) e found same is = let P : CheckError → Type 0 = λ y. IsFirst y found in subst P (sym same) is
