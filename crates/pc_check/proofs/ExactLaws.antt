-- What a check's answer says of the faults that were found.
use Rattle.std.proofs.Common.{◌≡◌, refl, List, [], ◌∷◌, Some, Ok, Err, slice_get}
use Rattle.pc_word.specs.Exact.{checked, IsRefusal}
use Rattle.pc_check.specs.declared.error.CheckError.{CheckError}
use Rattle.pc_check.specs.declared.error.CheckError.TheVariants.{Undeclared, Redeclared, NotArray, NotScalar, BadSize, OutsideLoop}
use Rattle.pc_check.specs.declared.error.CheckError.TheVariants.{TooManyScalars, TooManyArrays, TooManyElements, TooManyValues, TooDeep, Memory}
use Rattle.pc_check.specs.Checks.{check_cause}
use Rattle.pc_check.specs.models.Resolves.{IsFirst}

-- what was given had no fault
pub given-faultless : {X : Type 0} (found : List CheckError) (value answer : X) → checked found value ≡ Ok answer → found ≡ []
given-faultless [] value answer is = refl
given-faultless (first ∷ others) value answer is = absurd (cc)

-- and is what was checked
pub given-value : {X : Type 0} (found : List CheckError) (value answer : X) → checked found value ≡ Ok answer → value ≡ answer
given-value [] value answer is = cc
given-value (first ∷ others) value answer is = absurd (cc)

-- what was refused has this first fault
refused-at : {X : Type 0} (found : List CheckError) (value : X) (e : CheckError) → checked found value ≡ Err e → slice_get found 0 ≡ Some e
refused-at [] value e is = absurd (cc)
refused-at (first ∷ others) value e is = cc

-- the same of an error, which may tell of want of memory
pub refused-first : {X : Type 0} (e : CheckError) (found : List CheckError) (value : X) → IsRefusal (check_cause e) (checked found value) → IsFirst e found
refused-first Memory found value is = tt
refused-first (Undeclared line) found value is = refused-at found value _ is
refused-first (Redeclared line) found value is = refused-at found value _ is
refused-first (NotArray line) found value is = refused-at found value _ is
refused-first (NotScalar line) found value is = refused-at found value _ is
refused-first (BadSize line) found value is = refused-at found value _ is
refused-first (OutsideLoop line) found value is = refused-at found value _ is
refused-first (TooManyScalars line) found value is = refused-at found value _ is
refused-first (TooManyArrays line) found value is = refused-at found value _ is
refused-first (TooManyElements line) found value is = refused-at found value _ is
refused-first (TooManyValues line) found value is = refused-at found value _ is
refused-first (TooDeep line) found value is = refused-at found value _ is
