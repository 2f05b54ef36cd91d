-- What holds of each element of a list that is written out.
use Rattle.std.proofs.Common.{zero, suc, List, [], ◌∷◌, subst, arith}
use Rattle.std.specs.Prelude.{Contains}

-- a list without elements
pub none : {X : Type 0} (P : X → Type 0) (x : X) → Contains [] x → P x
none P x (k, below, e) = absurd (omega (arith, below))

-- its first element, and the others
pub first : {X : Type 0} (P : X → Type 0) (x : X) (xs : List X) → P x → ((y : X) → Contains xs y → P y) → (y : X) → Contains (x ∷ xs) y → P y
first P x xs here there y (zero, below, e) = subst P e here
first P x xs here there y (suc k, below, e) = there y (k, omega (arith, below), e)

-- its only element
pub only : {X : Type 0} (P : X → Type 0) (x : X) → P x → (y : X) → Contains (x ∷ []) y → P y
only P x h = first P x [] h (none P)
