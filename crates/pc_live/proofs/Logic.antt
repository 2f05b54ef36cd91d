-- Places within a list.
use Rattle.std.proofs.Common.{◌≡◌, ℕ, suc, zero, ◌<◌, List, [], ◌∷◌, length, Some, arith}
use Rattle.std.specs.Prelude.{slice_get}

-- a place that has an element is within the list
pub place_within : {X : Type 0} (xs : List X) (i : ℕ) (x : X) → slice_get xs i ≡ Some x → i < length xs
place_within [] i x e = absurd (cc)
place_within (y ∷ ys) zero x e = omega arith
place_within (y ∷ ys) (suc i) x e = let below : i < length ys = place_within ys i x e in omega arith
