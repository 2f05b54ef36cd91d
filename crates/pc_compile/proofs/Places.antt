-- Numbers that stand in a list.
use Rattle.std.proofs.Common.{◌≡◌, ℕ, zero, suc, true, List, [], ◌∷◌, Some, sym, subst}
use Rattle.std.specs.Prelude.{nat_eq, slice_get}
use Rattle.std.specs.List.{list_any}
use Rattle.pc_word.proofs.Truth.{or_first, or_second}
use Rattle.pc_word.proofs.Places.{own_number}

-- a number that stands in a list is listed
pub listed : (xs : List ℕ) (i x : ℕ) → slice_get xs i ≡ Some x → list_any (nat_eq x) xs ≡ true
listed [] i x e = absurd (cc)
listed (y ∷ xs) zero x e = let same : y ≡ x = (cc) in or_first (nat_eq x y) (list_any (nat_eq x) xs) (subst (λ (z : ℕ). nat_eq x z ≡ true) (sym same) (own_number x))
listed (y ∷ xs) (suc i) x e = or_second (nat_eq x y) (list_any (nat_eq x) xs) (listed xs i x e)
