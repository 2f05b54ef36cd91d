-- Laws of the data of arrays.
use Rattle.std.proofs.Common.{◌≡◌, ℕ, zero, suc, zero-le, arith, length, replicate, true, List, [], ◌∷◌, refl}
use Rattle.std.specs.Ordering.{int_eq}
use Rattle.std.specs.Prelude.{ℤ, pos, slice_index_or}
use Rattle.pc_word.specs.Data.{AreData, ends_in_zero, has_no_data}

-- ---- codes whose arrays have no data

-- as many empty lists are no data
pub no_data-replicate : (n : ℕ) → has_no_data (replicate n []) ≡ true
no_data-replicate zero = refl
no_data-replicate (suc n) = no_data-replicate n

-- they are the data of as many arrays
pub AreData-none : (lengths : List ℕ) → AreData lengths (replicate (length lengths) [])
AreData-none [] = tt
AreData-none (elements ∷ lengths) = (record { fits = zero-le; tail = refl }, AreData-none lengths)

-- ---- the last word

-- words end in 0 exactly where the last of them is 0
pub ends_in_zero-last : (words : List ℤ) (last : ℕ) → length words ≡ suc last → ends_in_zero words ≡ int_eq (slice_index_or words last (pos 0)) (pos 0)
ends_in_zero-last [] last e = absurd (omega (arith, e))
ends_in_zero-last (word ∷ []) zero e = refl
ends_in_zero-last (word ∷ []) (suc last) e = absurd (omega (arith, e))
ends_in_zero-last (word ∷ next ∷ words) zero e = absurd (omega (arith, e))
ends_in_zero-last (word ∷ next ∷ words) (suc last) e = ends_in_zero-last (next ∷ words) last (omega (arith, e))
