-- Tables in memory, as functions.
use Rattle.std.proofs.Common.{◌≡◌, ℕ, zero, suc, replicate, refl}
use Rattle.std.specs.Prelude.{slice_index_or}

element : {X : Type 0} (n : ℕ) (x : X) (at : ℕ) → slice_index_or (replicate n x) at x ≡ x
element zero x at = refl
element (suc n) x zero = refl
element (suc n) x (suc at) = element n x at

-- a table that has the same everywhere tells that everywhere
pub all_alike : {X : Type 0} (n : ℕ) (x : X) → ◌≡◌ {A = ℕ → X} (λ at. slice_index_or (replicate n x) at x) (λ at. x)
all_alike n x = λ i at. element n x at i
