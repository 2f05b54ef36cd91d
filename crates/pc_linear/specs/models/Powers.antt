-- Which powers of two divide the factors of a sum and its constant.
use Rattle.std.specs.Prelude.{ℕ, ℤ, min, List, [], ◌∷◌, unsigned_abs}
use Rattle.std.specs.Int.{w32, trailing_zeros}
use Rattle.pc_linear.specs.declared.term.Term.{Term}

-- how many times 2 divides a word, and 32 for 0
abbrev pub twos : ℤ → ℕ
twos number = trailing_zeros w32 (unsigned_abs number)

-- how many times, and at most so many, 2 divides each of these factors
abbrev pub common_twos : ℕ → List Term → ℕ
common_twos most [] = most
common_twos most (t ∷ ts) = common_twos (min most (twos t.factor)) ts
