-- The words with which arrays begin, one array after the other.
use Rattle.std.proofs.Common.{ℕ, zero, suc, ℤ, ◌-◌, ◌<◌, ◌≡◌, List, [], ◌∷◌, ◌++◌, length, refl, arith}
use Rattle.pc_assembly.specs.declared.line.Line.{Line}
use Rattle.pc_assembly.specs.Assembled.{array_words, initial_from}

-- one array more
pub initial_step : (count : ℕ) (before : List (List ℤ)) (lines : List Line) → 0 < count
    → initial_from (count - 1) (before ++ array_words (length before) lines ∷ []) lines ≡ initial_from count before lines
unfolding initial_from
initial_step zero before lines some = absurd (omega (arith, some))
initial_step (suc count) before lines some = let less : suc count - 1 ≡ count = omega arith in rw less refl
