-- When one run is no slower than another.
use Rattle.std.specs.Prelude.{ℕ}
use Rattle.pc_word.specs.Run.{Run, Answers, Agree}

-- the second run agrees with the first, and after as many cycles shows at least what the first shows
pub record IsNoSlower (X Y : Run) : Type 0 where
  pub agree : Agree X Y
  pub pace : (n : ℕ) → Answers (X n) (Y n) (X n).end
