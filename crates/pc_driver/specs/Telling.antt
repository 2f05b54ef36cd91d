-- How a program tells a line at its end, and the status with which it ends.
use Rattle.std.specs.Prelude.{◌≡◌, ℕ, ◌⊎◌, List}
use Rattle.std.specs.Io.KnownBytes.{Appends}
use Rattle.pc_word.specs.Count.{Rose}
use Rattle.pc_outside.specs.Stream.{AppendsPart}
use Rattle.pc_driver.specs.Streams.{Streamed}

-- the whole line was sent, and the status is the one that goes with it
pub record TellsWhole (line : List ℕ) (status : ℕ) (old new : Streamed) (code : ℕ) : Type 0 where
  pub ended : code ≡ status
  pub sent : Appends old.told new.told line

-- the status is 5: a proper prefix of the line was sent, and the error output's count of faults rose
pub record TellsPart (line : List ℕ) (old new : Streamed) (code : ℕ) : Type 0 where
  pub ended : code ≡ 5
  pub failed : Rose old.faults new.faults
  pub sent : AppendsPart old.told new.told line

-- a line is reported with a status
abbrev pub TellsLine : List ℕ → ℕ → Streamed → Streamed → ℕ → Type 0
TellsLine line status old new code = TellsWhole line status old new code ⊎ TellsPart line old new code
