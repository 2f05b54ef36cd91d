-- A stream as a program sees it.
use Rattle.std.specs.Prelude.{ℕ, ◌≤◌, List, length, take, Option}
use Rattle.std.specs.Io.KnownBytes.{Appends}

-- a stream: what it has left or has taken, where it tells this, and its count of faults
pub record Streamed : Type 0 where
  pub told : Option (List ℕ)
  pub faults : ℕ

-- a stream from its parts
abbrev pub streamed : Option (List ℕ) → ℕ → Streamed
streamed told faults = record { told = told; faults = faults }

-- the front of a text was sent: all of it, or a part
pub record SendsFront (old new : Streamed) (text : List ℕ) : Type 0 where
  pub sent : ℕ
  pub bound : sent ≤ length text
  pub grew : Appends old.told new.told (take sent text)
