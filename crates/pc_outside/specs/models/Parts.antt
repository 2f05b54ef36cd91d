-- The parts of the objects in memory, as the contracts of these see them.
use Rattle.std.specs.Prelude.{ℕ, List}

-- a place for bytes: what it has taken, and how many bytes it can take in all
pub record RoomState : Type 0 where
  pub taken : List ℕ
  pub room : ℕ

-- a count of faults, and beside it the name of the last
pub record Faults : Type 0 where
  pub count : ℕ
  pub name : List ℕ
