-- What the busiest rows are. It is the contract of a function of laws.rt, which does nothing.
use Rattle.std.specs.Prelude.{◌≡◌, ℕ, ◌<◌, ◌≤◌, ◌⊎◌, List, [], ◌∷◌, length, Some, slice_get}
use Rattle.std.specs.List.{AllByRecursion}
use Rattle.pc_stat.specs.Busiest.{busiest, most_told}
use Rattle.pc_stat.specs.declared.ranking.RowCount.{RowCount}

-- a row is told before another: it ran more often, or as often and stands before it in the code
abbrev pub IsBefore : RowCount → RowCount → Type 0
IsBefore row other = (other.cycles < row.cycles) ⊎ ((row.cycles ≡ other.cycles) × (row.number < other.number))

-- each is told before those after it
abbrev pub AreRanked : List RowCount → Type 0
AreRanked [] = Unit {0}
AreRanked (row ∷ rest) = AllByRecursion (IsBefore row) rest × AreRanked rest

-- a row is one of some
abbrev pub IsTold : RowCount → List RowCount → Type 0
IsTold row [] = ⊥
IsTold row (first ∷ rest) = (first ≡ row) ⊎ IsTold row rest

-- ten rows are told, and each comes before this one
pub record IsCutOff (row : RowCount) (rows : List RowCount) : Type 0 where
  pub full : length rows ≡ most_told
  pub after : AllByRecursion (λ told. IsBefore told row) rows

-- a row that ran, by how often each row ran
abbrev pub HasRun : List ℕ → RowCount → Type 0
HasRun counts row = (slice_get counts row.number ≡ Some row.cycles) × (1 ≤ row.cycles)

-- at most ten rows that ran are told, ranked; each other row that ran comes after ten of them
pub record AreBusiest (counts : List ℕ) (rows : List RowCount) : Type 0 where
  pub few : length rows ≤ most_told
  pub ran : AllByRecursion (HasRun counts) rows
  pub ranked : AreRanked rows
  pub others : (row : RowCount) → HasRun counts row → IsTold row rows ⊎ IsCutOff row rows

-- so it is of each run
abbrev pub BusiestAreMost : Type 0
BusiestAreMost = (counts : List ℕ) → AreBusiest counts (busiest counts)
