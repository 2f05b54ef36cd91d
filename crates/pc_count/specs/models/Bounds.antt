-- Counts so few that what they add up to fits a word of the host.
use Rattle.std.specs.Prelude.{ℕ, ◌+◌, ◌*◌, ◌^◌, ◌<◌, ◌≤◌, List, [], ◌∷◌, length, sum}
use Rattle.pc_word.specs.MachineLimits.{most_cycles, most_ops, most_tests}
use Rattle.pc_word.specs.Row.{items_of, leaves_of, tests_of}
use Rattle.pc_machine.specs.MachineCode.{CodeRow}
use Rattle.pc_count.specs.declared.work.Work.{Work}

-- a row has no more items and tests than the machine allows, and each leaf has a count; the counts add up to no more than a run may take
pub record IsCounted (row : CodeRow) (counts : List ℕ) : Type 0 where
  pub ops : length (items_of row) ≤ most_ops
  pub tests : length (tests_of row) ≤ most_tests
  pub leaves : length (leaves_of row) ≤ length counts
  pub few : sum counts ≤ most_cycles

-- so each of some rows
abbrev pub AreCounted : List CodeRow → List (List ℕ) → Type 0
AreCounted (row ∷ rows) (counts ∷ leaves) = IsCounted row counts × AreCounted rows leaves
AreCounted [] [] = Unit {0}
AreCounted _ _ = ⊥

-- the sum of all counts
abbrev pub all_counts : List (List ℕ) → ℕ
all_counts [] = 0
all_counts (counts ∷ leaves) = sum counts + all_counts leaves

-- no cycle did more items and passed more tests than a row has
pub record IsBounded (work : Work) : Type 0 where
  pub items : work.items ≤ most_ops * work.cycles
  pub tests : work.tests ≤ most_tests * work.cycles
  pub memory : work.memory ≤ work.items
  pub prints : work.prints ≤ work.items
  pub reads : work.reads ≤ work.items

-- so little that it may be added to as little
pub record IsFew (work : Work) : Type 0 where
  pub cycles : work.cycles < 2 ^ 62
  pub items : work.items < 2 ^ 62
  pub tests : work.tests < 2 ^ 62
  pub memory : work.memory < 2 ^ 62
  pub prints : work.prints < 2 ^ 62
  pub reads : work.reads < 2 ^ 62
