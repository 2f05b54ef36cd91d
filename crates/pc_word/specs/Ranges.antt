-- The ranges of the numbers that a user may choose.
use Rattle.std.specs.Prelude.{ℕ, ◌≤◌}
use Rattle.pc_word.specs.declared.item.Limits.{Limits}
use Rattle.pc_word.specs.declared.item.Extent.{Extent}
use Rattle.pc_word.specs.MachineLimits.{most_cycles, most_mem, most_ops, most_rows, most_tests, most_window}

-- a number is from one to another
abbrev pub IsBetween : ℕ → ℕ → ℕ → Type 0
IsBetween low high n = (low ≤ n) × (n ≤ high)

-- limits that the machine has: from 1 to 32 items, 7 tests, and 32 loads and stores
pub record AreLimits (limits : Limits) : Type 0 where
  pub ops : IsBetween 1 most_ops limits.ops
  pub tests : IsBetween 1 most_tests limits.tests
  pub mem : IsBetween 1 most_mem limits.mem

-- an extent that a search may have: from 1 to 8 turns of a loop in a window, and 512 rows
pub record IsExtent (extent : Extent) : Type 0 where
  pub window : IsBetween 1 most_window extent.window
  pub rows : IsBetween 1 most_rows extent.rows

-- as many cycles as a run may be given: from 1 to 1000000000000
abbrev pub AreCycles : ℕ → Type 0
AreCycles cycles = IsBetween 1 most_cycles cycles
