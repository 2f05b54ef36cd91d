use Rattle.std.proofs.Common.{◌≡◌, ◌++◌, drop}
use Rattle.pc_canon.specs.Canonical.{placed_homes}
use Rattle.pc_canon.specs.Key.{home_numbers, list_numbers}
use Rattle.pc_canon.specs.models.Written.{place_at}
use Rattle.pc_canon.proofs.writing.write_homes.Given as goal

-- what is written so far, and then what is left, is the whole
abbrev pub invariant-loop-home : goal.invariant-loop-home
invariant-loop-home l =
    l.numbers ++ list_numbers home_numbers (placed_homes (place_at l.levels l.depth) (drop l.home-index l.homes))
    ≡ l.fn.numbers ++ list_numbers home_numbers (placed_homes (place_at l.levels l.depth) l.homes)
