-- The numbers of the options lie in their ranges.
use Rattle.std.proofs.Common.{◌≡◌, ◌≤◌, ◌+◌, ℕ, lit≤}
use Rattle.std.specs.Prelude.{Some}
use Rattle.pc_command.specs.Matching.{Matches}
use Rattle.pc_command.specs.Options.{NumberOption, number_found, number_in, ops_option, tests_option, mem_option, window_option, rows_option, cycles_option, trace_option, loop_option}
use Rattle.pc_word.specs.Ranges.{AreCycles, IsExtent, AreLimits, IsBetween}
use Rattle.pc_word.specs.SourceLimits.{most_source}
use Rattle.pc_command.specs.Requests.{extent_in, limits_in}
use Rattle.pc_command.proofs.Numbers.{number_found-between, number_in-between}

pub ops-between : (matches : Matches) → IsBetween 1 32 (number_in ops_option matches)
unfolding ops_option
ops-between matches = number_in-between ops_option matches (lit≤ tt) (lit≤ tt)

pub tests-between : (matches : Matches) → IsBetween 1 7 (number_in tests_option matches)
unfolding tests_option
tests-between matches = number_in-between tests_option matches (lit≤ tt) (lit≤ tt)

pub mem-between : (matches : Matches) → IsBetween 1 32 (number_in mem_option matches)
unfolding mem_option
mem-between matches = number_in-between mem_option matches (lit≤ tt) (lit≤ tt)

pub window-between : (matches : Matches) → IsBetween 1 8 (number_in window_option matches)
unfolding window_option
window-between matches = number_in-between window_option matches (lit≤ tt) (lit≤ tt)

pub rows-between : (matches : Matches) → IsBetween 1 512 (number_in rows_option matches)
unfolding rows_option
rows-between matches = number_in-between rows_option matches (lit≤ tt) (lit≤ tt)

pub cycles-between : (matches : Matches) → AreCycles (number_in cycles_option matches)
unfolding cycles_option
cycles-between matches = number_in-between cycles_option matches (lit≤ tt) (lit≤ tt)

pub trace-between : (matches : Matches) (cycles : ℕ) → number_found trace_option matches ≡ Some cycles → AreCycles cycles
unfolding trace_option
trace-between matches cycles e = number_found-between trace_option matches cycles e

pub loop-between : (matches : Matches) (line : ℕ) → number_found loop_option matches ≡ Some line → IsBetween 1 (most_source + 1) line
unfolding loop_option
loop-between matches line e = number_found-between loop_option matches line e

-- the number of a line of the code's table is at most what the number of the option is
pub number-most : (line option : NumberOption) (matches : Matches) (number most : ℕ) → line ≡ option → number ≡ number_in line matches
    → number_in option matches ≤ most → number ≤ most
number-most line option matches number most is read h = rw (read, is) h

-- so do the limits and the extent that matches ask for
pub limits_in-range : (matches : Matches) → AreLimits (limits_in matches)
limits_in-range matches = record { ops = ops-between matches; tests = tests-between matches; mem = mem-between matches }

pub extent_in-range : (matches : Matches) → IsExtent (extent_in matches)
extent_in-range matches = record { window = window-between matches; rows = rows-between matches }
