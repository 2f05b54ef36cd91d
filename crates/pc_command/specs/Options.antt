-- The options that take a number, as a table: the name of each, its range and its default.
use Rattle.std.specs.Prelude.{ℕ, ◌+◌, Option, Some, None, codes, if◌then◌else◌, option_and_then, unwrap_or}
use Rattle.std.specs.Str.Parse.{digits_value, without_leading_plus}
use Rattle.clap.specs.Walk.{Text, one_of}
use Rattle.clap.specs.ValueTests.{is_unsigned_in}
use Rattle.pc_word.specs.MachineLimits.{most_cycles, most_mem, most_ops, most_rows, most_tests, most_window}
use Rattle.pc_word.specs.SourceLimits.{most_source}
use Rattle.pc_command.specs.Matching.{Matches}

-- an option `--NAME N`: the least and the greatest number that it takes, and the number that it has where the words leave it out
pub record NumberOption : Type 0 where
  pub name : Text
  pub least : ℕ
  pub greatest : ℕ
  pub default : ℕ

-- a line of the table
abbrev pub number_option : Text → ℕ → ℕ → ℕ → NumberOption
number_option name least greatest default = record { name = name; least = least; greatest = greatest; default = default }

-- how many items a row may have
unfoldable pub ops_option : NumberOption
ops_option = number_option (codes "ops") 1 most_ops 8

-- how many tests a row may have
unfoldable pub tests_option : NumberOption
tests_option = number_option (codes "tests") 1 most_tests 3

-- how many loads and stores together a row may have
unfoldable pub mem_option : NumberOption
mem_option = number_option (codes "mem") 1 most_mem 2

-- how many turns of a loop a window may hold
unfoldable pub window_option : NumberOption
window_option = number_option (codes "window") 1 most_window 4

-- how many rows the schedule of a window may have
unfoldable pub rows_option : NumberOption
rows_option = number_option (codes "rows") 1 most_rows 256

-- how many cycles a run may take
unfoldable pub cycles_option : NumberOption
cycles_option = number_option (codes "cycles") 1 most_cycles 100000000

-- how many cycles are traced; where the words leave it out, none is
unfoldable pub trace_option : NumberOption
trace_option = number_option (codes "trace") 1 most_cycles 0

-- the line of the loops that are explained; where the words leave it out, those of all lines are. A source has at most one line more than it has bytes
unfoldable pub loop_option : NumberOption
loop_option = number_option (codes "loop") 1 (most_source + 1) 0

-- the number that a text spells, where the option takes it: digits that a `+` may precede, and a number in the range
abbrev pub number_spelled : NumberOption → Text → Option ℕ
number_spelled option text =
    if is_unsigned_in option.least option.greatest text then Some (digits_value 10 (without_leading_plus text)) else None

-- the option's number in the matches, where they have one that it takes
abbrev pub number_found : NumberOption → Matches → Option ℕ
number_found option matches = option_and_then (number_spelled option) (one_of option.name matches)

-- that number, or the option's default; what `clap` gives of words that it takes has one
unfoldable pub number_in : NumberOption → Matches → ℕ
number_in option matches = unwrap_or (number_found option matches) option.default
