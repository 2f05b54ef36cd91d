-- The lines of the table of options, and their defaults as text.
use Rattle.std.proofs.Common.{◌≡◌, refl, codes}
use Rattle.std.specs.Option.{IsSome}
use Rattle.clap.specs.Walk.{one_of}
use Rattle.std.specs.Fmt.{decimal, digits}
use Rattle.pc_command.specs.Matching.{Matches}
use Rattle.pc_command.specs.Options.{NumberOption, number_found, number_option, ops_option, tests_option, mem_option, window_option, rows_option, cycles_option, trace_option, loop_option}

pub ops-line : ops_option ≡ number_option (codes "ops") 1 32 8
unfolding ops_option
ops-line = refl

pub ops-text : decimal 8 ≡ codes "8"
unfolding digits
ops-text = refl

pub tests-line : tests_option ≡ number_option (codes "tests") 1 7 3
unfolding tests_option
tests-line = refl

pub tests-text : decimal 3 ≡ codes "3"
unfolding digits
tests-text = refl

pub mem-line : mem_option ≡ number_option (codes "mem") 1 32 2
unfolding mem_option
mem-line = refl

pub mem-text : decimal 2 ≡ codes "2"
unfolding digits
mem-text = refl

pub window-line : window_option ≡ number_option (codes "window") 1 8 4
unfolding window_option
window-line = refl

pub window-text : decimal 4 ≡ codes "4"
unfolding digits
window-text = refl

pub rows-line : rows_option ≡ number_option (codes "rows") 1 512 256
unfolding rows_option
rows-line = refl

pub rows-text : decimal 256 ≡ codes "256"
unfolding digits
rows-text = refl

pub cycles-line : cycles_option ≡ number_option (codes "cycles") 1 1000000000000 100000000
unfolding cycles_option
cycles-line = refl

pub cycles-text : decimal 100000000 ≡ codes "100000000"
unfolding digits
cycles-text = refl

pub trace-line : trace_option ≡ number_option (codes "trace") 1 1000000000000 0
unfolding trace_option
trace-line = refl

pub trace-text : decimal 0 ≡ codes "0"
unfolding digits
trace-text = refl

pub loop-line : loop_option ≡ number_option (codes "loop") 1 1048577 0
unfolding loop_option
loop-line = refl

-- what the code's table is checked against
pub ruleset option_lines = (ops-line, ops-text, tests-line, tests-text, mem-line, mem-text, window-line, window-text, rows-line, rows-text, cycles-line, cycles-text, trace-line, trace-text, loop-line)

-- a number of cycles to be traced that is there is there by the line of the code's table too
pub trace-found : (line : NumberOption) (matches : Matches) → line ≡ trace_option
    → (IsSome (one_of (codes "trace") matches) → IsSome (number_found trace_option matches))
    → IsSome (one_of line.name matches) → IsSome (number_found line matches)
unfolding trace_option
trace-found line matches is found = rw is found

-- so is the line of a loop
pub loop-found : (line : NumberOption) (matches : Matches) → line ≡ loop_option
    → (IsSome (one_of (codes "loop") matches) → IsSome (number_found loop_option matches))
    → IsSome (one_of line.name matches) → IsSome (number_found line matches)
unfolding loop_option
loop-found line matches is found = rw is found
