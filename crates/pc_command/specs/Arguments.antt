-- The arguments of the programs, as `clap` takes them, and the matches that `clap` gives of words.
use Rattle.std.specs.Prelude.{ℕ, Bool, true, false, List, [], ◌∷◌, Option, Some, None, codes, decimal, bytes_eq, if◌then◌else◌, option_and_then, unwrap_or}
use Rattle.clap.specs.Walk.{Rule, Text, first_of, one_of}
use Rattle.clap.specs.Simple.{App, matches_of, new_rule, new_shape}
use Rattle.clap.specs.Faults.{fault_of}
use Rattle.clap.specs.Kinds.{Kinds}
use Rattle.clap.specs.declared.builder.action.ArgAction.TheVariants.{Set, SetTrue}
use Rattle.clap.specs.declared.builder.value_parser.ValueParser.TheVariants as vp
use Rattle.pc_command.specs.Matching.{Matches}
use Rattle.pc_command.specs.Options.{NumberOption, ops_option, tests_option, mem_option, window_option, rows_option, cycles_option, trace_option, loop_option}

-- `NAME`: a word at its place, which may not be left out
abbrev pub word_argument : Text → Rule
word_argument name = record (new_rule name) { action = Some Set; required = true }

-- `-LETTER NAME`: a letter and a word, which may not be left out
abbrev pub letter_argument : ℕ → Text → Rule
letter_argument letter name = record (word_argument name) { short = Some letter }

-- `[--NAME N]`: a number in the option's range, or its default
abbrev pub number_argument : NumberOption → Rule
number_argument option = record (new_rule option.name) {
  long = Some option.name;
  action = Some Set;
  parser = Some (vp.Unsigned option.least option.greatest);
  defaults = decimal option.default ∷ [];
}

-- `[--NAME N]`: a number in the option's range, of which `clap` is told no default
abbrev pub optional_argument : NumberOption → Rule
optional_argument option = record (number_argument option) { defaults = [] }

-- `[--NAME]`: a flag, which is off where it is left out
abbrev pub flag_argument : Text → Rule
flag_argument name = record (new_rule name) { long = Some name; action = Some SetTrue }

-- a program of this name with these arguments, whose words begin after its name
abbrev pub app_with : Text → List Rule → App
app_with name arguments = record { top = record (new_shape name) { rules = arguments; no_binary_name = true }; subs = [] }

-- `pcc SRC -o OBJ [--ops N] [--tests N] [--mem N] [--window N] [--rows N] [--report]`; 111 is `o`
unfoldable pub compile_app : App
compile_app = app_with (codes "pcc") (
    word_argument (codes "SRC")
    ∷ (letter_argument 111 (codes "OBJ")
    ∷ (number_argument ops_option
    ∷ (number_argument tests_option
    ∷ (number_argument mem_option
    ∷ (number_argument window_option
    ∷ (number_argument rows_option
    ∷ (flag_argument (codes "report")
    ∷ []))))))))

-- `pexplain SRC [--ops N] [--tests N] [--mem N] [--window N] [--rows N] [--loop LINE] [--dot] [--json]`
unfoldable pub explain_app : App
explain_app = app_with (codes "pexplain") (
    word_argument (codes "SRC")
    ∷ (number_argument ops_option
    ∷ (number_argument tests_option
    ∷ (number_argument mem_option
    ∷ (number_argument window_option
    ∷ (number_argument rows_option
    ∷ (optional_argument loop_option
    ∷ (flag_argument (codes "dot")
    ∷ (flag_argument (codes "json")
    ∷ [])))))))))

-- `pvm OBJ [--cycles N]`
unfoldable pub simulate_app : App
simulate_app = app_with (codes "pvm") (
    word_argument (codes "OBJ")
    ∷ (number_argument cycles_option
    ∷ []))

-- `pview OBJ [--dot]`
unfoldable pub view_app : App
view_app = app_with (codes "pview") (
    word_argument (codes "OBJ")
    ∷ (flag_argument (codes "dot")
    ∷ []))

-- `pasm TEXT -o OBJ`
unfoldable pub assemble_app : App
assemble_app = app_with (codes "pasm") (
    word_argument (codes "TEXT")
    ∷ (letter_argument 111 (codes "OBJ")
    ∷ []))

-- `pcheck SRC OBJ CERT [--make] [--why]`
unfoldable pub check_app : App
check_app = app_with (codes "pcheck") (
    word_argument (codes "SRC")
    ∷ (word_argument (codes "OBJ")
    ∷ (word_argument (codes "CERT")
    ∷ (flag_argument (codes "make")
    ∷ (flag_argument (codes "why")
    ∷ [])))))

-- `pstat OBJ [--cycles N] [--rows] [--trace N] [--dot] [--json]`
unfoldable pub stat_app : App
stat_app = app_with (codes "pstat") (
    word_argument (codes "OBJ")
    ∷ (number_argument cycles_option
    ∷ (flag_argument (codes "rows")
    ∷ (optional_argument trace_option
    ∷ (flag_argument (codes "dot")
    ∷ (flag_argument (codes "json")
    ∷ []))))))

-- matches, unless there is a fault
abbrev pub unless_faulty : Kinds → Matches → Option Matches
unless_faulty [] matches = Some matches
unless_faulty (fault ∷ faults) matches = None

-- the matches that `clap` gives of the words, where it finds no fault with them; a request for help is a fault
unfoldable pub matches_taken : App → List Text → Option Matches
matches_taken app words = unless_faulty (fault_of app words) (matches_of app words)

-- the word that an argument has in the matches; one that may not be left out has one in all that `clap` gives
unfoldable pub word_in : Text → Matches → Text
word_in name matches = unwrap_or (first_of name matches) []

-- what the value of a flag says
abbrev pub flag_spelled : Text → Option Bool
flag_spelled text = if bytes_eq text (codes "true") then Some true else if bytes_eq text (codes "false") then Some false else None

-- whether a flag is on, where the matches say it
abbrev pub flag_found : Text → Matches → Option Bool
flag_found name matches = option_and_then flag_spelled (one_of name matches)

-- whether a flag is on; all that `clap` gives says it
unfoldable pub flag_in : Text → Matches → Bool
flag_in name matches = unwrap_or (flag_found name matches) false
