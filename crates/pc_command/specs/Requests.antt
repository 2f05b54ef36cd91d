-- What the words of a command line ask of the compiler, of the assembler, of the simulator, of the viewer, of the profiler, of the checker and of the explainer.
use Rattle.std.specs.Prelude.{ℕ, ◌^◌, ◌==◌, ◌&&◌, Bool, true, false, List, [], ◌∷◌, Option, Some, None, codes, if◌then◌else◌, nat_lt, option_and_then, option_map}
use Rattle.std.specs.Str.Parse.{digits_value}
use Rattle.pc_word.specs.NumberText.{is_numeral}
use Rattle.pc_word.specs.declared.item.Limits.{Limits}
use Rattle.pc_word.specs.declared.item.Extent.{Extent}
use Rattle.pc_command.specs.Matching.{Matches}
use Rattle.pc_command.specs.Arguments.{assemble_app, check_app, compile_app, explain_app, flag_in, matches_taken, simulate_app, stat_app, view_app, word_in}
use Rattle.pc_command.specs.Options.{number_found, number_in, ops_option, tests_option, mem_option, window_option, rows_option, cycles_option, trace_option, loop_option}
use Rattle.pc_command.specs.declared.error.CommandError.{CommandError}
use Rattle.pc_command.specs.declared.error.CommandError.TheVariants as error
use Rattle.pc_command.specs.declared.source.SourceName.{SourceName}
use Rattle.pc_command.specs.declared.source.SourceName.TheVariants as name
use Rattle.pc_command.specs.declared.compile.CompileCommand.{CompileCommand}
use Rattle.pc_command.specs.declared.check.CheckCommand.{CheckCommand}
use Rattle.pc_command.specs.declared.explain.ExplainCommand.{ExplainCommand}
use Rattle.pc_command.specs.declared.explain.ExplainMode.{ExplainMode}
use Rattle.pc_command.specs.declared.explain.ExplainMode.TheVariants as form
use Rattle.pc_command.specs.declared.assemble.AssembleCommand.{AssembleCommand}
use Rattle.pc_command.specs.declared.simulate.SimulateCommand.{SimulateCommand}
use Rattle.pc_command.specs.declared.view.ViewCommand.{ViewCommand}
use Rattle.pc_command.specs.declared.stat.StatCommand.{StatCommand}
use Rattle.pc_command.specs.declared.stat.StatMode.{StatMode}
use Rattle.pc_command.specs.declared.stat.StatMode.TheVariants as mode

-- where a source comes from: the file of this name, or the generated sample of this number
pub data SourcePlace : Type 0 where
  OfFile : List ℕ → SourcePlace
  OfSample : ℕ → SourcePlace

-- what the compiler is asked to do
pub record CompileRequest : Type 0 where
  pub source : SourcePlace
  pub object : List ℕ
  pub limits : Limits
  pub extent : Extent
  pub report : Bool

-- what the assembler is asked to do: to write the object of a listing
pub record AssembleRequest : Type 0 where
  pub text : List ℕ
  pub object : List ℕ

-- what the simulator is asked to do
pub record SimulateRequest : Type 0 where
  pub object : List ℕ
  pub cycles : ℕ

-- what the viewer is asked to do: to write an object as a listing, or as a graph in the language DOT
pub record ViewRequest : Type 0 where
  pub object : List ℕ
  pub dot : Bool

-- what the profiler is asked to do: to run an object for at most so many cycles, and to tell what the run cost in one of its texts
pub record StatRequest : Type 0 where
  pub object : List ℕ
  pub cycles : ℕ
  pub mode : StatMode

-- what the checker is asked to do: to say whether the certificate shows that the object means what the source means, or to make a certificate that does; and
-- whether it is to tell why one is refused
pub record CheckRequest : Type 0 where
  pub source : SourcePlace
  pub object : List ℕ
  pub certificate : List ℕ
  pub make : Bool
  pub why : Bool

-- what the explainer is asked to do: to say how the innermost loops of a source are scheduled, those of one line or all
pub record ExplainRequest : Type 0 where
  pub source : SourcePlace
  pub limits : Limits
  pub extent : Extent
  pub line : Option ℕ
  pub mode : ExplainMode

-- the number that bytes spell in decimal digits alone, where it is one from 0 to 4294967295
abbrev pub sample_number_of : List ℕ → Option ℕ
sample_number_of digits = if is_numeral digits && nat_lt (digits_value 10 digits) (2 ^ 32) then Some (digits_value 10 digits) else None

-- what stands after a first `@` (64), if the word begins with one
unfoldable pub behind_at : List ℕ → Option (List ℕ)
behind_at [] = None
behind_at (first ∷ rest) = if first == 64 then Some rest else None

-- what a word for SRC names by what stands after its `@`: a sample by its number, and without a `@` a file
abbrev pub source_place_behind : List ℕ → Option (List ℕ) → Option SourcePlace
source_place_behind word (Some digits) = option_map OfSample (sample_number_of digits)
source_place_behind word None = Some (OfFile word)

-- what a word for SRC names, if anything
unfoldable pub source_place_of : List ℕ → Option SourcePlace
source_place_of word = source_place_behind word (behind_at word)

-- the limits of a row that the matches ask for
abbrev pub limits_in : Matches → Limits
limits_in matches = record { ops = number_in ops_option matches; tests = number_in tests_option matches; mem = number_in mem_option matches }

-- the extent of a window and of its schedule that the matches ask for
abbrev pub extent_in : Matches → Extent
extent_in matches = record { window = number_in window_option matches; rows = number_in rows_option matches }

-- what the compiler's matches ask, where SRC names a source
unfoldable pub compile_request_in : Matches → Option CompileRequest
compile_request_in matches = option_map (λ source. record {
  source = source;
  object = word_in (codes "OBJ") matches;
  limits = limits_in matches;
  extent = extent_in matches;
  report = flag_in (codes "report") matches;
}) (source_place_of (word_in (codes "SRC") matches))

-- what the assembler's matches ask
unfoldable pub assemble_request_in : Matches → AssembleRequest
assemble_request_in matches = record { text = word_in (codes "TEXT") matches; object = word_in (codes "OBJ") matches }

-- what the simulator's matches ask
unfoldable pub simulate_request_in : Matches → SimulateRequest
simulate_request_in matches = record { object = word_in (codes "OBJ") matches; cycles = number_in cycles_option matches }

-- what the viewer's matches ask
unfoldable pub view_request_in : Matches → ViewRequest
view_request_in matches = record { object = word_in (codes "OBJ") matches; dot = flag_in (codes "dot") matches }

-- which text the profiler is asked for: at most one of the words asks for one, and without them it is the summary
abbrev pub mode_of : (rows : Bool) → (trace : Option ℕ) → (dot json : Bool) → Option StatMode
mode_of false None false false = Some mode.Summary
mode_of true None false false = Some mode.Rows
mode_of false (Some cycles) false false = Some (mode.Trace cycles)
mode_of false None true false = Some mode.Dot
mode_of false None false true = Some mode.Json
mode_of _ _ _ _ = None

-- which one the profiler's matches ask for
abbrev pub mode_in : Matches → Option StatMode
mode_in matches =
    mode_of (flag_in (codes "rows") matches) (number_found trace_option matches) (flag_in (codes "dot") matches) (flag_in (codes "json") matches)

-- what the profiler's matches ask, where they ask for one text
unfoldable pub stat_request_in : Matches → Option StatRequest
stat_request_in matches = option_map (λ mode. record {
  object = word_in (codes "OBJ") matches;
  cycles = number_in cycles_option matches;
  mode = mode;
}) (mode_in matches)

-- what the checker's matches ask, where SRC names a source
unfoldable pub check_request_in : Matches → Option CheckRequest
check_request_in matches = option_map (λ source. record {
  source = source;
  object = word_in (codes "OBJ") matches;
  certificate = word_in (codes "CERT") matches;
  make = flag_in (codes "make") matches;
  why = flag_in (codes "why") matches;
}) (source_place_of (word_in (codes "SRC") matches))

-- which text the explainer is asked for: at most one of the words asks for one, and without them it is the one in lines
abbrev pub explain_mode_of : (dot json : Bool) → Option ExplainMode
explain_mode_of false false = Some form.Text
explain_mode_of true false = Some form.Dot
explain_mode_of false true = Some form.Json
explain_mode_of true true = None

-- which one the explainer's matches ask for
abbrev pub explain_mode_in : Matches → Option ExplainMode
explain_mode_in matches = explain_mode_of (flag_in (codes "dot") matches) (flag_in (codes "json") matches)

-- what the explainer's matches ask of a source, for a text
abbrev pub explain_request_for : Matches → ExplainMode → SourcePlace → ExplainRequest
explain_request_for matches mode source = record {
  source = source;
  limits = limits_in matches;
  extent = extent_in matches;
  line = number_found loop_option matches;
  mode = mode;
}

-- what the explainer's matches ask, where they ask for one text and SRC names a source
unfoldable pub explain_request_in : Matches → Option ExplainRequest
explain_request_in matches =
    option_and_then (λ mode. option_map (explain_request_for matches mode) (source_place_of (word_in (codes "SRC") matches))) (explain_mode_in matches)

-- what words ask of the compiler, if they are a command: `clap` takes them, and SRC names a source
unfoldable pub compile_command_of : List (List ℕ) → Option CompileRequest
compile_command_of words = option_and_then compile_request_in (matches_taken compile_app words)

-- what words ask of the assembler, if they are a command: `clap` takes them
unfoldable pub assemble_command_of : List (List ℕ) → Option AssembleRequest
assemble_command_of words = option_map assemble_request_in (matches_taken assemble_app words)

-- what words ask of the simulator, if they are a command: `clap` takes them
unfoldable pub simulate_command_of : List (List ℕ) → Option SimulateRequest
simulate_command_of words = option_map simulate_request_in (matches_taken simulate_app words)

-- what words ask of the viewer, if they are a command: `clap` takes them
unfoldable pub view_command_of : List (List ℕ) → Option ViewRequest
view_command_of words = option_map view_request_in (matches_taken view_app words)

-- what words ask of the profiler, if they are a command: `clap` takes them, and they ask for one text
unfoldable pub stat_command_of : List (List ℕ) → Option StatRequest
stat_command_of words = option_and_then stat_request_in (matches_taken stat_app words)

-- what words ask of the checker, if they are a command: `clap` takes them, and SRC names a source
unfoldable pub check_command_of : List (List ℕ) → Option CheckRequest
check_command_of words = option_and_then check_request_in (matches_taken check_app words)

-- what words ask of the explainer, if they are a command: `clap` takes them, they ask for one text, and SRC names a source
unfoldable pub explain_command_of : List (List ℕ) → Option ExplainRequest
explain_command_of words = option_and_then explain_request_in (matches_taken explain_app words)

-- a name of a source, as plain data
abbrev pub source_place : SourceName → SourcePlace
source_place (name.File path) = OfFile path.now
source_place (name.Sample number) = OfSample number

-- a command, as plain data
abbrev pub compile_request : CompileCommand → CompileRequest
compile_request command = record {
  source = source_place command.source;
  object = command.object.now;
  limits = command.limits;
  extent = command.extent;
  report = command.report;
}

-- so for the assembler
abbrev pub assemble_request : AssembleCommand → AssembleRequest
assemble_request command = record { text = command.text.now; object = command.object.now }

-- for the simulator
abbrev pub simulate_request : SimulateCommand → SimulateRequest
simulate_request command = record { object = command.object.now; cycles = command.cycles }

-- for the viewer
abbrev pub view_request : ViewCommand → ViewRequest
view_request command = record { object = command.object.now; dot = command.dot }

-- for the profiler
abbrev pub stat_request : StatCommand → StatRequest
stat_request command = record { object = command.object.now; cycles = command.cycles; mode = command.mode }

-- for the checker
abbrev pub check_request : CheckCommand → CheckRequest
check_request command = record {
  source = source_place command.source;
  object = command.object.now;
  certificate = command.certificate.now;
  make = command.make;
  why = command.why;
}

-- and for the explainer
abbrev pub explain_request : ExplainCommand → ExplainRequest
explain_request command = record {
  source = source_place command.source;
  limits = command.limits;
  extent = command.extent;
  line = command.line;
  mode = command.mode;
}

-- why words are refused: they are no command; want of memory has no cause
abbrev pub command_cause : CommandError → Option CommandError
command_cause error.NoCommand = Some error.NoCommand
command_cause error.Memory = None
