-- What holds of every command, said of the definitions alone.
use Rattle.std.specs.Prelude.{◌≡◌, ◌≢◌, ℕ, ◌^◌, ◌<◌, ◌+◌, List, [], ◌∷◌, Option, Some, None, Bool, true, false, ⊤, codes, map, option_map}
use Rattle.std.specs.List.{AllByRecursion}
use Rattle.std.specs.Option.{IsSome}
use Rattle.clap.specs.Walk.{first_of, one_of}
use Rattle.pc_word.specs.Ranges.{AreCycles, IsBetween, IsExtent, AreLimits}
use Rattle.pc_word.specs.SourceLimits.{most_source}
use Rattle.pc_command.specs.Matching.{Matches}
use Rattle.pc_command.specs.Arguments.{assemble_app, check_app, compile_app, explain_app, flag_found, matches_taken, simulate_app, stat_app, view_app}
use Rattle.pc_command.specs.Options.{cycles_option, loop_option, mem_option, number_found, ops_option, rows_option, tests_option, trace_option, window_option}
use Rattle.pc_command.specs.Requests.{CompileRequest, OfFile, OfSample, SourcePlace, SimulateRequest, compile_command_of, simulate_command_of, source_place_of}
use Rattle.pc_command.specs.Requests.{CheckRequest, ExplainRequest, StatRequest, assemble_command_of, check_command_of, explain_command_of, stat_command_of, view_command_of}
use Rattle.pc_command.specs.declared.explain.ExplainMode.TheVariants as form
use Rattle.pc_command.specs.declared.stat.StatMode.TheVariants as mode

-- ---- the ranges of a command

-- a file's name does not begin with `@` (64), and the number of a sample fits 32 bits
abbrev pub IsSourcePlace : SourcePlace → Type 0
IsSourcePlace (OfFile path) = (rest : List ℕ) → path ≢ 64 ∷ rest
IsSourcePlace (OfSample number) = number < 2 ^ 32

-- what words ask of the compiler lies in the ranges of its options
pub record IsInRange (request : CompileRequest) : Type 0 where
  pub source : IsSourcePlace request.source
  pub limits : AreLimits request.limits
  pub extent : IsExtent request.extent

-- each command of the compiler is in range
abbrev pub CompileCommandsAreInRange : Type 0
CompileCommandsAreInRange = (words : List (List ℕ)) (request : CompileRequest) → compile_command_of words ≡ Some request → IsInRange request

-- and each of the simulator
abbrev pub SimulateCommandsAreInRange : Type 0
SimulateCommandsAreInRange = (words : List (List ℕ)) (request : SimulateRequest) → simulate_command_of words ≡ Some request → AreCycles request.cycles

-- what words ask of the profiler lies in the ranges of its options
pub record IsStatInRange (request : StatRequest) : Type 0 where
  pub cycles : AreCycles request.cycles
  pub trace : (cycles : ℕ) → request.mode ≡ mode.Trace cycles → AreCycles cycles

-- and each of the profiler
abbrev pub StatCommandsAreInRange : Type 0
StatCommandsAreInRange = (words : List (List ℕ)) (request : StatRequest) → stat_command_of words ≡ Some request → IsStatInRange request

-- each command of the checker names a source; its other words may be any
abbrev pub CheckCommandsAreInRange : Type 0
CheckCommandsAreInRange = (words : List (List ℕ)) (request : CheckRequest) → check_command_of words ≡ Some request → IsSourcePlace request.source

-- what words ask of the explainer lies in the ranges of its options
pub record IsExplainInRange (request : ExplainRequest) : Type 0 where
  pub source : IsSourcePlace request.source
  pub limits : AreLimits request.limits
  pub extent : IsExtent request.extent
  pub line : (line : ℕ) → request.line ≡ Some line → IsBetween 1 (most_source + 1) line

-- and each of the explainer
abbrev pub ExplainCommandsAreInRange : Type 0
ExplainCommandsAreInRange = (words : List (List ℕ)) (request : ExplainRequest) → explain_command_of words ≡ Some request → IsExplainInRange request

-- ---- the matches of a command

-- the numbers of the limits and of the extent are there, each one that its option takes
pub record AreScheduleMatches (matches : Matches) : Type 0 where
  pub ops : IsSome (number_found ops_option matches)
  pub tests : IsSome (number_found tests_option matches)
  pub mem : IsSome (number_found mem_option matches)
  pub window : IsSome (number_found window_option matches)
  pub rows : IsSome (number_found rows_option matches)

-- all that is read of the compiler's matches is there: both words, the numbers, and the flag's state
pub record AreCompileMatches (matches : Matches) : Type 0 where
  pub source : IsSome (first_of (codes "SRC") matches)
  pub object : IsSome (first_of (codes "OBJ") matches)
  pub numbers : AreScheduleMatches matches
  pub report : IsSome (flag_found (codes "report") matches)

-- so is all that is read of the assembler's
pub record AreAssembleMatches (matches : Matches) : Type 0 where
  pub text : IsSome (first_of (codes "TEXT") matches)
  pub object : IsSome (first_of (codes "OBJ") matches)

-- of the simulator's
pub record AreSimulateMatches (matches : Matches) : Type 0 where
  pub object : IsSome (first_of (codes "OBJ") matches)
  pub cycles : IsSome (number_found cycles_option matches)

-- and of the viewer's
pub record AreViewMatches (matches : Matches) : Type 0 where
  pub object : IsSome (first_of (codes "OBJ") matches)
  pub dot : IsSome (flag_found (codes "dot") matches)

-- and of the profiler's; a number of cycles to be traced is there where one is given
pub record AreStatMatches (matches : Matches) : Type 0 where
  pub object : IsSome (first_of (codes "OBJ") matches)
  pub cycles : IsSome (number_found cycles_option matches)
  pub rows : IsSome (flag_found (codes "rows") matches)
  pub trace : IsSome (one_of (codes "trace") matches) → IsSome (number_found trace_option matches)
  pub dot : IsSome (flag_found (codes "dot") matches)
  pub json : IsSome (flag_found (codes "json") matches)

-- and of the checker's: three words, and the state of each flag
pub record AreCheckMatches (matches : Matches) : Type 0 where
  pub source : IsSome (first_of (codes "SRC") matches)
  pub object : IsSome (first_of (codes "OBJ") matches)
  pub certificate : IsSome (first_of (codes "CERT") matches)
  pub make : IsSome (flag_found (codes "make") matches)
  pub why : IsSome (flag_found (codes "why") matches)

-- and of the explainer's; a line is there where one is given, and the state of each flag
pub record AreExplainMatches (matches : Matches) : Type 0 where
  pub source : IsSome (first_of (codes "SRC") matches)
  pub numbers : AreScheduleMatches matches
  pub line : IsSome (one_of (codes "loop") matches) → IsSome (number_found loop_option matches)
  pub dot : IsSome (flag_found (codes "dot") matches)
  pub json : IsSome (flag_found (codes "json") matches)

-- the matches that `clap` gives of words that it takes lack nothing, so no command has a word or a number that stands for a missing one
abbrev pub CompileMatchesAreWhole : Type 0
CompileMatchesAreWhole = (words : List (List ℕ)) (matches : Matches) → matches_taken compile_app words ≡ Some matches → AreCompileMatches matches

-- so do those of the assembler
abbrev pub AssembleMatchesAreWhole : Type 0
AssembleMatchesAreWhole = (words : List (List ℕ)) (matches : Matches) → matches_taken assemble_app words ≡ Some matches → AreAssembleMatches matches

-- those of the simulator
abbrev pub SimulateMatchesAreWhole : Type 0
SimulateMatchesAreWhole = (words : List (List ℕ)) (matches : Matches) → matches_taken simulate_app words ≡ Some matches → AreSimulateMatches matches

-- those of the viewer
abbrev pub ViewMatchesAreWhole : Type 0
ViewMatchesAreWhole = (words : List (List ℕ)) (matches : Matches) → matches_taken view_app words ≡ Some matches → AreViewMatches matches

-- those of the profiler
abbrev pub StatMatchesAreWhole : Type 0
StatMatchesAreWhole = (words : List (List ℕ)) (matches : Matches) → matches_taken stat_app words ≡ Some matches → AreStatMatches matches

-- those of the checker
abbrev pub CheckMatchesAreWhole : Type 0
CheckMatchesAreWhole = (words : List (List ℕ)) (matches : Matches) → matches_taken check_app words ≡ Some matches → AreCheckMatches matches

-- and those of the explainer
abbrev pub ExplainMatchesAreWhole : Type 0
ExplainMatchesAreWhole = (words : List (List ℕ)) (matches : Matches) → matches_taken explain_app words ≡ Some matches → AreExplainMatches matches

-- ---- plain words

-- a word that begins with no hyphen (45)
abbrev pub IsPlainWord : List ℕ → Type 0
IsPlainWord word = (rest : List ℕ) → word ≢ 45 ∷ rest

-- what is asked of the compiler where no option is given
abbrev pub plain_request : SourcePlace → List ℕ → CompileRequest
plain_request source object = record {
  source = source;
  object = object;
  limits = record { ops = 8; tests = 3; mem = 2 };
  extent = record { window = 4; rows = 256 };
  report = false;
}

-- `SRC -o OBJ` asks for the object of the source that SRC names at OBJ, with the defaults
abbrev pub PlainWordsCompile : Type 0
PlainWordsCompile = (source object : List ℕ) (place : SourcePlace) → IsPlainWord source → IsPlainWord object → source_place_of source ≡ Some place
    → compile_command_of (source ∷ (codes "-o" ∷ (object ∷ []))) ≡ Some (plain_request place object)

-- `TEXT -o OBJ` asks for the object of the listing at TEXT at OBJ
abbrev pub PlainWordsAssemble : Type 0
PlainWordsAssemble = (text object : List ℕ) → IsPlainWord text → IsPlainWord object
    → assemble_command_of (text ∷ (codes "-o" ∷ (object ∷ []))) ≡ Some (record { text = text; object = object })

-- `OBJ` asks for a run of the object at OBJ, with the default
abbrev pub PlainWordSimulates : Type 0
PlainWordSimulates = (object : List ℕ) → IsPlainWord object → simulate_command_of (object ∷ []) ≡ Some (record { object = object; cycles = 100000000 })

-- `OBJ` asks for the listing of the object at OBJ
abbrev pub PlainWordViews : Type 0
PlainWordViews = (object : List ℕ) → IsPlainWord object → view_command_of (object ∷ []) ≡ Some (record { object = object; dot = false })

-- `OBJ` asks for the summary of a run of the object at OBJ, with the default
abbrev pub PlainWordProfiles : Type 0
PlainWordProfiles = (object : List ℕ) → IsPlainWord object
    → stat_command_of (object ∷ []) ≡ Some (record { object = object; cycles = 100000000; mode = mode.Summary })

-- `SRC` asks how all innermost loops of the source that it names are scheduled, in lines, with the defaults
abbrev pub PlainWordExplains : Type 0
PlainWordExplains = (source : List ℕ) (place : SourcePlace) → IsPlainWord source → source_place_of source ≡ Some place
    → explain_command_of (source ∷ [])
    ≡ Some (record {
      source = place;
      limits = record { ops = 8; tests = 3; mem = 2 };
      extent = record { window = 4; rows = 256 };
      line = None;
      mode = form.Text;
    })

-- no words are no command
abbrev pub NoWordsAreNoCommand : Type 0
NoWordsAreNoCommand =
    (compile_command_of [] ≡ None) × (assemble_command_of [] ≡ None) × (simulate_command_of [] ≡ None) × (view_command_of [] ≡ None) × (stat_command_of [] ≡ None)
    × (check_command_of [] ≡ None) × (explain_command_of [] ≡ None)

-- ---- the words of the checker

-- a word that begins with no hyphen, or one of the checker's flags
pub data CheckWord : Type 0 where
  Plain : List ℕ → CheckWord
  Make : CheckWord
  Why : CheckWord

-- such a word, as it is written
abbrev pub check_word : CheckWord → List ℕ
check_word (Plain word) = word
check_word Make = codes "--make"
check_word Why = codes "--why"

-- it begins with no hyphen where that is said of it
abbrev pub IsCheckWord : CheckWord → Type 0
IsCheckWord (Plain word) = IsPlainWord word
IsCheckWord _ = ⊤

-- those that begin with no hyphen, in their order
abbrev pub plain_words : List CheckWord → List (List ℕ)
plain_words [] = []
plain_words (Plain word ∷ rest) = word ∷ plain_words rest
plain_words (Make ∷ rest) = plain_words rest
plain_words (Why ∷ rest) = plain_words rest

-- one more of a flag: it may stand once
abbrev pub once_more : Option Bool → Option Bool
once_more (Some false) = Some true
once_more _ = None

-- whether `--make` stands among words, where it does not stand twice
abbrev pub make_among : List CheckWord → Option Bool
make_among [] = Some false
make_among (Plain word ∷ rest) = make_among rest
make_among (Make ∷ rest) = once_more (make_among rest)
make_among (Why ∷ rest) = make_among rest

-- and whether `--why` does
abbrev pub why_among : List CheckWord → Option Bool
why_among [] = Some false
why_among (Plain word ∷ rest) = why_among rest
why_among (Make ∷ rest) = why_among rest
why_among (Why ∷ rest) = once_more (why_among rest)

-- what three words SRC, OBJ and CERT ask for with the flags, where SRC names a source; other words ask for nothing
abbrev pub check_asked : List (List ℕ) → (make why : Option Bool) → Option CheckRequest
check_asked (source ∷ (object ∷ (certificate ∷ []))) (Some make) (Some why) =
    option_map (λ place. record { source = place; object = object; certificate = certificate; make = make; why = why }) (source_place_of source)
check_asked _ _ _ = None

-- words that begin with no hyphen and flags are a command of the checker exactly where three begin with none, the first of these names a source, and no flag
-- stands twice; in whatever order they stand, they ask for the same
abbrev pub CheckWordsAsk : Type 0
CheckWordsAsk = (words : List CheckWord) → AllByRecursion IsCheckWord words
    → check_command_of (map check_word words) ≡ check_asked (plain_words words) (make_among words) (why_among words)
