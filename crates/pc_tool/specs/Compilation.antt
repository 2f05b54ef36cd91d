-- What is compiled: the object that stands for a source, and what is reported of it.
use Rattle.std.specs.Prelude.{◌≡◌, ℕ, ◌<◌, Bool, true, false, List, length, map}
use Rattle.std.specs.Io.KnownBytes.{Appends}
use Rattle.pc_word.specs.declared.item.Limits.{Limits}
use Rattle.pc_syntax.specs.Unit.{TranslationUnit}
use Rattle.pc_check.specs.Resolution.{resolved}
use Rattle.pc_check.specs.Sizes.{size}
use Rattle.pc_machine.specs.Reachable.{IsReachable}
use Rattle.pc_tighten.specs.Compact.{Compact}
use Rattle.pc_object.specs.ObjectText.{CodeWithNotes, object_text}
use Rattle.pc_outside.specs.Shelf.{Shelved, HoldsFile}
use Rattle.pc_command.specs.Requests.{CompileRequest}
use Rattle.pc_report.specs.Report.{PassCount, Report, report_lines}
use Rattle.pc_source.specs.Files.{HasSource}
use Rattle.pc_source.specs.Meaning.{Same}
use Rattle.pc_driver.specs.Objects.{Loads}
use Rattle.pc_driver.specs.Streams.{Streamed}
use Rattle.pc_calls.specs.Inlining.{inlined_unit}
use Rattle.pc_source.specs.Source.{IsSource}

-- The text is the source of this program; the object loads under the limits, with the program's arrays and their data, leaves lead to
-- each of its rows from row 0, and it is compact; for every input of words it does what the source means.
pub record Translates (limits : Limits) (text : List ℕ) (unit : TranslationUnit) (object : CodeWithNotes) : Type 0 where
  pub source : IsSource text unit
  pub loads : Loads object
  pub limited : object.code.limits ≡ limits
  pub arrays : object.code.arrays ≡ (resolved (inlined_unit unit)).arrays
  pub initial : object.code.initial ≡ (resolved (inlined_unit unit)).initial
  pub reached : (row : ℕ) → row < length object.code.rows → IsReachable object.code.rows row
  pub compact : Compact object.code
  pub same : Same unit object.code

-- The source that is asked for was translated; its object is held now, and all else is as before. How the object was scheduled is
-- `Scheduled`; nothing else here rests on that.
pub record WritesObject (Scheduled : CompileRequest → TranslationUnit → CodeWithNotes → Type 0) (request : CompileRequest) (unit : TranslationUnit) (object : CodeWithNotes)
    (old new : Shelved) : Type 0 where
  pub text : List ℕ
  pub in_source : HasSource old.held request.source text
  pub translates : Translates request.limits text unit object
  pub written : HoldsFile old.held new.held request.object (object_text object)
  pub scheduled : Scheduled request unit object

-- the names of passes, and how many changes each has made
abbrev pub counts_of : {P : Type 0} → (P → List ℕ) → (P → ℕ) → List P → List PassCount
counts_of label changed passes = map (λ pass. record { name = label pass; changes = changed pass }) passes

-- what is reported: the size of the program, which is the number of nodes of its flow graph, the rows of the object, the
-- passes, and the object's notes
abbrev pub report_on : TranslationUnit → CodeWithNotes → List PassCount → Report
report_on unit object passes = record { nodes = size (inlined_unit unit); rows = length object.code.rows; passes = passes; notes = object.notes }

-- the report was sent where it is asked for, and else nothing
abbrev pub Reports : Bool → Report → Streamed → Streamed → Type 0
Reports true report old new = Appends old.told new.told (report_lines report)
Reports false report old new = new ≡ old
