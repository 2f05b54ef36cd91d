-- What each private answer of the explainer says of the outside before and after it.
use Rattle.std.specs.Prelude.{◌≡◌, ℕ, ◌<◌, min, List, Option}
use Rattle.std.specs.Borrow.{Bor}
use Rattle.pc_word.specs.SourceLimits.{most_nodes}
use Rattle.pc_syntax.specs.Unit.{TranslationUnit}
use Rattle.pc_flow.specs.FlowGraph.{FlowGraph}
use Rattle.pc_outside.specs.Shelf.{Files, ReadFaultOf, Shelved}
use Rattle.pc_command.specs.Requests.{ExplainRequest, OfFile, SourcePlace}
use Rattle.pc_report.specs.declared.fault.Speaker.TheVariants.{Pexplain}
use Rattle.pc_report.specs.declared.fault.SourceFault.{SourceFault}
use Rattle.pc_report.specs.declared.fault.SourceFault.TheVariants.{TooLarge}
use Rattle.pc_report.specs.declared.fault.ToolFault.{ToolFault}
use Rattle.pc_report.specs.declared.fault.ToolFault.TheVariants as fault
use Rattle.pc_source.specs.Files.{HoldsSource}
use Rattle.pc_source.specs.Source.{IsSource}
use Rattle.pc_source.specs.SourceFaults.{HasFault}
use Rattle.pc_explainer.specs.Explanations.{Explains, ExplainsUnit}

-- ---- what explains

-- the text is the source of some unit, and this explains the unit's program
pub record ExplainsText (Passed : FlowGraph → FlowGraph → Type 0) (request : ExplainRequest) (text explanation : List ℕ) : Type 0 where
  pub unit : TranslationUnit
  pub is : IsSource text unit
  pub program : ExplainsUnit Passed request text unit explanation

-- the source that is asked for is some unit's, and the text explains it
pub record ExplainsSource (Passed : FlowGraph → FlowGraph → Type 0) (held : Option Files) (request : ExplainRequest) (text : List ℕ) : Type 0 where
  pub unit : TranslationUnit
  pub explains : Explains Passed held request unit text

-- ---- why nothing is explained

-- of a program of a size: its graph would have too many nodes, and their count is told, as far as a number goes; or memory ran out
pub data StopsAtProgram (size : ℕ) : (due : ToolFault) → Type 0 where
  Program_lacks : StopsAtProgram size (fault.NoMemory Pexplain)
  Program_too_large : {nodes : ℕ} → most_nodes < size → nodes ≡ min size 4294967295 → StopsAtProgram size (fault.Source Pexplain (TooLarge nodes))

-- of a text: it has a fault
pub data StopsAtText (text : List ℕ) : (due : ToolFault) → Type 0 where
  Text_lacks : StopsAtText text (fault.NoMemory Pexplain)
  Text_faulty : {what : SourceFault} → HasFault text what → StopsAtText text (fault.Source Pexplain what)

-- of a source: its file was not read, or its text has a fault
pub data StopsAtSource (source : SourcePlace) (old new : Shelved) : (due : ToolFault) → Type 0 where
  Source_lacks : StopsAtSource source old new (fault.NoMemory Pexplain)
  Source_unread : {name : Bor (List ℕ)} → source ≡ OfFile name.now → ReadFaultOf old new name.now → StopsAtSource source old new (fault.ReadFile Pexplain name)
  Source_faulty : {what : SourceFault} → HoldsSource old.held source (λ text. HasFault text what) → StopsAtSource source old new (fault.Source Pexplain what)
