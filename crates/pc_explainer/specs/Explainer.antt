-- What the explainer promises.
use Rattle.std.specs.Prelude.{◌≡◌, ℕ, List, Option, Some, None}
use Rattle.std.specs.Borrow.{Bor}
use Rattle.std.specs.Io.KnownBytes.{Appends}
use Rattle.pc_word.specs.Count.{Rose}
use Rattle.pc_syntax.specs.Unit.{TranslationUnit}
use Rattle.pc_flow.specs.FlowGraph.{FlowGraph}
use Rattle.pc_outside.specs.Shelf.{Shelved, ReadFaultOf, ReadKeeps}
use Rattle.pc_outside.specs.Stream.{AppendsPart}
use Rattle.pc_command.specs.Requests.{ExplainRequest, OfFile}
use Rattle.pc_report.specs.declared.fault.Speaker.TheVariants.{Pexplain}
use Rattle.pc_report.specs.declared.fault.SourceFault.{SourceFault}
use Rattle.pc_report.specs.declared.fault.ToolFault.{ToolFault}
use Rattle.pc_report.specs.declared.fault.ToolFault.TheVariants as fault
use Rattle.pc_driver.specs.Due.{Told}
use Rattle.pc_driver.specs.Streams.{Streamed, SendsFront}
use Rattle.pc_source.specs.Files.{HoldsSource}
use Rattle.pc_source.specs.SourceFaults.{HasFault}
use Rattle.pc_explainer.specs.Explanations.{Explains}
use Rattle.pc_explainer.specs.Outside.{Surroundings}

-- What stands where memory ran out: nothing was sent; or SRC is a source, and the front of what explains it was sent.
pub data ExplainerLacks (Passed : FlowGraph → FlowGraph → Type 0) (old : Shelved) (out out_now : Streamed) : (given : Option ExplainRequest) → Type 0 where
  Early : {given : Option ExplainRequest} →
      out_now ≡ out →
      ExplainerLacks Passed old out out_now given
  Sending : {request : ExplainRequest} {unit : TranslationUnit} {text : List ℕ} →
      Explains Passed old.held request unit text →
      SendsFront out out_now text →
      ExplainerLacks Passed old out out_now (Some request)

-- How the explainer ends, by what is due: what was given, and what stands outside. `Passed` says what the passes over the flow graph did.
pub data ExplainerEnds (Passed : FlowGraph → FlowGraph → Type 0) (old new : Shelved) (out out_now : Streamed)
    : (given : Option ExplainRequest) (due : Option ToolFault) → Type 0 where
  -- SRC is a source, and what explains it was sent
  Explained : {request : ExplainRequest} {unit : TranslationUnit} {text : List ℕ} →
      Explains Passed old.held request unit text →
      Appends out.told out_now.told text →
      ExplainerEnds Passed old new out out_now (Some request) None
  -- the words are no command
  Misused :
      new ≡ old →
      out_now ≡ out →
      ExplainerEnds Passed old new out out_now None (Some (fault.Usage Pexplain))
  -- the shelf had a read fault of SRC
  Unread : {request : ExplainRequest} {name : Bor (List ℕ)} →
      request.source ≡ OfFile name.now →
      ReadFaultOf old new name.now →
      out_now ≡ out →
      ExplainerEnds Passed old new out out_now (Some request) (Some (fault.ReadFile Pexplain name))
  -- SRC has a text with this fault
  Refused : {request : ExplainRequest} {what : SourceFault} →
      HoldsSource old.held request.source (λ text. HasFault text what) →
      out_now ≡ out →
      ExplainerEnds Passed old new out out_now (Some request) (Some (fault.Source Pexplain what))
  -- SRC is a source, and a proper prefix of what explains it was sent before the output failed
  Broke : {request : ExplainRequest} {unit : TranslationUnit} {text : List ℕ} →
      Explains Passed old.held request unit text →
      Rose out.faults out_now.faults →
      AppendsPart out.told out_now.told text →
      ExplainerEnds Passed old new out out_now (Some request) (Some (fault.WriteOutput Pexplain))
  -- memory ran out
  Lacking : {given : Option ExplainRequest} →
      ExplainerLacks Passed old out out_now given →
      ExplainerEnds Passed old new out out_now given (Some (fault.NoMemory Pexplain))

-- What the explainer promises of the outside before and after it, where the passes did what `Passed` says: it came to an end, and what was
-- due then is reported; whatever the end, the shelf's files are as before.
pub record ExplainerPromise (given : Option ExplainRequest) (Passed : FlowGraph → FlowGraph → Type 0) (old new : Surroundings) (code : ℕ) : Type 0 where
  pub due : Option ToolFault
  pub ends : ExplainerEnds Passed old.shelf new.shelf old.out new.out given due
  pub told : Told due old.err new.err code
  pub shelf : ReadKeeps old.shelf new.shelf
