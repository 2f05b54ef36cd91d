-- What the compiler promises.
use Rattle.std.specs.Prelude.{◌≡◌, ℕ, true, List, Option, Some, None}
use Rattle.std.specs.Borrow.{Bor}
use Rattle.pc_word.specs.Count.{Rose}
use Rattle.pc_syntax.specs.Unit.{TranslationUnit}
use Rattle.pc_object.specs.ObjectText.{CodeWithNotes}
use Rattle.pc_outside.specs.Shelf.{Shelved, ReadFaultOf, WriteFaultOf, ReadKeeps, OnlyFileDiffers}
use Rattle.pc_outside.specs.Stream.{AppendsPart}
use Rattle.pc_command.specs.Requests.{CompileRequest, OfFile}
use Rattle.pc_report.specs.declared.fault.Speaker.TheVariants.{Pcc}
use Rattle.pc_report.specs.declared.fault.SourceFault.{SourceFault}
use Rattle.pc_report.specs.declared.fault.ToolFault.{ToolFault}
use Rattle.pc_report.specs.declared.fault.ToolFault.TheVariants as fault
use Rattle.pc_report.specs.Report.{PassCount, report_lines}
use Rattle.pc_tool.specs.Compilation.{WritesObject, Reports, report_on}
use Rattle.pc_driver.specs.Due.{Told}
use Rattle.pc_source.specs.Files.{HoldsSource}
use Rattle.pc_driver.specs.Streams.{Streamed, SendsFront}
use Rattle.pc_driver.specs.Outside.{Outside}
use Rattle.pc_source.specs.Source.{IsSomeSource}
use Rattle.pc_source.specs.SourceFaults.{HasFault}

-- What stands where memory ran out: nothing was written and sent; or SRC is a source, and at most OBJ differs; or OBJ holds its
-- object, and the front of the report was sent.
pub data CompilerLacks (Scheduled : CompileRequest → TranslationUnit → CodeWithNotes → Type 0) (passes : List PassCount)
    (old new : Shelved) (out out_now : Streamed) : (given : Option CompileRequest) → Type 0 where
  Early : {given : Option CompileRequest} →
      ReadKeeps old new →
      out_now ≡ out →
      CompilerLacks Scheduled passes old new out out_now given
  Writing : {request : CompileRequest} →
      HoldsSource old.held request.source IsSomeSource →
      OnlyFileDiffers old.held new.held request.object →
      out_now ≡ out →
      CompilerLacks Scheduled passes old new out out_now (Some request)
  Reporting : {request : CompileRequest} {unit : TranslationUnit} {object : CodeWithNotes} →
      request.report ≡ true →
      WritesObject Scheduled request unit object old new →
      SendsFront out out_now (report_lines (report_on unit object passes)) →
      CompilerLacks Scheduled passes old new out out_now (Some request)

-- How the compiler ends, by what is due: what was given, and what stands on the shelf and was sent to the output. `passes` are
-- those over the flow graph, as they are at the end, and `Scheduled` says how an object is scheduled.
pub data CompilerEnds (Scheduled : CompileRequest → TranslationUnit → CodeWithNotes → Type 0) (passes : List PassCount)
    (old new : Shelved) (out out_now : Streamed) : (given : Option CompileRequest) (due : Option ToolFault) → Type 0 where
  -- the object is written, and the report sent where it is asked for
  Done : {request : CompileRequest} {unit : TranslationUnit} {object : CodeWithNotes} →
      WritesObject Scheduled request unit object old new →
      Reports request.report (report_on unit object passes) out out_now →
      CompilerEnds Scheduled passes old new out out_now (Some request) None
  -- the words are no command
  Misused :
      new ≡ old →
      out_now ≡ out →
      CompilerEnds Scheduled passes old new out out_now None (Some (fault.Usage Pcc))
  -- the shelf had a read fault of SRC
  Unread : {request : CompileRequest} {name : Bor (List ℕ)} →
      request.source ≡ OfFile name.now →
      ReadKeeps old new →
      ReadFaultOf old new name.now →
      out_now ≡ out →
      CompilerEnds Scheduled passes old new out out_now (Some request) (Some (fault.ReadFile Pcc name))
  -- SRC has a text with this fault
  Refused : {request : CompileRequest} {what : SourceFault} →
      ReadKeeps old new →
      HoldsSource old.held request.source (λ text. HasFault text what) →
      out_now ≡ out →
      CompilerEnds Scheduled passes old new out out_now (Some request) (Some (fault.Source Pcc what))
  -- SRC is a source, and the shelf had a write fault of OBJ
  Unwritten : {request : CompileRequest} {name : Bor (List ℕ)} →
      request.object ≡ name.now →
      HoldsSource old.held request.source IsSomeSource →
      OnlyFileDiffers old.held new.held name.now →
      WriteFaultOf old new name.now →
      out_now ≡ out →
      CompilerEnds Scheduled passes old new out out_now (Some request) (Some (fault.WriteFile Pcc name))
  -- the object is written, and a proper prefix of the report was sent before the output failed
  Unreported : {request : CompileRequest} {unit : TranslationUnit} {object : CodeWithNotes} →
      request.report ≡ true →
      WritesObject Scheduled request unit object old new →
      Rose out.faults out_now.faults →
      AppendsPart out.told out_now.told (report_lines (report_on unit object passes)) →
      CompilerEnds Scheduled passes old new out out_now (Some request) (Some (fault.WriteOutput Pcc))
  -- memory ran out
  Lacking : {given : Option CompileRequest} →
      CompilerLacks Scheduled passes old new out out_now given →
      CompilerEnds Scheduled passes old new out out_now given (Some (fault.NoMemory Pcc))

-- What the compiler promises of the outside before and after it, with these passes at its end, and objects that are scheduled as
-- `Scheduled` says: it came to an end, what was due then is reported, and the input was not touched.
pub record CompilerPromise (given : Option CompileRequest) (Scheduled : CompileRequest → TranslationUnit → CodeWithNotes → Type 0)
    (passes : List PassCount) (old new : Outside) (code : ℕ) : Type 0 where
  pub due : Option ToolFault
  pub ends : CompilerEnds Scheduled passes old.shelf new.shelf old.out new.out given due
  pub told : Told due old.err new.err code
  pub input : new.input ≡ old.input
