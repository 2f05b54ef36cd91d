-- What each private answer of the compiler says of the outside before and after it.
use Rattle.std.specs.Prelude.{◌≡◌, ℕ, Bool, true, false, List, length, Option, Some, None, Result, Ok, Err}
use Rattle.std.specs.Borrow.{Bor}
use Rattle.std.specs.Io.KnownBytes.{Appends}
use Rattle.pc_word.specs.Count.{Rose}
use Rattle.pc_flow.specs.FlowGraph.{FlowGraph}
use Rattle.pc_outside.specs.Shelf.{Shelved, WriteFaultOf, HoldsFile, OnlyFileDiffers}
use Rattle.pc_outside.specs.Stream.{AppendsPart}
use Rattle.pc_compile.specs.declared.program.Compiled.{Compiled}
use Rattle.pc_command.specs.Requests.{CompileRequest}
use Rattle.pc_report.specs.declared.fault.Speaker.TheVariants.{Pcc}
use Rattle.pc_report.specs.declared.fault.ToolFault.{ToolFault}
use Rattle.pc_report.specs.declared.fault.ToolFault.TheVariants as fault
use Rattle.pc_report.specs.Report.{PassCount, Report}
use Rattle.pc_tool.specs.Compiler.{CompilerEnds}
use Rattle.pc_driver.specs.Streams.{Streamed}
use Rattle.pc_tool.specs.Scheduled.{IsScheduledAs}

-- what is reported of what was compiled, and of the passes
abbrev pub reported : Compiled → List PassCount → Report
reported it passes = record { nodes = length it.flow.nodes; rows = length it.object.code.rows; passes = passes; notes = it.object.notes }

-- what is due after the report, and what was sent of its text
pub data ReportEnds (asked : Bool) (text : List ℕ) (old new : Streamed) : (due : Option ToolFault) → Type 0 where
  Unasked :
      asked ≡ false →
      new ≡ old →
      ReportEnds asked text old new None
  Sent :
      asked ≡ true →
      Appends old.told new.told text →
      ReportEnds asked text old new None
  Broken_off :
      asked ≡ true →
      Rose old.faults new.faults →
      AppendsPart old.told new.told text →
      ReportEnds asked text old new (Some (fault.WriteOutput Pcc))
  Unmade :
      asked ≡ true →
      new ≡ old →
      ReportEnds asked text old new (Some (fault.NoMemory Pcc))

-- What is due after the object and the report, of which these are the bytes and the text, and what stands then: the object was written
-- and the report followed, or the object was not written, for a fault of the shelf or for want of memory.
pub data WriteEnds (request : CompileRequest) (bytes text : List ℕ) (old new : Shelved) (out out_now : Streamed) : (due : Option ToolFault) → Type 0 where
  Written : {due : Option ToolFault} →
      HoldsFile old.held new.held request.object bytes →
      ReportEnds request.report text out out_now due →
      WriteEnds request bytes text old new out out_now due
  Not_written : {name : Bor (List ℕ)} →
      request.object ≡ name.now →
      OnlyFileDiffers old.held new.held name.now →
      WriteFaultOf old new name.now →
      out_now ≡ out →
      WriteEnds request bytes text old new out out_now (Some (fault.WriteFile Pcc name))
  Write_lacks :
      OnlyFileDiffers old.held new.held request.object →
      out_now ≡ out →
      WriteEnds request bytes text old new out out_now (Some (fault.NoMemory Pcc))

-- how the compiler ends with an answer: what was compiled, which is handed out, or the fault that is due
pub data EndsWith (Passed : FlowGraph → FlowGraph → Type 0) (passes : List PassCount) (old new : Shelved) (out out_now : Streamed) (given : Option CompileRequest)
    : (answer : Result Compiled ToolFault) → Type 0 where
  With_compiled : {it : Compiled} →
      CompilerEnds (IsScheduledAs Passed (Some it)) passes old new out out_now given None →
      EndsWith Passed passes old new out out_now given (Ok it)
  With_fault : {why : ToolFault} →
      CompilerEnds (IsScheduledAs Passed None) passes old new out out_now given (Some why) →
      EndsWith Passed passes old new out out_now given (Err why)
