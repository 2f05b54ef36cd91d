-- How the compiler ends, put together from what its steps leave.
use Rattle.std.proofs.Common.{◌≡◌, ℕ, ◌≤◌, ◌⊎◌, inl, inr, List, Bool, true, false, Option, Some, None, Result, Ok, Err, refl, sym, ◌∙◌, ap, subst, arith}
use Rattle.std.proofs.lemmas.List.{length-map}
use Rattle.std.specs.Prelude.{IsSome}
use Rattle.std.specs.Borrow.{Bor}
use Rattle.std.specs.Io.KnownBytes.{Appends}
use Rattle.pc_word.specs.Count.{Rose}
use Rattle.pc_syntax.specs.Source.{ResolvedProgram}
use Rattle.pc_syntax.specs.Unit.{TranslationUnit}
use Rattle.pc_check.specs.Sizes.{resolved_size}
use Rattle.pc_flow.specs.FlowGraph.{FlowGraph}
use Rattle.pc_table.specs.StoredTable.{table_of}
use Rattle.pc_machine.specs.MachineCode.{row_of}
use Rattle.pc_object.specs.ObjectText.{CodeWithNotes, IsObject, object_of, object_text}
use Rattle.pc_compile.specs.Compiled.{IsUncompiled}
use Rattle.pc_compile.specs.declared.error.CompileError.TheVariants as compile
use Rattle.pc_compile.specs.declared.program.Compiled.{Compiled}
use Rattle.pc_outside.specs.Shelf.{Files, Shelved, ReadFaultOf, WriteFaultOf, ReadKeeps, OnlyFileDiffers, HoldsFile}
use Rattle.pc_outside.specs.Stream.{AppendsPart}
use Rattle.pc_command.specs.Requests.{CompileRequest, SourcePlace}
use Rattle.pc_report.specs.declared.fault.Speaker.TheVariants.{Pcc}
use Rattle.pc_report.specs.declared.fault.SourceFault.{SourceFault}
use Rattle.pc_report.specs.declared.fault.SourceFault.TheVariants.{TooLong, TooLarge}
use Rattle.pc_report.specs.declared.fault.ToolFault.{ToolFault}
use Rattle.pc_report.specs.declared.fault.ToolFault.TheVariants as fault
use Rattle.pc_report.specs.Report.{PassCount, report_lines}
use Rattle.pc_tool.specs.Compilation.{WritesObject, report_on}
use Rattle.pc_tool.specs.Compiler.{CompilerEnds, Done, Misused, Unread, Refused, Unwritten, Unreported, Lacking, CompilerLacks, Early, Writing, Reporting, CompilerPromise}
use Rattle.pc_driver.specs.Due.{Told}
use Rattle.pc_source.specs.Files.{HasSource, HoldsSource}
use Rattle.pc_driver.specs.Streams.{Streamed}
use Rattle.pc_driver.specs.Outside.{Outside}
use Rattle.pc_tool.specs.Scheduled.{IsScheduledAs}
use Rattle.pc_source.specs.Source.{IsSomeSource}
use Rattle.pc_source.specs.SourceFaults.{HasFault}
use Rattle.pc_source.specs.Reading.{FailsToRead, Not_read, Too_long, IsChecked}
use Rattle.pc_source.specs.declared.source.SourceError.TheVariants as error
use Rattle.pc_tool.specs.declared.translation.Translation.{Translation}
use Rattle.pc_tool.specs.models.Translating.{HasProgram, HasTranslation}
use Rattle.pc_tool.specs.models.Compiling.{reported, EndsWith, With_compiled, With_fault}
use Rattle.pc_tool.specs.models.Compiling.{ReportEnds, Unasked, Sent, Broken_off, Unmade, WriteEnds, Written, Not_written, Write_lacks}
use Rattle.pc_driver.proofs.Streams.{sends_part, sends_none}
use Rattle.pc_source.proofs.CheckedTexts.{is_too_large}
use Rattle.pc_source.proofs.Files.{has_holds}
use Rattle.pc_tool.proofs.Shelves.{same_keeps}

-- ---- after a read

rose_later : (one two three : ℕ) → one ≤ two → Rose two three → Rose one three
rose_later one two three le rose = omega (arith, le, rose)

module _ (Scheduled : CompileRequest → TranslationUnit → CodeWithNotes → Type 0) (passes : List PassCount) (request : CompileRequest)
    (old mid new : Shelved) (out out_now : Streamed) (keeps : ReadKeeps old mid) where
  keeps_behind : ReadKeeps mid new → ReadKeeps old new
  keeps_behind later = record {
    held = later.held ∙ keeps.held;
    counted = omega (arith, keeps.counted, later.counted);
    write_faults = later.write_faults ∙ keeps.write_faults;
    write_name = later.write_name ∙ keeps.write_name;
  }

  read_fault_behind : (name : List ℕ) → ReadFaultOf mid new name → ReadFaultOf old new name
  read_fault_behind name h = record { rose = rose_later old.read_faults mid.read_faults new.read_faults keeps.counted h.rose; named = h.named }

  write_fault_behind : (name : List ℕ) → WriteFaultOf mid new name → WriteFaultOf old new name
  write_fault_behind name h = record { rose = subst (λ (before : ℕ). Rose before new.write_faults) keeps.write_faults h.rose; named = h.named }

  holds_behind : (P : List ℕ → Type 0) → HoldsSource mid.held request.source P → HoldsSource old.held request.source P
  holds_behind P h = subst (λ (held : Option Files). HoldsSource held request.source P) keeps.held h

  differs_behind : (name : List ℕ) → OnlyFileDiffers mid.held new.held name → OnlyFileDiffers old.held new.held name
  differs_behind name h = subst (λ (held : Option Files). OnlyFileDiffers held new.held name) keeps.held h

  compiled_behind : (unit : TranslationUnit) (object : CodeWithNotes) → WritesObject Scheduled request unit object mid new → WritesObject Scheduled request unit object old new
  compiled_behind unit object it = record {
    text = it.text;
    in_source = subst (λ (held : Option Files). HasSource held request.source it.text) keeps.held it.in_source;
    translates = it.translates;
    written = subst (λ (held : Option Files). HoldsFile held new.held request.object (object_text object)) keeps.held it.written;
    scheduled = it.scheduled;
  }

  lacks_behind : CompilerLacks Scheduled passes mid new out out_now (Some request) → CompilerLacks Scheduled passes old new out out_now (Some request)
  lacks_behind (Early later same) = Early (keeps_behind later) same
  lacks_behind (Writing source differs same) = Writing (holds_behind IsSomeSource source) (differs_behind request.object differs) same
  lacks_behind (Reporting {unit} {object} asked it sent) = Reporting asked (compiled_behind unit object it) sent

  -- what a command comes to after a read, it comes to from before it
  same_end : (due : Option ToolFault) → CompilerEnds Scheduled passes mid new out out_now (Some request) due → CompilerEnds Scheduled passes old new out out_now (Some request) due
  same_end due (Done {unit} {object} it sent) = Done (compiled_behind unit object it) sent
  same_end due (Unread {name} is later fault same) = Unread is (keeps_behind later) (read_fault_behind name.now fault) same
  same_end due (Refused {what} later source same) = Refused (keeps_behind later) (holds_behind (λ text. HasFault text what) source) same
  same_end due (Unwritten {name} is source differs fault same) =
      Unwritten is (holds_behind IsSomeSource source) (differs_behind name.now differs) (write_fault_behind name.now fault) same
  same_end due (Unreported {unit} {object} asked it rose part) = Unreported asked (compiled_behind unit object it) rose part
  same_end due (Lacking lacks) = Lacking (lacks_behind lacks)

-- how it ended after a read, with what it answered
pub ends_behind : (Passed : FlowGraph → FlowGraph → Type 0) (passes : List PassCount) (request : CompileRequest) (old mid new : Shelved) (out out_now : Streamed) → ReadKeeps old mid
    → (answer : Result Compiled ToolFault) → EndsWith Passed passes mid new out out_now (Some request) answer → EndsWith Passed passes old new out out_now (Some request) answer
ends_behind Passed passes request old mid new out out_now keeps answer (With_compiled {it} ends) =
    With_compiled (same_end (IsScheduledAs Passed (Some it)) passes request old mid new out out_now keeps None ends)
ends_behind Passed passes request old mid new out out_now keeps answer (With_fault {why} ends) =
    With_fault (same_end (IsScheduledAs Passed None) passes request old mid new out out_now keeps (Some why) ends)

-- ---- each step

-- the file of the source was not read
pub unread_ends : (Passed : FlowGraph → FlowGraph → Type 0) (passes : List PassCount) (request : CompileRequest) (old new : Shelved) (out : Streamed) (name : Bor (List ℕ))
    → ReadKeeps old new → FailsToRead request.source old new (error.Unread name)
    → EndsWith Passed passes old new out out (Some request) (Err (fault.ReadFile Pcc name))
unread_ends Passed passes request old new out name keeps (Not_read is failed) = With_fault (Unread is keeps failed refl)

-- its text is too long
pub long_ends : (Passed : FlowGraph → FlowGraph → Type 0) (passes : List PassCount) (request : CompileRequest) (old new : Shelved) (out : Streamed)
    → ReadKeeps old new → FailsToRead request.source old new error.TooLong
    → EndsWith Passed passes old new out out (Some request) (Err (fault.Source Pcc TooLong))
long_ends Passed passes request old new out keeps (Too_long long) = With_fault (Refused keeps long refl)

-- nothing was written, for want of memory
pub lacking_ends : (Passed : FlowGraph → FlowGraph → Type 0) (passes : List PassCount) (given : Option CompileRequest) (old new : Shelved) (out : Streamed) → ReadKeeps old new
    → EndsWith Passed passes old new out out given (Err (fault.NoMemory Pcc))
lacking_ends Passed passes given old new out keeps = With_fault (Lacking (Early keeps refl))

-- nothing was touched, for want of memory
pub memory_ends : (Passed : FlowGraph → FlowGraph → Type 0) (passes : List PassCount) (given : Option CompileRequest) (old : Shelved) (out : Streamed)
    → EndsWith Passed passes old old out out given (Err (fault.NoMemory Pcc))
memory_ends Passed passes given old out = With_fault (Lacking (Early (same_keeps old) refl))

-- the words are no command
pub usage_ends : (Passed : FlowGraph → FlowGraph → Type 0) (passes : List PassCount) (given : Option CompileRequest) (old : Shelved) (out : Streamed) → given ≡ None
    → EndsWith Passed passes old old out out given (Err (fault.Usage Pcc))
usage_ends Passed passes given old out none =
    subst (λ (g : Option CompileRequest). EndsWith Passed passes old old out out g (Err (fault.Usage Pcc))) (sym none) (With_fault (Misused refl refl))

-- the text has a fault
pub text_ends : (Passed : FlowGraph → FlowGraph → Type 0) (passes : List PassCount) (request : CompileRequest) (old : Shelved) (out : Streamed) (text : List ℕ) (what : SourceFault)
    → HasSource old.held request.source text → HasFault text what → EndsWith Passed passes old old out out (Some request) (Err (fault.Source Pcc what))
text_ends Passed passes request old out text what has faulty =
    With_fault (Refused (same_keeps old) (has_holds old.held request.source text (λ text. HasFault text what) has faulty) refl)

-- its text is read as this program
pub has_program : (held : Option Files) (source : SourcePlace) (text : List ℕ) (checked : ResolvedProgram) → HasSource held source text → IsChecked text checked
    → HasProgram held source checked
has_program held source text checked has is = record { text = text; in_source = has; is = is }

-- which is too large
pub large_ends : (Passed : FlowGraph → FlowGraph → Type 0) (passes : List PassCount) (request : CompileRequest) (old : Shelved) (out : Streamed) (checked : ResolvedProgram) (nodes : ℕ)
    → HasProgram old.held request.source checked → IsUncompiled (resolved_size checked) (compile.TooLarge nodes)
    → EndsWith Passed passes old old out out (Some request) (Err (fault.Source Pcc (TooLarge nodes)))
large_ends Passed passes request old out checked nodes has (many, is) =
    text_ends Passed passes request old out has.text (TooLarge nodes) has.in_source
    (subst (λ (nodes : ℕ). HasFault has.text (TooLarge nodes)) (sym is) (is_too_large has.text checked has.is many))

-- ---- an object that was written

module _ (Passed : FlowGraph → FlowGraph → Type 0) (passes : List PassCount) (request : CompileRequest) (old new : Shelved) (out out_now : Streamed) (it : Translation)
    (has : HasTranslation Passed old.held request it) where
  abbrev object : CodeWithNotes
  object = object_of it.compiled.object

  is_source : HoldsSource old.held request.source IsSomeSource
  is_source = has_holds old.held request.source has.text IsSomeSource has.in_source (has.unit, has.translates.source)

  -- as what is handed out, or as some such
  as_handed : IsScheduledAs Passed (Some it.compiled) request has.unit object
  unfolding IsScheduledAs
  as_handed = (refl, has.compiled)

  as_some : IsScheduledAs Passed None request has.unit object
  unfolding IsScheduledAs
  as_some = record { flow = it.compiled.flow; table = table_of it.compiled.table; choices = it.compiled.choices; compiled = has.compiled }

  compiled : (Scheduled : CompileRequest → TranslationUnit → CodeWithNotes → Type 0) → Scheduled request has.unit object
      → HoldsFile old.held new.held request.object it.bytes.items → WritesObject Scheduled request has.unit object old new
  compiled Scheduled scheduled written = record {
    text = has.text;
    in_source = has.in_source;
    translates = has.translates;
    written = subst (λ bytes. HoldsFile old.held new.held request.object bytes) has.bytes written;
    scheduled = scheduled;
  }

  same_report : reported it.compiled passes ≡ report_on has.unit object passes
  same_report = rw (has.nodes, length-map it.compiled.object.code.rows row_of) refl

  same_lines : report_lines (reported it.compiled passes) ≡ report_lines (report_on has.unit object passes)
  same_lines = ap report_lines same_report

  -- it was written, and nothing is due
  reports_all : HoldsFile old.held new.held request.object it.bytes.items → ReportEnds request.report (report_lines (reported it.compiled passes)) out out_now None
      → CompilerEnds (IsScheduledAs Passed (Some it.compiled)) passes old new out out_now (Some request) None
  reports_all written (Unasked asked same) = Done (compiled _ as_handed written) (rw asked same)
  reports_all written (Sent asked sent) = Done (compiled _ as_handed written) (rw asked (subst (λ text. Appends out.told out_now.told text) same_lines sent))

  -- it was written, and a fault is due
  reports_part : (why : ToolFault) → HoldsFile old.held new.held request.object it.bytes.items
      → ReportEnds request.report (report_lines (reported it.compiled passes)) out out_now (Some why)
      → CompilerEnds (IsScheduledAs Passed None) passes old new out out_now (Some request) (Some why)
  reports_part why written (Broken_off asked rose part) =
      Unreported asked (compiled _ as_some written) rose (subst (λ text. AppendsPart out.told out_now.told text) same_lines part)
  reports_part why written (Unmade asked same) =
      Lacking (Reporting asked (compiled _ as_some written) (sends_none out out_now (report_lines (report_on has.unit object passes)) same))

  -- what stands after the object and the report, of which these are the bytes and the counts
  as_written : (bytes : List ℕ) (counts : List PassCount) (due is : Option ToolFault) → bytes ≡ it.bytes.items → counts ≡ passes → due ≡ is
      → WriteEnds request bytes (report_lines (reported it.compiled counts)) old new out out_now due
      → WriteEnds request it.bytes.items (report_lines (reported it.compiled passes)) old new out out_now is
  as_written bytes counts due is same_bytes same_counts same_due ends =
      subst (λ bytes. WriteEnds request bytes (report_lines (reported it.compiled passes)) old new out out_now is) same_bytes
      (subst (λ counts. WriteEnds request bytes (report_lines (reported it.compiled counts)) old new out out_now is) same_counts
      (subst (λ (due : Option ToolFault). WriteEnds request bytes (report_lines (reported it.compiled counts)) old new out out_now due) same_due ends))

  one_is_due : (why : ToolFault) → WriteEnds request it.bytes.items (report_lines (reported it.compiled passes)) old new out out_now (Some why)
      → EndsWith Passed passes old new out out_now (Some request) (Err why)
  one_is_due why (Written written ends) = With_fault (reports_part why written ends)
  one_is_due why (Not_written {name} is differs failed same) = With_fault (Unwritten is is_source differs failed same)
  one_is_due why (Write_lacks differs same) = With_fault (Lacking (Writing is_source differs same))

  all_done : WriteEnds request it.bytes.items (report_lines (reported it.compiled passes)) old new out out_now None
      → EndsWith Passed passes old new out out_now (Some request) (Ok it.compiled)
  all_done (Written written ends) = With_compiled (reports_all written ends)

  -- it is how the compiler ends: with what was compiled
  pub done_ends : (bytes : List ℕ) (counts : List PassCount) (due : Option ToolFault) → bytes ≡ it.bytes.items → counts ≡ passes → due ≡ None
      → WriteEnds request bytes (report_lines (reported it.compiled counts)) old new out out_now due
      → EndsWith Passed passes old new out out_now (Some request) (Ok it.compiled)
  done_ends bytes counts due same_bytes same_counts same_due ends = all_done (as_written bytes counts due None same_bytes same_counts same_due ends)

  -- or with the fault that is due
  pub due_ends : (bytes : List ℕ) (counts : List PassCount) (due : Option ToolFault) (why : ToolFault) → bytes ≡ it.bytes.items → counts ≡ passes → due ≡ Some why
      → WriteEnds request bytes (report_lines (reported it.compiled counts)) old new out out_now due
      → EndsWith Passed passes old new out out_now (Some request) (Err why)
  due_ends bytes counts due why same_bytes same_counts same_due ends = one_is_due why (as_written bytes counts due (Some why) same_bytes same_counts same_due ends)

-- ---- what is due after a report

module _ (text : List ℕ) (old new : Streamed) where
  pub report_unasked : (asked : Bool) → asked ≡ false → ReportEnds asked text old old None
  report_unasked asked off = Unasked off refl

  pub report_sent : Appends old.told new.told text → ReportEnds true text old new None
  report_sent sent = Sent refl sent

  pub report_broken_off : Rose old.faults new.faults → AppendsPart old.told new.told text → ReportEnds true text old new (Some (fault.WriteOutput Pcc))
  report_broken_off rose part = Broken_off refl rose part

  pub report_unmade : (asked : Bool) → asked ≡ true → ReportEnds asked text old old (Some (fault.NoMemory Pcc))
  report_unmade asked on = Unmade on refl

pub ruleset reports_due = (report_unasked, report_sent, report_broken_off, report_unmade)

-- ---- what is due after the object

module _ (request : CompileRequest) (bytes text : List ℕ) (old new : Shelved) (out out_now : Streamed) where
  pub object_written : (due : Option ToolFault) → HoldsFile old.held new.held request.object bytes → ReportEnds request.report text out out_now due
      → WriteEnds request bytes text old new out out_now due
  object_written due written ends = Written written ends

  pub object_unwritten : (name : Bor (List ℕ)) → request.object ≡ name.now → OnlyFileDiffers old.held new.held name.now → WriteFaultOf old new name.now
      → WriteEnds request bytes text old new out out (Some (fault.WriteFile Pcc name))
  object_unwritten name is differs failed = Not_written is differs failed refl

  pub object_lacks : OnlyFileDiffers old.held new.held request.object → WriteEnds request bytes text old new out out (Some (fault.NoMemory Pcc))
  object_lacks differs = Write_lacks differs refl

pub ruleset writes_due = (object_written, object_unwritten, object_lacks)

-- ---- no memory for a line

-- where a fault is due, what stands is what may stand where memory ran out
pub ends_lacking : (Scheduled : CompileRequest → TranslationUnit → CodeWithNotes → Type 0) (passes : List PassCount) (given : Option CompileRequest)
    (old new : Shelved) (out out_now : Streamed) (why : ToolFault)
    → CompilerEnds Scheduled passes old new out out_now given (Some why) → CompilerLacks Scheduled passes old new out out_now given
ends_lacking Scheduled passes given old new out out_now why (Misused same quiet) = Early (subst (λ (now : Shelved). ReadKeeps old now) (sym same) (same_keeps old)) quiet
ends_lacking Scheduled passes given old new out out_now why (Unread is keeps failed same) = Early keeps same
ends_lacking Scheduled passes given old new out out_now why (Refused keeps source same) = Early keeps same
ends_lacking Scheduled passes given old new out out_now why (Unwritten {request} {name} is source differs failed same) =
    Writing source (subst (λ name. OnlyFileDiffers old.held new.held name) (sym is) differs) same
ends_lacking Scheduled passes given old new out out_now why (Unreported {request} {unit} {object} asked it rose part) =
    Reporting asked it (sends_part out out_now (report_lines (report_on unit object passes)) part)
ends_lacking Scheduled passes given old new out out_now why (Lacking lacks) = lacks

-- the object of what is handed out may be encoded
done_object : (Passed : FlowGraph → FlowGraph → Type 0) (passes : List PassCount) (old new : Shelved) (out out_now : Streamed) (given : Option CompileRequest) (it : Compiled)
    (due : Option ToolFault) → CompilerEnds (IsScheduledAs Passed (Some it)) passes old new out out_now given due → due ≡ None → IsObject (object_of it.object)
unfolding IsScheduledAs
done_object Passed passes old new out out_now given it due (Done {request} {unit} {object} done sent) none =
    subst IsObject (sym done.scheduled.0) done.translates.loads.is_object
done_object Passed passes old new out out_now given it due _ none = absurd cc

pub handed_object : (Passed : FlowGraph → FlowGraph → Type 0) (passes : List PassCount) (old new : Shelved) (out out_now : Streamed) (given : Option CompileRequest) (it : Compiled)
    → EndsWith Passed passes old new out out_now given (Ok it) → IsObject (object_of it.object)
handed_object Passed passes old new out out_now given it (With_compiled ends) = done_object Passed passes old new out out_now given it None ends refl

-- what was compiled is handed out, and nothing is told
pub done_promise : (given : Option CompileRequest) (Passed : FlowGraph → FlowGraph → Type 0) (passes : List PassCount) (old new : Outside) (it : Compiled)
    → EndsWith Passed passes old.shelf new.shelf old.out new.out given (Ok it) → new.input ≡ old.input → new.err ≡ old.err
    → CompilerPromise given (IsScheduledAs Passed (Some it)) passes old new 0
done_promise given Passed passes old new it (With_compiled ends) input silent = record { due = None; ends = ends; told = (refl, silent); input = input }

abbrev some_fault : ToolFault → Option ToolFault
some_fault why = Some why

-- the fault that is due is told
pub due_promise : (given : Option CompileRequest) (Passed : FlowGraph → FlowGraph → Type 0) (passes : List PassCount) (old new : Outside) (why : ToolFault) (code : ℕ)
    → EndsWith Passed passes old.shelf new.shelf old.out new.out given (Err why) → new.input ≡ old.input
    → Told (Some why) old.err new.err code ⊎ (IsSome (some_fault why) × Told (Some (fault.NoMemory Pcc)) old.err new.err code)
    → CompilerPromise given (IsScheduledAs Passed None) passes old new code
due_promise given Passed passes old new why code (With_fault ends) input (inl told) = record { due = Some why; ends = ends; told = told; input = input }
due_promise given Passed passes old new why code (With_fault ends) input (inr told) = record {
  due = Some (fault.NoMemory Pcc);
  ends = Lacking (ends_lacking (IsScheduledAs Passed None) passes given old.shelf new.shelf old.out new.out why ends);
  told = told.1;
  input = input;
}

pub ruleset compiler_promises = (done_promise, handed_object)

pub ruleset compiler_endings = (
  unread_ends,
  long_ends,
  lacking_ends,
  memory_ends,
  usage_ends,
  text_ends,
  has_program,
  ends_behind,
)
