-- What follows from the compiler's promise for each status, for each command and for each text.
use Rattle.std.specs.Prelude.{◌≡◌, ℕ, ◌≤◌, ◌⊎◌, true, false, List, Option, Some, None}
use Rattle.std.specs.Option.{IsSomeAnd}
use Rattle.pc_word.specs.Count.{Rose}
use Rattle.pc_syntax.specs.Unit.{TranslationUnit}
use Rattle.pc_object.specs.ObjectText.{CodeWithNotes}
use Rattle.pc_outside.specs.Shelf.{ReadFaultOf, WriteFaultOf, ReadKeeps, OnlyFileDiffers}
use Rattle.pc_command.specs.Requests.{CompileRequest, OfFile}
use Rattle.pc_report.specs.Report.{PassCount}
use Rattle.pc_tool.specs.Compilation.{WritesObject, Reports, report_on}
use Rattle.pc_tool.specs.Compiler.{CompilerLacks, CompilerPromise}
use Rattle.pc_source.specs.Files.{HoldsSource, IsTold}
use Rattle.pc_driver.specs.Outside.{Outside, HasErrorFault}
use Rattle.pc_source.specs.Source.{IsSomeSource, IsNoSource}

-- the object at OBJ does what the source does, the report was sent where it is asked for, and nothing was told
pub record HasCompiled (Scheduled : CompileRequest → TranslationUnit → CodeWithNotes → Type 0) (passes : List PassCount) (old new : Outside) (request : CompileRequest) : Type 0 where
  pub unit : TranslationUnit
  pub object : CodeWithNotes
  pub compiled : WritesObject Scheduled request unit object old.shelf new.shelf
  pub reported : Reports request.report (report_on unit object passes) old.out new.out
  pub silent : new.err ≡ old.err

-- the source is a file, of which the shelf had a read fault
pub record HasReadFault (old new : Outside) (request : CompileRequest) : Type 0 where
  pub name : List ℕ
  pub file : request.source ≡ OfFile name
  pub fault : ReadFaultOf old.shelf new.shelf name

-- the shelf had a write fault of OBJ, or the output failed on a report that is asked for
abbrev pub HasWriteFault : Outside → Outside → CompileRequest → Type 0
HasWriteFault old new request =
    WriteFaultOf old.shelf new.shelf request.object ⊎ ((request.report ≡ true) × Rose old.out.faults new.out.faults)

-- no file but OBJ differs, and without a command none does
abbrev pub KeepsOthers : Option CompileRequest → Outside → Outside → Type 0
KeepsOthers None old new = new.shelf.held ≡ old.shelf.held
KeepsOthers (Some request) old new = OnlyFileDiffers old.shelf.held new.shelf.held request.object

-- what follows
pub record CompilerStatuses (given : Option CompileRequest) (Scheduled : CompileRequest → TranslationUnit → CodeWithNotes → Type 0)
    (passes : List PassCount) (old new : Outside) (code : ℕ) : Type 0 where
  -- what each status says
  pub compiled : code ≡ 0 → IsSomeAnd given (HasCompiled Scheduled passes old new)
  pub lacking : code ≡ 1 → CompilerLacks Scheduled passes old.shelf new.shelf old.out new.out given
  pub misused : code ≡ 2 → (given ≡ None) × (new.shelf ≡ old.shelf)
  pub unread : code ≡ 3 → IsSomeAnd given (HasReadFault old new)
  pub refused : code ≡ 4 → IsSomeAnd given (λ request. HoldsSource old.shelf.held request.source IsNoSource)
  pub failed : code ≡ 5 → IsSomeAnd given (HasWriteFault old new) ⊎ HasErrorFault old new
  pub known : code ≤ 5
  -- with 2, 3 and 4 nothing was written and nothing sent to the output
  pub kept : (2 ≤ code) → (code ≤ 4) → ReadKeeps old.shelf new.shelf × (new.out ≡ old.out)
  -- whatever the status, no file but OBJ differs, and without `--report` nothing is sent to the output
  pub others : KeepsOthers given old new
  pub unasked : (request : CompileRequest) → given ≡ Some request → request.report ≡ false → new.out ≡ old.out
  -- what is no command is reported so, but for want of memory and a fault of the error output
  pub usage : given ≡ None → (code ≡ 2) ⊎ (code ≡ 1) ⊎ ((code ≡ 5) × HasErrorFault old new)
  -- a source is compiled, but for want of memory and faults
  pub complete : (request : CompileRequest) (text : List ℕ) →
      given ≡ Some request → IsTold old.shelf.held request.source text → IsSomeSource text →
      (code ≡ 0) ⊎ (code ≡ 1) ⊎ ((code ≡ 3) × HasReadFault old new request)
      ⊎ ((code ≡ 5) × (HasWriteFault old new request ⊎ HasErrorFault old new))
  -- and another text is refused
  pub strict : (request : CompileRequest) (text : List ℕ) →
      given ≡ Some request → IsTold old.shelf.held request.source text → IsNoSource text →
      (code ≡ 4) ⊎ (code ≡ 1) ⊎ ((code ≡ 3) × HasReadFault old new request) ⊎ ((code ≡ 5) × HasErrorFault old new)

-- the law: the promise says all this, whatever is said of schedules
abbrev pub CompilerPromisesSay : (CompileRequest → TranslationUnit → CodeWithNotes → Type 0) → Type 0
CompilerPromisesSay Scheduled =
    (given : Option CompileRequest) (passes : List PassCount) (old new : Outside) (code : ℕ)
    → CompilerPromise given Scheduled passes old new code → CompilerStatuses given Scheduled passes old new code
