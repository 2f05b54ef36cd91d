-- What follows from the compiler's promise.
use Rattle.std.proofs.Common.{◌≡◌, ℕ, ◌≤◌, ◌⊎◌, inl, inr, List, false, Option, Some, None, refl, sym, ap, subst, arith}
use Rattle.std.specs.Option.{IsSomeAnd}
use Rattle.pc_syntax.specs.Unit.{TranslationUnit}
use Rattle.pc_object.specs.ObjectText.{CodeWithNotes}
use Rattle.pc_outside.specs.Shelf.{Shelved, ReadKeeps, OnlyFileDiffers}
use Rattle.pc_command.specs.Requests.{CompileRequest}
use Rattle.pc_report.specs.Report.{PassCount}
use Rattle.pc_report.specs.declared.fault.ToolFault.{ToolFault}
use Rattle.pc_tool.specs.Compiler.{CompilerEnds, Done, Misused, Unread, Refused, Unwritten, Unreported, Lacking, CompilerLacks, Early, Writing, Reporting, CompilerPromise}
use Rattle.pc_tool.specs.CompilerLaws.{HasCompiled, HasReadFault, HasWriteFault, KeepsOthers, CompilerStatuses}
use Rattle.pc_tool.specs.Compilation.{WritesObject, Reports, report_on}
use Rattle.pc_driver.specs.Due.{Told}
use Rattle.pc_source.specs.Files.{HoldsSource, IsTold}
use Rattle.pc_driver.specs.Outside.{Outside, HasErrorFault}
use Rattle.pc_source.specs.Source.{IsSomeSource, IsNoSource}
use Rattle.pc_source.specs.SourceFaults.{HasFault}
use Rattle.pc_source.proofs.Files.{source_map, source_told, text_told}
use Rattle.pc_tool.proofs.Shelves.{kept_differs, written_differs, same_keeps}
use Rattle.pc_source.proofs.Sources.{fault_is_none}
use Rattle.pc_driver.proofs.Choices.{either_first, third_first, last_first}
use Rattle.pc_driver.proofs.Statuses.{due_status, status_of}

-- ---- what is due, by how it ended

module _ (Scheduled : CompileRequest → TranslationUnit → CodeWithNotes → Type 0) (passes : List PassCount) (old new : Outside) where
  -- how it ended, with the status of what was due
  abbrev Ends : Option CompileRequest → Option ToolFault → Type 0
  Ends given due = CompilerEnds Scheduled passes old.shelf new.shelf old.out new.out given due

  compiled_of : (given : Option CompileRequest) (due : Option ToolFault) (code : ℕ) → Ends given due → Told due old.err new.err code → due_status due ≡ 0
      → IsSomeAnd given (HasCompiled Scheduled passes old new)
  compiled_of given due code (Done {request} {unit} {object} it sent) told e =
      record { unit = unit; object = object; compiled = it; reported = sent; silent = told.1 }
  compiled_of given due code _ told e = absurd cc

  lacking_of : (given : Option CompileRequest) (due : Option ToolFault) → Ends given due → due_status due ≡ 1 → CompilerLacks Scheduled passes old.shelf new.shelf old.out new.out given
  lacking_of given due (Lacking lacks) e = lacks
  lacking_of given due _ e = absurd cc

  misused_of : (given : Option CompileRequest) (due : Option ToolFault) → Ends given due → due_status due ≡ 2 → (given ≡ None) × (new.shelf ≡ old.shelf)
  misused_of given due (Misused same quiet) e = (refl, same)
  misused_of given due _ e = absurd cc

  unread_of : (given : Option CompileRequest) (due : Option ToolFault) → Ends given due → due_status due ≡ 3 → IsSomeAnd given (HasReadFault old new)
  unread_of given due (Unread {request} {name} is keeps failed same) e = record { name = name.now; file = is; fault = failed }
  unread_of given due _ e = absurd cc

  refused_of : (given : Option CompileRequest) (due : Option ToolFault) → Ends given due → due_status due ≡ 4
      → IsSomeAnd given (λ request. HoldsSource old.shelf.held request.source IsNoSource)
  refused_of given due (Refused {request} {what} keeps source same) e =
      source_map old.shelf.held request.source (λ text. HasFault text what) IsNoSource (λ text. fault_is_none text what) source
  refused_of given due _ e = absurd cc

  failed_of : (given : Option CompileRequest) (due : Option ToolFault) → Ends given due → due_status due ≡ 5 → IsSomeAnd given (HasWriteFault old new)
  failed_of given due (Unwritten {request} {name} is source differs failed same) e = inl (rw is failed)
  failed_of given due (Unreported asked it rose part) e = inr (asked, rose)
  failed_of given due _ e = absurd cc

  known_of : (given : Option CompileRequest) (due : Option ToolFault) → Ends given due → due_status due ≤ 5
  known_of given due (Done it sent) = omega arith
  known_of given due (Misused same quiet) = omega arith
  known_of given due (Unread is keeps failed same) = omega arith
  known_of given due (Refused keeps source same) = omega arith
  known_of given due (Unwritten is source differs failed same) = omega arith
  known_of given due (Unreported asked it rose part) = omega arith
  known_of given due (Lacking lacks) = omega arith

  kept_of : (given : Option CompileRequest) (due : Option ToolFault) → Ends given due → 2 ≤ due_status due → due_status due ≤ 4
      → ReadKeeps old.shelf new.shelf × (new.out ≡ old.out)
  kept_of given due (Done it sent) low high = absurd (omega arith)
  kept_of given due (Misused same quiet) low high = (subst (λ (now : Shelved). ReadKeeps old.shelf now) (sym same) (same_keeps old.shelf), quiet)
  kept_of given due (Unread is keeps failed same) low high = (keeps, same)
  kept_of given due (Refused keeps source same) low high = (keeps, same)
  kept_of given due (Unwritten is source differs failed same) low high = absurd (omega arith)
  kept_of given due (Unreported asked it rose part) low high = absurd (omega arith)
  kept_of given due (Lacking lacks) low high = absurd (omega arith)

  -- ---- whatever the status

  read_keeps_others : (given : Option CompileRequest) → ReadKeeps old.shelf new.shelf → KeepsOthers given old new
  read_keeps_others None keeps = keeps.held
  read_keeps_others (Some request) keeps = kept_differs old.shelf.held new.shelf.held request.object keeps.held

  others_lacking : (given : Option CompileRequest) → CompilerLacks Scheduled passes old.shelf new.shelf old.out new.out given → KeepsOthers given old new
  others_lacking given (Early keeps same) = read_keeps_others given keeps
  others_lacking given (Writing source differs same) = differs
  others_lacking given (Reporting {request} asked it sent) = written_differs old.shelf.held new.shelf.held request.object _ it.written

  others_of : (given : Option CompileRequest) (due : Option ToolFault) → Ends given due → KeepsOthers given old new
  others_of given due (Done {request} it sent) = written_differs old.shelf.held new.shelf.held request.object _ it.written
  others_of given due (Misused same quiet) = ap (λ (shelf : Shelved). shelf.held) same
  others_of given due (Unread {request} is keeps failed same) = read_keeps_others (Some request) keeps
  others_of given due (Refused {request} keeps source same) = read_keeps_others (Some request) keeps
  others_of given due (Unwritten {request} {name} is source differs failed same) =
      subst (λ name. OnlyFileDiffers old.shelf.held new.shelf.held name) (sym is) differs
  others_of given due (Unreported {request} asked it rose part) = written_differs old.shelf.held new.shelf.held request.object _ it.written
  others_of given due (Lacking lacks) = others_lacking given lacks

  -- a report that is asked for is not left out
  unasked_lacking : (request : CompileRequest) → CompilerLacks Scheduled passes old.shelf new.shelf old.out new.out (Some request) → request.report ≡ false → new.out ≡ old.out
  unasked_lacking request (Early keeps same) off = same
  unasked_lacking request (Writing source differs same) off = same
  unasked_lacking request (Reporting asked it sent) off = absurd cc

  unasked_of : (request : CompileRequest) (due : Option ToolFault) → Ends (Some request) due → request.report ≡ false → new.out ≡ old.out
  unasked_of request due (Done {unit} {object} it sent) off = subst (λ asked. Reports asked (report_on unit object passes) old.out new.out) off sent
  unasked_of request due (Unread is keeps failed same) off = same
  unasked_of request due (Refused keeps source same) off = same
  unasked_of request due (Unwritten is source differs failed same) off = same
  unasked_of request due (Unreported asked it rose part) off = absurd cc
  unasked_of request due (Lacking lacks) off = unasked_lacking request lacks off

  -- ---- for each command, and for each text

  usage_of : (due : Option ToolFault) → Ends None due → (due_status due ≡ 2) ⊎ (due_status due ≡ 1)
  usage_of due (Misused same quiet) = inl refl
  usage_of due (Lacking lacks) = inr refl

  complete_of : (request : CompileRequest) (text : List ℕ) (due : Option ToolFault) → Ends (Some request) due
      → IsTold old.shelf.held request.source text → IsSomeSource text
      → (due_status due ≡ 0) ⊎ (due_status due ≡ 1) ⊎ ((due_status due ≡ 3) × HasReadFault old new request) ⊎ ((due_status due ≡ 5) × HasWriteFault old new request)
  complete_of request text due (Done it sent) told source = inl refl
  complete_of request text due (Unread {name} is keeps failed same) told source =
      inr (inr (inl (refl, record { name = name.now; file = is; fault = failed })))
  complete_of request text due (Refused {what} keeps faulty same) told source =
      absurd (fault_is_none text what (source_told old.shelf.held request.source text (λ text. HasFault text what) told faulty) source.0 source.1)
  complete_of request text due (Unwritten {name} is held differs failed same) told source = inr (inr (inr (refl, inl (rw is failed))))
  complete_of request text due (Unreported asked it rose part) told source = inr (inr (inr (refl, inr (asked, rose))))
  complete_of request text due (Lacking lacks) told source = inr (inl refl)

  -- the source of an object that was written, of a text that is told
  compiled_source : (request : CompileRequest) (text : List ℕ) (unit : TranslationUnit) (object : CodeWithNotes) → IsTold old.shelf.held request.source text
      → WritesObject Scheduled request unit object old.shelf new.shelf → IsSomeSource text
  compiled_source request text unit object told it =
      subst IsSomeSource (text_told old.shelf.held request.source text it.text told it.in_source) (unit, it.translates.source)

  strict_of : (request : CompileRequest) (text : List ℕ) (due : Option ToolFault) → Ends (Some request) due
      → IsTold old.shelf.held request.source text → IsNoSource text
      → (due_status due ≡ 4) ⊎ (due_status due ≡ 1) ⊎ ((due_status due ≡ 3) × HasReadFault old new request)
  strict_of request text due (Done {unit} {object} it sent) told none =
      let source = compiled_source request text unit object told it in absurd (none source.0 source.1)
  strict_of request text due (Unread {name} is keeps failed same) told none = inr (inr (refl, record { name = name.now; file = is; fault = failed }))
  strict_of request text due (Refused keeps faulty same) told none = inl refl
  strict_of request text due (Unwritten is held differs failed same) told none =
      let source = source_told old.shelf.held request.source text IsSomeSource told held in absurd (none source.0 source.1)
  strict_of request text due (Unreported {unit} {object} asked it rose part) told none =
      let source = compiled_source request text unit object told it in absurd (none source.0 source.1)
  strict_of request text due (Lacking lacks) told none = inr (inl refl)

  -- ---- of the status itself, which is that of what was due, or 5 for a fault of the error output

  module _ (given : Option CompileRequest) (due : Option ToolFault) (code : ℕ) (ends : Ends given due) (told : Told due old.err new.err code) where
    by_status : (P : ℕ → Type 0) → P (due_status due) → ((code ≡ 5) × HasErrorFault old new → P code) → P code
    by_status P due_says broken = elim (status_of due old.err new.err code told) [
      | inl same ↦ subst P (sym same) due_says
      | inr part ↦ broken part
    ]

    pub statuses : CompilerStatuses given Scheduled passes old new code
    statuses = record {
      compiled = by_status (λ code. code ≡ 0 → IsSomeAnd given (HasCompiled Scheduled passes old new)) (λ e. compiled_of given due code ends told e) (λ part e. absurd (omega (arith, part.0, e)));
      lacking = by_status (λ code. code ≡ 1 → CompilerLacks Scheduled passes old.shelf new.shelf old.out new.out given) (lacking_of given due ends) (λ part e. absurd (omega (arith, part.0, e)));
      misused = by_status (λ code. code ≡ 2 → (given ≡ None) × (new.shelf ≡ old.shelf)) (misused_of given due ends) (λ part e. absurd (omega (arith, part.0, e)));
      unread = by_status (λ code. code ≡ 3 → IsSomeAnd given (HasReadFault old new)) (unread_of given due ends) (λ part e. absurd (omega (arith, part.0, e)));
      refused = by_status (λ code. code ≡ 4 → IsSomeAnd given (λ request. HoldsSource old.shelf.held request.source IsNoSource))
          (refused_of given due ends) (λ part e. absurd (omega (arith, part.0, e)));
      failed = by_status (λ code. code ≡ 5 → IsSomeAnd given (HasWriteFault old new) ⊎ HasErrorFault old new) (λ e. inl (failed_of given due ends e)) (λ part e. inr part.1);
      known = by_status (λ code. code ≤ 5) (known_of given due ends) (λ part. omega (arith, part.0));
      kept = by_status (λ code. (2 ≤ code) → (code ≤ 4) → ReadKeeps old.shelf new.shelf × (new.out ≡ old.out))
          (kept_of given due ends) (λ part low high. absurd (omega (arith, part.0, high)));
      others = others_of given due ends;
      unasked = λ request is off. unasked_of request due (subst (λ (g : Option CompileRequest). Ends g due) is ends) off;
      usage = λ none. by_status (λ code. (code ≡ 2) ⊎ (code ≡ 1) ⊎ ((code ≡ 5) × HasErrorFault old new))
          (either_first (usage_of due (subst (λ (g : Option CompileRequest). Ends g due) none ends))) (λ part. inr (inr part));
      complete = λ request text is held source. by_status
          (λ code. (code ≡ 0) ⊎ (code ≡ 1) ⊎ ((code ≡ 3) × HasReadFault old new request) ⊎ ((code ≡ 5) × (HasWriteFault old new request ⊎ HasErrorFault old new)))
          (last_first (complete_of request text due (subst (λ (g : Option CompileRequest). Ends g due) is ends) held source)) (λ part. inr (inr (inr (part.0, inr part.1))));
      strict = λ request text is held none. by_status
          (λ code. (code ≡ 4) ⊎ (code ≡ 1) ⊎ ((code ≡ 3) × HasReadFault old new request) ⊎ ((code ≡ 5) × HasErrorFault old new))
          (third_first (strict_of request text due (subst (λ (g : Option CompileRequest). Ends g due) is ends) held none)) (λ part. inr (inr (inr part)));
    }

-- the promise says all this
pub statuses_of : (given : Option CompileRequest) (Scheduled : CompileRequest → TranslationUnit → CodeWithNotes → Type 0)
    (passes : List PassCount) (old new : Outside) (code : ℕ) → CompilerPromise given Scheduled passes old new code
    → CompilerStatuses given Scheduled passes old new code
statuses_of given Scheduled passes old new code promise = statuses Scheduled passes old new given promise.due code promise.ends promise.told
