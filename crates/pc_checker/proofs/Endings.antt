-- How the checker ends, put together from what its steps leave.
use Rattle.std.proofs.Common.{◌≡◌, ℕ, ◌⊎◌, inl, inr, false, List, Option, Some, None, refl, sym, ap, subst, arith}
use Rattle.std.specs.Prelude.{IfSome}
use Rattle.pc_word.specs.Run.{AgreeOnInputs}
use Rattle.pc_word.proofs.Runs.{AgreeOnInputs-sym, AgreeOnInputs-trans}
use Rattle.pc_syntax.specs.Source.{ResolvedProgram}
use Rattle.pc_syntax.specs.Unit.{TranslationUnit}
use Rattle.pc_flow.specs.FlowGraph.{FlowGraph}
use Rattle.pc_table.specs.Table.{Table}
use Rattle.pc_table.specs.StoredTable.{table_of}
use Rattle.pc_table.specs.RegionRun.{table_run}
use Rattle.pc_machine.specs.MachineRun.{machine_run}
use Rattle.pc_middle.specs.CutProgram.{IsCutProgram}
use Rattle.pc_middle.specs.declared.program.CutProgram.{CutProgram}
use Rattle.pc_middle.proofs.CutPrograms.{regions_agree, regions_never_fault}
use Rattle.pc_object.specs.ObjectText.{CodeWithNotes, object_text}
use Rattle.pc_outside.specs.Shelf.{Files, OnlyFileDiffers, ReadKeeps, Shelved}
use Rattle.pc_command.specs.Requests.{CheckRequest}
use Rattle.pc_cert.specs.declared.certificate.Entry.{Entry}
use Rattle.pc_driver.specs.Files.{HoldsText}
use Rattle.pc_driver.specs.Objects.{HasObjectFault, Holds, HoldsObject, IsTextOf, Loads}
use Rattle.pc_driver.specs.Streams.{Streamed}
use Rattle.pc_driver.proofs.Files.{holds}
use Rattle.pc_source.specs.Files.{HoldsSource}
use Rattle.pc_source.specs.Meaning.{Same, meaning_of}
use Rattle.pc_source.specs.Source.{IsSomeSource, IsSource}
use Rattle.pc_source.proofs.CheckedTexts.{agrees, is_source}
use Rattle.pc_source.proofs.Files.{has_holds}
use Rattle.pc_calls.specs.Inlining.{inlined_unit}
use Rattle.pc_check.specs.Resolution.{resolved}
use Rattle.pc_accepted.specs.Accepted.{Accepts}
use Rattle.pc_accepted.proofs.Shown.{accepted_codes_agree}
use Rattle.pc_checker.specs.Checker.{CheckerEnds, Accepted, Rejected, Misused, Source_unread, Source_refused, Object_unread, Object_refused, Certificate_unread, Certificate_refused}
use Rattle.pc_checker.specs.Checker.{Unwritten, Lacking, CheckerLacks, Early, Writing, CheckerPromise, HasBoth}
use Rattle.pc_checker.specs.Compared.{AreCompared, Compared, IsAccepted, IsGiven, IsHanded}
use Rattle.pc_checker.specs.Outside.{Surroundings}
use Rattle.pc_checker.specs.Told.{Due, Told}
use Rattle.pc_checker.specs.Told as due
use Rattle.pc_checker.specs.declared.answer.Answer.{Answer}
use Rattle.pc_checker.specs.declared.fault.CheckerFault.{CheckerFault}
use Rattle.pc_checker.specs.declared.fault.CheckerFault.TheVariants.{NoMemory, Usage, ReadFile, Source, Object, Certificate, WriteFile}
use Rattle.pc_checker.specs.models.Steps as steps
use Rattle.pc_checker.specs.models.Steps.{CertificateEnds, Was_accepted, Was_rejected, Was_not_read, Was_not_written, Was_lacking, Was_lacking_late}
use Rattle.pc_checker.specs.models.Steps.{IsSourceCut, NoCertificate, NoObject, NoSource, ObjectEnds, Without_object, With_object, due_of}
use Rattle.pc_checker.proofs.Objects.{certificate_behind}
use Rattle.pc_checker.proofs.Shelves.{keeps_behind, read_fault_behind, same_keeps}

-- ---- what an accepted certificate shows

module _ (Passed : FlowGraph → FlowGraph → Type 0) (text : List ℕ) (flow : FlowGraph) (table : Table) (it : steps.IsTextCut Passed text flow table) where
  abbrev read_unit : TranslationUnit
  read_unit = it.is.unit

  -- the text is a source
  source_of : IsSource text read_unit
  source_of = is_source text it.checked it.is it.cut.lowered.few

  -- of whose program these are the regions
  cut_of : IsCutProgram (resolved (inlined_unit read_unit)) Passed flow table
  cut_of = subst (λ (program : ResolvedProgram). IsCutProgram program Passed flow table) (sym it.is.is_resolved) it.cut

  -- and these do what the source means
  regions_of : AgreeOnInputs (meaning_of read_unit) (table_run table flow.initial)
  regions_of = agrees text it.checked it.is (table_run table flow.initial) (regions_agree Passed it.checked flow table it.cut)

  -- so the object does too
  same_of : (object : CodeWithNotes) (entries : List Entry) → Loads object → Accepts table flow.initial object.code entries
      → Same read_unit object.code
  same_of object entries loads accepts =
      AgreeOnInputs-trans (meaning_of read_unit) (table_run table flow.initial) (machine_run object.code) regions_of
      (AgreeOnInputs-sym (machine_run object.code) (table_run table flow.initial)
      (accepted_codes_agree table flow.initial object.code entries it.cut.table_keeps loads.is_object.code accepts
      (regions_never_fault Passed it.checked flow table it.cut)))

-- ---- with a source

module _ (Passed : FlowGraph → FlowGraph → Type 0) (handed : Option CutProgram) (request : CheckRequest) (old mid new : Shelved) (flow : FlowGraph) (table : Table)
    (is : IsSourceCut Passed old.held request.source flow table) (keeps : ReadKeeps old mid)
    (hands : (it : Compared) → it.flow ≡ flow → it.table ≡ table → IsHanded handed it) where
  -- what is held against one another
  abbrev compared : CodeWithNotes → List Entry → Compared
  compared object entries = record { unit = is.is.is.unit; flow = flow; table = table; object = object; entries = entries }

  some_source : HoldsSource old.held request.source IsSomeSource
  some_source = has_holds old.held request.source is.text IsSomeSource is.in_source (is.is.is.unit, source_of Passed is.text flow table is.is)

  text_behind : (P : List ℕ → Type 0) (name : List ℕ) → HoldsText mid.held name P → HoldsText old.held name P
  text_behind P name h = subst (λ (held : Option Files). HoldsText held name P) keeps.held h

  held_behind : (object : CodeWithNotes) → Holds mid.held request.object object → Holds old.held request.object object
  held_behind object h = subst (λ (held : Option Files). Holds held request.object object) keeps.held h

  module _ (object : CodeWithNotes) (held : Holds old.held request.object object) where
    object_held : HoldsObject old.held request.object
    object_held =
        holds old.held request.object (object_text object) (λ bytes. (object : CodeWithNotes) × IsTextOf bytes object) held.text
        (object, record { loads = held.loads; text = refl })

    has_both : HasBoth old request
    has_both = record { source = some_source; object = object_held }

    are_compared : (entries : List Entry) → IsGiven old.held request.make request.certificate entries → AreCompared Passed old.held request (compared object entries)
    are_compared entries given = record {
      text = is.text;
      in_source = is.in_source;
      source = source_of Passed is.text flow table is.is;
      cut = cut_of Passed is.text flow table is.is;
      regions = regions_of Passed is.text flow table is.is;
      in_object = held;
      certificate = given;
    }

    is_accepted : (entries : List Entry) → Accepts table flow.initial object.code entries → IsAccepted (compared object entries)
    is_accepted entries accepts = record {
      accepts = accepts;
      same = same_of Passed is.text flow table is.is object entries held.loads accepts;
    }

    no_certificate : (what : CheckerFault) → request.make ≡ false → NoCertificate request.certificate old new what → ReadKeeps old new
        → CheckerEnds Passed handed old new (Some request) (due.Failure what)
    no_certificate what off steps.Certificate_without_memory later = Lacking (Early later)
    no_certificate what off (steps.Certificate_without_file {word} is failed) later = Certificate_unread off has_both is later failed
    no_certificate what off (steps.Certificate_refused faulty) later = Certificate_refused off has_both later faulty

    certificate_ends : (what : Due) → CertificateEnds request flow.initial table object old new what → CheckerEnds Passed handed old new (Some request) what
    certificate_ends what (Was_accepted {entries} given accepts left) =
        Accepted {it = compared object entries} (are_compared entries given) (is_accepted entries accepts) (hands (compared object entries) refl refl) left
    certificate_ends what (Was_rejected {entries} {rejection} given rejects later) =
        Rejected {it = compared object entries} {rejection = rejection} (are_compared entries given) rejects (hands (compared object entries) refl refl) later
    certificate_ends what (Was_not_read {what = kind} off none later) = no_certificate kind off none later
    certificate_ends what (Was_not_written {entries} {word} on given accepts is differs failed) =
        Unwritten {it = compared object entries} on (are_compared entries given) (is_accepted entries accepts) is differs failed
    certificate_ends what (Was_lacking later) = Lacking (Early later)
    certificate_ends what (Was_lacking_late {entries} on given accepts differs) =
        Lacking (Writing {it = compared object entries} on (are_compared entries given) (is_accepted entries accepts) differs)

  no_object : (what : CheckerFault) → NoObject request.object mid new what → ReadKeeps mid new → CheckerEnds Passed handed old new (Some request) (due.Failure what)
  no_object what steps.Object_without_memory later = Lacking (Early (keeps_behind old mid new keeps later))
  no_object what (steps.Object_without_file {word} named failed) later =
      Object_unread some_source named (keeps_behind old mid new keeps later) (read_fault_behind old mid new keeps word.now failed)
  no_object what (steps.Object_refused {what = kind} faulty) later =
      Object_refused some_source (keeps_behind old mid new keeps later) (text_behind (λ bytes. HasObjectFault bytes kind) request.object faulty)

  object_ends : (what : Due) → ObjectEnds request flow.initial table mid new what → CheckerEnds Passed handed old new (Some request) what
  object_ends what (Without_object {what = kind} none later) = no_object kind none later
  object_ends what (With_object {object} held ends) =
      certificate_ends object (held_behind object held) what (certificate_behind request flow.initial table object old mid new keeps what ends)

-- what came of an object is how the checker ends: with an answer
pub answer_ends : (Passed : FlowGraph → FlowGraph → Type 0) (request : CheckRequest) (old mid new : Shelved) (cut : CutProgram) (answer : Answer)
    → IsSourceCut Passed old.held request.source cut.flow (table_of cut.table) → ReadKeeps old mid
    → answer.cut ≡ cut → ObjectEnds request cut.flow.initial (table_of cut.table) mid new (due_of answer.rejection)
    → CheckerEnds Passed (Some answer.cut) old new (Some request) (due_of answer.rejection)
answer_ends Passed request old mid new cut answer is keeps handed ends =
    subst (λ (cut : CutProgram). CheckerEnds Passed (Some cut) old new (Some request) (due_of answer.rejection)) (sym handed)
    (object_ends Passed (Some cut) request old mid new cut.flow (table_of cut.table) is keeps (λ it flow table. (sym flow, sym table)) (due_of answer.rejection) ends)

-- or with a fault
pub fault_ends : (Passed : FlowGraph → FlowGraph → Type 0) (request : CheckRequest) (old mid new : Shelved) (cut : CutProgram) (what : CheckerFault)
    → IsSourceCut Passed old.held request.source cut.flow (table_of cut.table) → ReadKeeps old mid
    → ObjectEnds request cut.flow.initial (table_of cut.table) mid new (due.Failure what)
    → CheckerEnds Passed None old new (Some request) (due.Failure what)
fault_ends Passed request old mid new cut what is keeps ends =
    object_ends Passed None request old mid new cut.flow (table_of cut.table) is keeps (λ it flow table. tt) (due.Failure what) ends

-- ---- without one

pub no_source_ends : (Passed : FlowGraph → FlowGraph → Type 0) (request : CheckRequest) (old new : Shelved) (what : CheckerFault) → NoSource request.source old new what
    → ReadKeeps old new → CheckerEnds Passed None old new (Some request) (due.Failure what)
no_source_ends Passed request old new what steps.Source_without_memory keeps = Lacking (Early keeps)
no_source_ends Passed request old new what (steps.Source_without_file {word} is failed) keeps = Source_unread is keeps failed
no_source_ends Passed request old new what (steps.Source_without_program faulty) keeps = Source_refused keeps faulty

-- ---- without a command

pub memory_ends : (Passed : FlowGraph → FlowGraph → Type 0) (given : Option CheckRequest) (old : Shelved) → CheckerEnds Passed None old old given (due.Failure NoMemory)
memory_ends Passed given old = Lacking (Early (same_keeps old))

pub usage_ends : (Passed : FlowGraph → FlowGraph → Type 0) (given : Option CheckRequest) (old : Shelved) → given ≡ None
    → CheckerEnds Passed None old old given (due.Failure Usage)
usage_ends Passed given old none = subst (λ (g : Option CheckRequest). CheckerEnds Passed None old old g (due.Failure Usage)) (sym none) (Misused refl)

pub ruleset checker_endings = (answer_ends, fault_ends, no_source_ends, memory_ends, usage_ends)

-- ---- the promise

-- whatever is handed out of an end, nothing or the same may be
handed_again : (one other : Option CutProgram) (it : Compared) → IfSome other (λ cut. one ≡ Some cut) → IsHanded one it → IsHanded other it
handed_again one None it same h = tt
handed_again one (Some cut) it same h = subst (λ (handed : Option CutProgram). IsHanded handed it) same h

rehanded : (Passed : FlowGraph → FlowGraph → Type 0) (one other : Option CutProgram) (old new : Shelved) (given : Option CheckRequest) (what : Due)
    → IfSome other (λ cut. one ≡ Some cut) → CheckerEnds Passed one old new given what → CheckerEnds Passed other old new given what
rehanded Passed one other old new given what same (Accepted {it} compared accepted handed left) =
    Accepted {it = it} compared accepted (handed_again one other it same handed) left
rehanded Passed one other old new given what same (Rejected {it} {rejection} compared rejects handed keeps) =
    Rejected {it = it} {rejection = rejection} compared rejects (handed_again one other it same handed) keeps
rehanded Passed one other old new given what same (Misused is) = Misused is
rehanded Passed one other old new given what same (Source_unread is keeps failed) = Source_unread is keeps failed
rehanded Passed one other old new given what same (Source_refused keeps faulty) = Source_refused keeps faulty
rehanded Passed one other old new given what same (Object_unread source is keeps failed) = Object_unread source is keeps failed
rehanded Passed one other old new given what same (Object_refused source keeps faulty) = Object_refused source keeps faulty
rehanded Passed one other old new given what same (Certificate_unread off both is keeps failed) = Certificate_unread off both is keeps failed
rehanded Passed one other old new given what same (Certificate_refused off both keeps faulty) = Certificate_refused off both keeps faulty
rehanded Passed one other old new given what same (Unwritten {it} on compared accepted is differs failed) =
    Unwritten {it = it} on compared accepted is differs failed
rehanded Passed one other old new given what same (Lacking lacks) = Lacking lacks

some_of : (cut : CutProgram) (handed : Option CutProgram) → IfSome handed (λ it. it ≡ cut) → IfSome handed (λ it. Some cut ≡ Some it)
some_of cut None h = tt
some_of cut (Some it) h = ap (λ (cut : CutProgram). Some cut) (sym h)

-- an answer that was told
pub answered_promise : (given : Option CheckRequest) (Passed : FlowGraph → FlowGraph → Type 0) (old new : Surroundings) (answer : Answer) (handed : Option CutProgram)
    (code : ℕ) → CheckerEnds Passed (Some answer.cut) old.shelf new.shelf given (due_of answer.rejection)
    → Told (due_of answer.rejection) old.err new.err code → IfSome handed (λ cut. cut ≡ answer.cut)
    → CheckerPromise given Passed handed old new code
answered_promise given Passed old new answer handed code ends told same = record {
  what = due_of answer.rejection;
  ends = rehanded Passed (Some answer.cut) handed old.shelf new.shelf given (due_of answer.rejection) (some_of answer.cut handed same) ends;
  told = told;
}

-- where a fault is due, what stands is what may stand where memory ran out
fault_lacks : (Passed : FlowGraph → FlowGraph → Type 0) (handed : Option CutProgram) (given : Option CheckRequest) (old new : Shelved) (what : CheckerFault)
    → CheckerEnds Passed handed old new given (due.Failure what) → CheckerLacks Passed old new given
fault_lacks Passed handed given old new what (Misused same) = Early (subst (λ (now : Shelved). ReadKeeps old now) (sym same) (same_keeps old))
fault_lacks Passed handed given old new what (Source_unread is keeps failed) = Early keeps
fault_lacks Passed handed given old new what (Source_refused keeps faulty) = Early keeps
fault_lacks Passed handed given old new what (Object_unread source is keeps failed) = Early keeps
fault_lacks Passed handed given old new what (Object_refused source keeps faulty) = Early keeps
fault_lacks Passed handed given old new what (Certificate_unread off both is keeps failed) = Early keeps
fault_lacks Passed handed given old new what (Certificate_refused off both keeps faulty) = Early keeps
fault_lacks Passed handed given old new what (Unwritten {it} on compared accepted is differs failed) =
    Writing {it = it} on compared accepted (subst (λ name. OnlyFileDiffers old.held new.held name) (sym is) differs)
fault_lacks Passed handed given old new what (Lacking lacks) = lacks

-- a fault that was told, or that there was no memory for its line
pub fault_promise : (given : Option CheckRequest) (Passed : FlowGraph → FlowGraph → Type 0) (old new : Surroundings) (what : CheckerFault) (code : ℕ)
    → CheckerEnds Passed None old.shelf new.shelf given (due.Failure what)
    → Told (due.Failure what) old.err new.err code ⊎ Told (due.Failure NoMemory) old.err new.err code
    → CheckerPromise given Passed None old new code
fault_promise given Passed old new what code ends (inl told) = record { what = due.Failure what; ends = ends; told = told }
fault_promise given Passed old new what code ends (inr told) = record {
  what = due.Failure NoMemory;
  ends = Lacking (fault_lacks Passed None given old.shelf new.shelf what ends);
  told = told;
}

-- the status of a fault is that of no answer
fault_status : (what : CheckerFault) (old new : Streamed) (code : ℕ) → Told (due.Failure what) old new code → (code ≡ 0) ⊎ (code ≡ 8) → ⊥
fault_status NoMemory old new code (inl whole) e = let is = whole.ended in omega (arith, is, e)
fault_status Usage old new code (inl whole) e = let is = whole.ended in omega (arith, is, e)
fault_status (ReadFile name) old new code (inl whole) e = let is = whole.ended in omega (arith, is, e)
fault_status (Source kind) old new code (inl whole) e = let is = whole.ended in omega (arith, is, e)
fault_status (Object kind) old new code (inl whole) e = let is = whole.ended in omega (arith, is, e)
fault_status (Certificate kind) old new code (inl whole) e = let is = whole.ended in omega (arith, is, e)
fault_status (WriteFile name) old new code (inl whole) e = let is = whole.ended in omega (arith, is, e)
fault_status what old new code (inr part) e = let is = part.ended in omega (arith, is, e)

pub fault_is_no_answer : (what : CheckerFault) (old new : Streamed) (code : ℕ)
    → Told (due.Failure what) old new code ⊎ Told (due.Failure NoMemory) old new code → (code ≡ 0) ⊎ (code ≡ 8) → ⊥
fault_is_no_answer what old new code (inl told) e = fault_status what old new code told e
fault_is_no_answer what old new code (inr told) e = fault_status NoMemory old new code told e
