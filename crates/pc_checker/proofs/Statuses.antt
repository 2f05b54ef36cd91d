-- What follows from the checker's promise.
use Rattle.std.proofs.Common.{◌≡◌, ℕ, ℤ, ◌≤◌, ◌⊎◌, inl, inr, Bool, true, false, List, length, Option, Some, None, refl, sym, ◌∙◌, ap, subst, arith}
use Rattle.std.specs.Prelude.{Ok, Err}
use Rattle.std.specs.Option.{IsSomeAnd}
use Rattle.pc_word.specs.Count.{Rose}
use Rattle.pc_word.specs.MachineLimits.{most_object}
use Rattle.pc_word.specs.Run.{AgreeOnInputs}
use Rattle.pc_check.proofs.ResolvedSizes.{size-resolved}
use Rattle.pc_calls.specs.Inlining.{inlined_unit}
use Rattle.pc_flow.specs.FlowGraph.{FlowGraph}
use Rattle.pc_table.specs.Table.{Table}
use Rattle.pc_table.specs.RegionRun.{table_run}
use Rattle.pc_table.specs.StoredTable.{table_of}
use Rattle.pc_machine.specs.MachineCode.{RowCode}
use Rattle.pc_middle.specs.declared.program.CutProgram.{CutProgram}
use Rattle.pc_object.specs.ObjectText.{CodeWithNotes, object_text}
use Rattle.pc_object.specs.Reading.{object_reading}
use Rattle.pc_object.proofs.ReadingLaws.{reads_text as object_again}
use Rattle.pc_outside.specs.Shelf.{OnlyFileDiffers, ReadFaultOf, ReadKeeps, Shelved, WriteFaultOf}
use Rattle.pc_command.specs.Requests.{CheckRequest, OfFile}
use Rattle.pc_cert.specs.declared.certificate.Entry.{Entry}
use Rattle.pc_cert.specs.CertificateText.{certificate_text}
use Rattle.pc_cert.specs.Reading.{certificate_reading}
use Rattle.pc_cert.proofs.ReadingLaws.{one_certificate, reads_text}
use Rattle.pc_report.specs.declared.fault.ObjectFault.{ObjectFault}
use Rattle.pc_report.specs.declared.fault.SourceFault.{SourceFault}
use Rattle.pc_driver.specs.Files.{HoldsText}
use Rattle.pc_driver.specs.Objects.{HasObjectFault, Holds, HoldsObject, IsNoObject, IsTextOf, Loads}
use Rattle.pc_driver.specs.Streams.{Streamed}
use Rattle.pc_driver.specs.ToldFile.{IsToldFile}
use Rattle.pc_driver.proofs.Choices.{either_first}
use Rattle.pc_driver.proofs.Files.{held_map, told_holds, told_text}
use Rattle.pc_driver.proofs.Objects.{faulty_object}
use Rattle.pc_driver.proofs.Results.{ok_same}
use Rattle.pc_source.specs.Files.{HoldsSource, IsTold}
use Rattle.pc_source.specs.Meaning.{meaning_of}
use Rattle.pc_source.specs.Source.{IsNoSource, IsSomeSource, IsSource}
use Rattle.pc_source.specs.SourceFaults.{HasFault}
use Rattle.pc_source.proofs.Files.{source_map, source_told, text_told}
use Rattle.pc_source.proofs.Sources.{fault_is_none}
use Rattle.pc_accepted.specs.Accepted.{Accepts, Rejects, setting_of}
use Rattle.pc_accepted.specs.declared.flaw.Rejection.{Rejection}
use Rattle.pc_accepted.proofs.Once.{one_answer}
use Rattle.pc_checker.specs.Certificates.{Long_certificate, Unread_certificate, HoldsCertificate, IsNoCertificate}
use Rattle.pc_checker.specs.Certificates as certificates
use Rattle.pc_checker.specs.Checker.{CheckerEnds, Accepted, Rejected, Misused, Source_unread, Source_refused, Object_unread, Object_refused, Certificate_unread, Certificate_refused}
use Rattle.pc_checker.specs.Checker.{Unwritten, Lacking, CheckerLacks, Early, Writing, CheckerPromise, HasBoth, LeavesCertificate}
use Rattle.pc_checker.specs.Compared.{AreCompared, Compared, IsAccepted, IsGiven, IsHanded}
use Rattle.pc_checker.specs.Laws.{AcceptedObjectsMeanTheirSources, AreTold, CheckerStatuses, FailsBefore, FailsOtherwise, HandedRegionsMeanTheirSource, HasAccepted, HasErrorFault}
use Rattle.pc_checker.specs.Laws.{HasCertificateReadFault, HasObjectReadFault, HasReadFault, HasRefused, HasRejected, HasSourceReadFault, HasWriteFault}
use Rattle.pc_checker.specs.Laws.{IsCertificateGiven, IsCertificateTold, IsDecided, KeepsFiles, KeepsOthers, MeansItsSource, MeansTheText}
use Rattle.pc_checker.specs.Outside.{Surroundings}
use Rattle.pc_checker.specs.Told.{Due, Told, checker_status}
use Rattle.pc_checker.specs.Told as due
use Rattle.pc_checker.specs.declared.fault.CertificateFault.{CertificateFault}
use Rattle.pc_checker.specs.declared.fault.CheckerFault.{CheckerFault}
use Rattle.pc_checker.specs.declared.fault.CheckerFault.TheVariants.{NoMemory, Usage, ReadFile, Source, Object, Certificate, WriteFile}
use Rattle.pc_checker.proofs.Shelves.{kept_differs, same_keeps, written_differs}

-- ---- bytes

-- bytes with a fault are no certificate
faulty_certificate : (bytes : List ℕ) (what : CertificateFault) → certificates.HasCertificateFault bytes what → IsNoCertificate bytes
faulty_certificate bytes what (Long_certificate many) entries is =
    let few : length (certificate_text entries) ≤ most_object = is.written.certificate.few_bytes in
    let same : length bytes ≡ length (certificate_text entries) = ap length is.text in
    omega arith
faulty_certificate bytes what (Unread_certificate {why} few first told) entries is =
    let ok : certificate_reading bytes ≡ Ok entries = ap certificate_reading is.text ∙ reads_text entries is.written.certificate is.written.numbers in
    let err : certificate_reading bytes ≡ Err why = first in
    cc

-- bytes that are an object are not none
object_is_some : (bytes : List ℕ) → IsNoObject bytes → (object : CodeWithNotes) × IsTextOf bytes object → ⊥
object_is_some bytes none (object, is) = none object is

-- an object has one text, and a text one object
one_object : (a b : CodeWithNotes) → Loads a → Loads b → object_text a ≡ object_text b → a ≡ b
one_object a b loads other same =
    ok_same a b (object_reading (object_text a)) (object_again a loads.is_object loads.has_words)
    (ap object_reading same ∙ object_again b other.is_object other.has_words)

-- what holds of what is compared holds of what is the same
moved : (P : Table → List (List ℤ) → RowCode → List Entry → Type 0) (it : Compared) (table : Table) (flow : FlowGraph) (object : CodeWithNotes) (entries : List Entry)
    → flow ≡ it.flow → table ≡ it.table → it.object ≡ object → it.entries ≡ entries
    → P it.table it.flow.initial it.object.code it.entries → P table flow.initial object.code entries
moved P it table flow object entries same_flow same_table same_object same_entries p =
    subst (λ (table : Table). P table flow.initial object.code entries) (sym same_table)
    (subst (λ (flow : FlowGraph). P it.table flow.initial object.code entries) (sym same_flow)
    (subst (λ (object : CodeWithNotes). P it.table it.flow.initial object.code entries) same_object
    (subst (λ (entries : List Entry). P it.table it.flow.initial it.object.code entries) same_entries p)))

-- no certificate is both accepted and rejected
both_ways : (table : Table) (words : List (List ℤ)) (code : RowCode) (entries : List Entry) → Accepts table words code entries → (rejection : Rejection)
    → Rejects table words code entries rejection → ⊥
both_ways table words code entries (arrivals, accepts) rejection rejects =
    let same = one_answer (setting_of table code entries) words (Ok arrivals) (Err rejection) accepts rejects in
    cc

-- ---- the status

-- that of what is due
abbrev due_status : Due → ℕ
due_status due.Success = 0
due_status (due.Failure what) = checker_status what
due_status (due.Rejection text) = 8

-- the status is that of what is due, or 5 where the error output failed
status_of : (what : Due) (old new : Streamed) (code : ℕ) → Told what old new code → (code ≡ due_status what) ⊎ ((code ≡ 5) × Rose old.faults new.faults)
status_of due.Success old new code told = inl told.0
status_of (due.Failure what) old new code (inl whole) = inl whole.ended
status_of (due.Failure what) old new code (inr part) = inr (part.ended, part.failed)
status_of (due.Rejection text) old new code (inl whole) = inl whole.ended
status_of (due.Rejection text) old new code (inr part) = inr (part.ended, part.failed)

-- a fault is not told with 8
never_eight : (what : CheckerFault) → checker_status what ≡ 8 → ⊥
never_eight NoMemory e = omega (arith, e)
never_eight Usage e = omega (arith, e)
never_eight (ReadFile name) e = omega (arith, e)
never_eight (Source kind) e = omega (arith, e)
never_eight (Object kind) e = omega (arith, e)
never_eight (Certificate kind) e = omega (arith, e)
never_eight (WriteFile name) e = omega (arith, e)

not_eight : (what : CheckerFault) (old new : Streamed) (code : ℕ) → Told (due.Failure what) old new code → code ≡ 8 → ⊥
not_eight what old new code (inl whole) e = never_eight what (sym whole.ended ∙ e)
not_eight what old new code (inr part) e = let is = part.ended in omega (arith, is, e)

-- ---- what is due, by how it ended

module _ (Passed : FlowGraph → FlowGraph → Type 0) (handed : Option CutProgram) (old new : Surroundings) where
  -- how it ended, with what was due
  abbrev Ends : Option CheckRequest → Due → Type 0
  Ends given what = CheckerEnds Passed handed old.shelf new.shelf given what

  -- faults of what was to be read or written next

  source_fault : (request : CheckRequest) (name : List ℕ) → request.source ≡ OfFile name → ReadFaultOf old.shelf new.shelf name → HasSourceReadFault old new request
  source_fault request name is failed = record { name = name; file = is; fault = failed }

  object_fault : (request : CheckRequest) (name : List ℕ) → HoldsSource old.shelf.held request.source IsSomeSource → request.object ≡ name
      → ReadFaultOf old.shelf new.shelf name → HasObjectReadFault old new request
  object_fault request name source is failed = record { source = source; fault = subst (λ name. ReadFaultOf old.shelf new.shelf name) (sym is) failed }

  certificate_fault : (request : CheckRequest) (name : List ℕ) → request.make ≡ false → HasBoth old.shelf request → request.certificate ≡ name
      → ReadFaultOf old.shelf new.shelf name → HasCertificateReadFault old new request
  certificate_fault request name off both is failed =
      record { read = off; both = both; fault = subst (λ name. ReadFaultOf old.shelf new.shelf name) (sym is) failed }

  write_fault : (request : CheckRequest) (name : List ℕ) (it : Compared) → request.make ≡ true → AreCompared Passed old.shelf.held request it → IsAccepted it
      → request.certificate ≡ name → WriteFaultOf old.shelf new.shelf name → HasWriteFault Passed old new request
  write_fault request name it on compared accepted is failed = record {
    made = on;
    it = it;
    compared = compared;
    accepted = accepted;
    fault = subst (λ name. WriteFaultOf old.shelf new.shelf name) (sym is) failed;
  }

  accepted_of : (given : Option CheckRequest) (what : Due) (code : ℕ) → Told what old.err new.err code → Ends given what → due_status what ≡ 0
      → IsSomeAnd given (HasAccepted Passed handed old new)
  accepted_of given what code told (Accepted {it} compared accepted hands left) e =
      record { it = it; compared = compared; accepted = accepted; handed_out = hands; left = left; silent = told.1 }
  accepted_of given what code told _ e = absurd cc

  lacking_of : (given : Option CheckRequest) (what : Due) → Ends given what → due_status what ≡ 1 → CheckerLacks Passed old.shelf new.shelf given
  lacking_of given what (Lacking lacks) e = lacks
  lacking_of given what _ e = absurd cc

  misused_of : (given : Option CheckRequest) (what : Due) → Ends given what → due_status what ≡ 2 → (given ≡ None) × (new.shelf ≡ old.shelf)
  misused_of given what (Misused same) e = (refl, same)
  misused_of given what _ e = absurd cc

  unread_of : (given : Option CheckRequest) (what : Due) → Ends given what → due_status what ≡ 3 → IsSomeAnd given (HasReadFault old new)
  unread_of given what (Source_unread {request} {name} is keeps failed) e = inl (source_fault request name.now is failed)
  unread_of given what (Object_unread {request} {name} source is keeps failed) e = inr (inl (object_fault request name.now source is failed))
  unread_of given what (Certificate_unread {request} {name} off both is keeps failed) e =
      inr (inr (certificate_fault request name.now off both is failed))
  unread_of given what _ e = absurd cc

  refused_of : (given : Option CheckRequest) (what : Due) → Ends given what → due_status what ≡ 4 → IsSomeAnd given (HasRefused old)
  refused_of given what (Source_refused {request} {what = kind} keeps faulty) e =
      inl (source_map old.shelf.held request.source (λ text. HasFault text kind) IsNoSource (λ text. fault_is_none text kind) faulty)
  refused_of given what (Object_refused {request} {what = kind} source keeps faulty) e =
      inr (inl (source, held_map old.shelf.held request.object (λ bytes. HasObjectFault bytes kind) IsNoObject (λ bytes. faulty_object bytes kind) faulty))
  refused_of given what (Certificate_refused {request} {what = kind} off both keeps faulty) e =
      inr (inr (
        off,
        both,
        held_map old.shelf.held request.certificate (λ bytes. certificates.HasCertificateFault bytes kind) IsNoCertificate (λ bytes. faulty_certificate bytes kind) faulty,
      ))
  refused_of given what _ e = absurd cc

  failed_of : (given : Option CheckRequest) (what : Due) → Ends given what → due_status what ≡ 5 → IsSomeAnd given (HasWriteFault Passed old new)
  failed_of given what (Unwritten {request} {it} {name} on compared accepted is differs failed) e = write_fault request name.now it on compared accepted is failed
  failed_of given what _ e = absurd cc

  known_of : (given : Option CheckRequest) (what : Due) → Ends given what → (due_status what ≤ 5) ⊎ (due_status what ≡ 8)
  known_of given what (Accepted compared accepted hands left) = inl (omega arith)
  known_of given what (Rejected compared rejects hands keeps) = inr refl
  known_of given what (Misused same) = inl (omega arith)
  known_of given what (Source_unread is keeps failed) = inl (omega arith)
  known_of given what (Source_refused keeps faulty) = inl (omega arith)
  known_of given what (Object_unread source is keeps failed) = inl (omega arith)
  known_of given what (Object_refused source keeps faulty) = inl (omega arith)
  known_of given what (Certificate_unread off both is keeps failed) = inl (omega arith)
  known_of given what (Certificate_refused off both keeps faulty) = inl (omega arith)
  known_of given what (Unwritten on compared accepted is differs failed) = inl (omega arith)
  known_of given what (Lacking lacks) = inl (omega arith)

  kept_of : (given : Option CheckRequest) (what : Due) → Ends given what → ((2 ≤ due_status what) × (due_status what ≤ 4)) ⊎ (due_status what ≡ 8)
      → ReadKeeps old.shelf new.shelf
  kept_of given what (Accepted compared accepted hands left) e = absurd (omega (arith, e))
  kept_of given what (Rejected compared rejects hands keeps) e = keeps
  kept_of given what (Misused same) e = subst (λ (now : Shelved). ReadKeeps old.shelf now) (sym same) (same_keeps old.shelf)
  kept_of given what (Source_unread is keeps failed) e = keeps
  kept_of given what (Source_refused keeps faulty) e = keeps
  kept_of given what (Object_unread source is keeps failed) e = keeps
  kept_of given what (Object_refused source keeps faulty) e = keeps
  kept_of given what (Certificate_unread off both is keeps failed) e = keeps
  kept_of given what (Certificate_refused off both keeps faulty) e = keeps
  kept_of given what (Unwritten on compared accepted is differs failed) e = absurd (omega (arith, e))
  kept_of given what (Lacking lacks) e = absurd (omega (arith, e))

  -- ---- whatever the status

  read_keeps_files : (make : Bool) (name : List ℕ) → ReadKeeps old.shelf new.shelf → KeepsFiles make old new name
  read_keeps_files false name keeps = keeps.held
  read_keeps_files true name keeps = kept_differs old.shelf.held new.shelf.held name keeps.held

  read_keeps_others : (given : Option CheckRequest) → ReadKeeps old.shelf new.shelf → KeepsOthers given old new
  read_keeps_others None keeps = keeps.held
  read_keeps_others (Some request) keeps = read_keeps_files request.make request.certificate keeps

  made_keeps_files : (make : Bool) (name : List ℕ) → make ≡ true → OnlyFileDiffers old.shelf.held new.shelf.held name → KeepsFiles make old new name
  made_keeps_files make name on differs = subst (λ make. KeepsFiles make old new name) (sym on) differs

  left_keeps_files : (make : Bool) (name : List ℕ) (entries : List Entry) → LeavesCertificate make old.shelf new.shelf name entries → KeepsFiles make old new name
  left_keeps_files false name entries keeps = keeps.held
  left_keeps_files true name entries (written, here) = written_differs old.shelf.held new.shelf.held name (certificate_text entries) here

  others_lacking : (given : Option CheckRequest) → CheckerLacks Passed old.shelf new.shelf given → KeepsOthers given old new
  others_lacking given (Early keeps) = read_keeps_others given keeps
  others_lacking given (Writing {request} on compared accepted differs) = made_keeps_files request.make request.certificate on differs

  others_of : (given : Option CheckRequest) (what : Due) → Ends given what → KeepsOthers given old new
  others_of given what (Accepted {request} {it} compared accepted hands left) = left_keeps_files request.make request.certificate it.entries left
  others_of given what (Rejected {request} compared rejects hands keeps) = read_keeps_others (Some request) keeps
  others_of given what (Misused same) = ap (λ (shelf : Shelved). shelf.held) same
  others_of given what (Source_unread {request} is keeps failed) = read_keeps_others (Some request) keeps
  others_of given what (Source_refused {request} keeps faulty) = read_keeps_others (Some request) keeps
  others_of given what (Object_unread {request} source is keeps failed) = read_keeps_others (Some request) keeps
  others_of given what (Object_refused {request} source keeps faulty) = read_keeps_others (Some request) keeps
  others_of given what (Certificate_unread {request} off both is keeps failed) = read_keeps_others (Some request) keeps
  others_of given what (Certificate_refused {request} off both keeps faulty) = read_keeps_others (Some request) keeps
  others_of given what (Unwritten {request} on compared accepted is differs failed) =
      made_keeps_files request.make request.certificate on (subst (λ name. OnlyFileDiffers old.shelf.held new.shelf.held name) (sym is) differs)
  others_of given what (Lacking lacks) = others_lacking given lacks

  -- ---- for each command, and for each text

  usage_of : (what : Due) → Ends None what → (due_status what ≡ 2) ⊎ (due_status what ≡ 1)
  usage_of what (Misused same) = inl refl
  usage_of what (Lacking lacks) = inr refl

  -- an end that is neither an answer nor a refusal
  abbrev Otherwise : CheckRequest → ℕ → Type 0
  Otherwise request code = FailsOtherwise Passed old new request code

  abbrev Before : (Unread : Type 0) → ℕ → Type 0
  Before Unread code = FailsBefore Unread old new code

  module _ (request : CheckRequest) (text : List ℕ) (told : IsTold old.shelf.held request.source text) where
    -- what is held of a source that is told
    of_text : (P : List ℕ → Type 0) → HoldsSource old.shelf.held request.source P → P text
    of_text P h = source_told old.shelf.held request.source text P told h

    none_of_text : IsNoSource text → HoldsSource old.shelf.held request.source IsSomeSource → ⊥
    none_of_text none h = let some = of_text IsSomeSource h in none some.0 some.1

    none_compared : IsNoSource text → (it : Compared) → AreCompared Passed old.shelf.held request it → ⊥
    none_compared none it compared =
        none it.unit (subst (λ text. IsSource text it.unit) (text_told old.shelf.held request.source text compared.text told compared.in_source) compared.source)

    strict_source_of : (what : Due) → IsNoSource text → Ends (Some request) what
        → (due_status what ≡ 4) ⊎ Before (HasSourceReadFault old new request) (due_status what)
    strict_source_of what none (Accepted {it} compared accepted hands left) = absurd (none_compared none it compared)
    strict_source_of what none (Rejected {it} compared rejects hands keeps) = absurd (none_compared none it compared)
    strict_source_of what none (Source_unread {name} is keeps failed) = inr (inr (inl (refl, source_fault request name.now is failed)))
    strict_source_of what none (Source_refused keeps faulty) = inl refl
    strict_source_of what none (Object_unread source is keeps failed) = absurd (none_of_text none source)
    strict_source_of what none (Object_refused source keeps faulty) = inl refl
    strict_source_of what none (Certificate_unread off both is keeps failed) = absurd (none_of_text none both.source)
    strict_source_of what none (Certificate_refused off both keeps faulty) = inl refl
    strict_source_of what none (Unwritten {it} on compared accepted is differs failed) = absurd (none_compared none it compared)
    strict_source_of what none (Lacking lacks) = inr (inl refl)

  module _ (request : CheckRequest) (text bytes : List ℕ) (told : AreTold old request text bytes) where
    -- what is held of an object that is told
    of_bytes : (P : List ℕ → Type 0) → HoldsText old.shelf.held request.object P → P bytes
    of_bytes P h = told_holds old.shelf.held told.object.files request.object bytes P told.object.held told.object.here h

    none_of_bytes : IsNoObject bytes → HoldsObject old.shelf.held request.object → ⊥
    none_of_bytes none h = object_is_some bytes none (of_bytes (λ bytes. (object : CodeWithNotes) × IsTextOf bytes object) h)

    -- the object that is held is the one that is told
    object_told : (object : CodeWithNotes) → Holds old.shelf.held request.object object → IsTextOf bytes object
    object_told object h = record {
      loads = h.loads;
      text = sym (told_text old.shelf.held told.object.files request.object bytes (object_text object) told.object.held told.object.here h.text);
    }

    none_held : IsNoObject bytes → (it : Compared) → AreCompared Passed old.shelf.held request it → ⊥
    none_held none it compared = none it.object (object_told it.object compared.in_object)

    faultless_text : (kind : SourceFault) → IsSomeSource text → HoldsSource old.shelf.held request.source (λ text. HasFault text kind) → ⊥
    faultless_text kind some faulty =
        fault_is_none text kind (of_text request text told.source (λ text. HasFault text kind) faulty) some.0 some.1

    faultless_bytes : (kind : ObjectFault) (object : CodeWithNotes) → IsTextOf bytes object → HoldsText old.shelf.held request.object (λ bytes. HasObjectFault bytes kind) → ⊥
    faultless_bytes kind object is faulty = faulty_object bytes kind (of_bytes (λ bytes. HasObjectFault bytes kind) faulty) object is

    strict_object_of : (what : Due) → IsSomeSource text → IsNoObject bytes → Ends (Some request) what
        → (due_status what ≡ 4) ⊎ Before (HasSourceReadFault old new request ⊎ HasObjectReadFault old new request) (due_status what)
    strict_object_of what some none (Accepted {it} compared accepted hands left) = absurd (none_held none it compared)
    strict_object_of what some none (Rejected {it} compared rejects hands keeps) = absurd (none_held none it compared)
    strict_object_of what some none (Source_unread {name} is keeps failed) = inr (inr (inl (refl, inl (source_fault request name.now is failed))))
    strict_object_of what some none (Source_refused keeps faulty) = inl refl
    strict_object_of what some none (Object_unread {name} source is keeps failed) =
        inr (inr (inl (refl, inr (object_fault request name.now source is failed))))
    strict_object_of what some none (Object_refused source keeps faulty) = inl refl
    strict_object_of what some none (Certificate_unread off both is keeps failed) = absurd (none_of_bytes none both.object)
    strict_object_of what some none (Certificate_refused off both keeps faulty) = inl refl
    strict_object_of what some none (Unwritten {it} on compared accepted is differs failed) = absurd (none_held none it compared)
    strict_object_of what some none (Lacking lacks) = inr (inl refl)

    module _ (certificate : List ℕ) where
      -- what is held of a certificate that is told
      of_certificate : IsToldFile old.shelf.held request.certificate certificate → (P : List ℕ → Type 0) → HoldsText old.shelf.held request.certificate P → P certificate
      of_certificate here P h = told_holds old.shelf.held here.files request.certificate certificate P here.held here.here h

      none_given : request.make ≡ false → IsToldFile old.shelf.held request.certificate certificate → IsNoCertificate certificate → (it : Compared)
          → AreCompared Passed old.shelf.held request it → ⊥
      none_given off here none it compared =
          let held = subst (λ make. IsGiven old.shelf.held make request.certificate it.entries) off compared.certificate in
          none it.entries (record {
            written = held.written;
            text = sym (told_text old.shelf.held here.files request.certificate certificate (certificate_text it.entries) here.held here.here held.text);
          })

      strict_certificate_of : (what : Due) → request.make ≡ false → IsToldFile old.shelf.held request.certificate certificate → IsNoCertificate certificate
          → Ends (Some request) what → (due_status what ≡ 4) ⊎ Before (HasReadFault old new request) (due_status what)
      strict_certificate_of what off here none (Accepted {it} compared accepted hands left) = absurd (none_given off here none it compared)
      strict_certificate_of what off here none (Rejected {it} compared rejects hands keeps) = absurd (none_given off here none it compared)
      strict_certificate_of what off here none (Source_unread {name} is keeps failed) =
          inr (inr (inl (refl, inl (source_fault request name.now is failed))))
      strict_certificate_of what off here none (Source_refused keeps faulty) = inl refl
      strict_certificate_of what off here none (Object_unread {name} source is keeps failed) =
          inr (inr (inl (refl, inr (inl (object_fault request name.now source is failed)))))
      strict_certificate_of what off here none (Object_refused source keeps faulty) = inl refl
      strict_certificate_of what off here none (Certificate_unread {name} off' both is keeps failed) =
          inr (inr (inl (refl, inr (inr (certificate_fault request name.now off both is failed)))))
      strict_certificate_of what off here none (Certificate_refused off' both keeps faulty) = inl refl
      strict_certificate_of what off here none (Unwritten {it} on compared accepted is differs failed) = absurd (none_given off here none it compared)
      strict_certificate_of what off here none (Lacking lacks) = inr (inl refl)

      -- a certificate that is given has no fault
      faultless_certificate : (make : Bool) (kind : CertificateFault) → make ≡ false → IsCertificateTold make old request.certificate certificate
          → IsCertificateGiven make certificate → HoldsText old.shelf.held request.certificate (λ bytes. certificates.HasCertificateFault bytes kind) → ⊥
      faultless_certificate true kind off here given faulty = absurd cc
      faultless_certificate false kind off here (entries, is) faulty =
          faulty_certificate certificate kind (of_certificate here (λ bytes. certificates.HasCertificateFault bytes kind) faulty) entries is

      complete_of : (what : Due) (object : CodeWithNotes) → IsCertificateTold request.make old request.certificate certificate → IsSomeSource text → IsTextOf bytes object
          → IsCertificateGiven request.make certificate → Ends (Some request) what
          → (due_status what ≡ 0) ⊎ (due_status what ≡ 8) ⊎ Otherwise request (due_status what)
      complete_of what object here some is given (Accepted compared accepted hands left) = inl refl
      complete_of what object here some is given (Rejected compared rejects hands keeps) = inr (inl refl)
      complete_of what object here some is given (Source_unread {name} named keeps failed) =
          inr (inr (inr (inl (refl, inl (source_fault request name.now named failed)))))
      complete_of what object here some is given (Source_refused {what = kind} keeps faulty) = absurd (faultless_text kind some faulty)
      complete_of what object here some is given (Object_unread {name} source named keeps failed) =
          inr (inr (inr (inl (refl, inr (inl (object_fault request name.now source named failed))))))
      complete_of what object here some is given (Object_refused {what = kind} source keeps faulty) = absurd (faultless_bytes kind object is faulty)
      complete_of what object here some is given (Certificate_unread {name} off both named keeps failed) =
          inr (inr (inr (inl (refl, inr (inr (certificate_fault request name.now off both named failed))))))
      complete_of what object here some is given (Certificate_refused {what = kind} off both keeps faulty) =
          absurd (faultless_certificate request.make kind off here given faulty)
      complete_of what object here some is given (Unwritten {it} {name} on compared accepted named differs failed) =
          inr (inr (inr (inr (refl, inl (write_fault request name.now it on compared accepted named failed)))))
      complete_of what object here some is given (Lacking lacks) = inr (inr (inl refl))

  -- ---- of the status itself, which is that of what was due, or 5 for a fault of the error output

  broken_otherwise : (request : CheckRequest) (code : ℕ) → (code ≡ 5) × HasErrorFault old new → Otherwise request code
  broken_otherwise request code broken = inr (inr (broken.0, inr broken.1))

  rejected_of : (given : Option CheckRequest) (what : Due) (code : ℕ) → Ends given what → Told what old.err new.err code → code ≡ 8
      → IsSomeAnd given (HasRejected Passed handed old new)
  rejected_of given what code (Rejected {request} {it} {rejection} compared rejects hands keeps) (inl whole) e = record {
    it = it;
    rejection = rejection;
    compared = compared;
    rejected = rejects;
    handed_out = hands;
    told = record { ended = refl; sent = whole.sent };
  }
  rejected_of given what code (Rejected compared rejects hands keeps) (inr part) e = absurd (let is = part.ended in omega (arith, is, e))
  rejected_of given what code (Accepted compared accepted hands left) told e = absurd (let is = told.0 in omega (arith, is, e))
  rejected_of given what code (Misused same) told e = absurd (not_eight Usage old.err new.err code told e)
  rejected_of given what code (Source_unread {name} is keeps failed) told e = absurd (not_eight (ReadFile name) old.err new.err code told e)
  rejected_of given what code (Source_refused {what = kind} keeps faulty) told e = absurd (not_eight (Source kind) old.err new.err code told e)
  rejected_of given what code (Object_unread {name} source is keeps failed) told e = absurd (not_eight (ReadFile name) old.err new.err code told e)
  rejected_of given what code (Object_refused {what = kind} source keeps faulty) told e = absurd (not_eight (Object kind) old.err new.err code told e)
  rejected_of given what code (Certificate_unread {name} off both is keeps failed) told e = absurd (not_eight (ReadFile name) old.err new.err code told e)
  rejected_of given what code (Certificate_refused {what = kind} off both keeps faulty) told e = absurd (not_eight (Certificate kind) old.err new.err code told e)
  rejected_of given what code (Unwritten {name} on compared accepted is differs failed) told e = absurd (not_eight (WriteFile name) old.err new.err code told e)
  rejected_of given what code (Lacking lacks) told e = absurd (not_eight NoMemory old.err new.err code told e)

  -- what is compared where object, certificate and what is handed out are told

  module _ (request : CheckRequest) (cut : CutProgram) (object : CodeWithNotes) (entries : List Entry) (off : request.make ≡ false) (hands : handed ≡ Some cut)
      (loads : Loads object) (object_here : IsToldFile old.shelf.held request.object (object_text object)) (written : certificates.AreWritten entries)
      (here : IsToldFile old.shelf.held request.certificate (certificate_text entries)) where
    -- what holds of it holds of them
    told_apart : (P : Table → List (List ℤ) → RowCode → List Entry → Type 0) (it : Compared) → AreCompared Passed old.shelf.held request it → IsHanded handed it
        → P it.table it.flow.initial it.object.code it.entries → P (table_of cut.table) cut.flow.initial object.code entries
    told_apart P it compared handed_out p =
        let out : IsHanded (Some cut) it = subst (λ (handed : Option CutProgram). IsHanded handed it) hands handed_out in
        let same_object : it.object ≡ object =
        one_object it.object object compared.in_object.loads loads
        (told_text old.shelf.held object_here.files request.object (object_text object) (object_text it.object) object_here.held object_here.here compared.in_object.text) in
        let given : HoldsCertificate old.shelf.held request.certificate it.entries =
        subst (λ make. IsGiven old.shelf.held make request.certificate it.entries) off compared.certificate in
        let same_entries : it.entries ≡ entries =
        one_certificate it.entries entries given.written.certificate written.certificate given.written.numbers written.numbers
        (told_text old.shelf.held here.files request.certificate (certificate_text entries) (certificate_text it.entries) here.held here.here given.text) in
        moved P it (table_of cut.table) cut.flow object entries out.0 out.1 same_object same_entries p

    decides_of : (code : ℕ) → (code ≡ 0 → HasAccepted Passed handed old new request) → (code ≡ 8 → HasRejected Passed handed old new request)
        → (code ≡ 0) ⊎ (code ≡ 8) → IsDecided (table_of cut.table) cut.flow.initial object.code entries code
    decides_of code accepted rejected (inl zero) =
        let has = accepted zero in
        let accepts = told_apart Accepts has.it has.compared has.handed_out has.accepted.accepts in
        record {
          accepts = (λ e. accepts, λ p. zero);
          rejects = (λ eight. absurd (omega (arith, zero, eight)), λ p. absurd (both_ways (table_of cut.table) cut.flow.initial object.code entries accepts p.0 p.1));
        }
    decides_of code accepted rejected (inr eight) =
        let has = rejected eight in
        let rejects = told_apart (λ table words code entries. Rejects table words code entries has.rejection) has.it has.compared has.handed_out has.rejected in
        record {
          accepts = (λ zero. absurd (omega (arith, zero, eight)), λ p. absurd (both_ways (table_of cut.table) cut.flow.initial object.code entries p has.rejection rejects));
          rejects = (λ e. (has.rejection, rejects), λ p. eight);
        }

  module _ (given : Option CheckRequest) (what : Due) (code : ℕ) (ends : Ends given what) (told : Told what old.err new.err code) where
    by_status : (P : ℕ → Type 0) → P (due_status what) → ((code ≡ 5) × HasErrorFault old new → P code) → P code
    by_status P due_says broken = elim (status_of what old.err new.err code told) [
      | inl same ↦ subst P (sym same) due_says
      | inr part ↦ broken part
    ]

    accepted_with : code ≡ 0 → IsSomeAnd given (HasAccepted Passed handed old new)
    accepted_with = by_status (λ code. code ≡ 0 → IsSomeAnd given (HasAccepted Passed handed old new)) (accepted_of given what code told ends)
        (λ part e. absurd (omega (arith, part.0, e)))

    has_accepted : (request : CheckRequest) → given ≡ Some request → code ≡ 0 → HasAccepted Passed handed old new request
    has_accepted request is zero = subst (λ (g : Option CheckRequest). IsSomeAnd g (HasAccepted Passed handed old new)) is (accepted_with zero)

    has_rejected : (request : CheckRequest) → given ≡ Some request → code ≡ 8 → HasRejected Passed handed old new request
    has_rejected request is eight =
        subst (λ (g : Option CheckRequest). IsSomeAnd g (HasRejected Passed handed old new)) is (rejected_of given what code ends told eight)

    to_some : (request : CheckRequest) → given ≡ Some request → Ends (Some request) what
    to_some request is = subst (λ (g : Option CheckRequest). Ends g what) is ends

    pub statuses : CheckerStatuses given Passed handed old new code
    statuses = record {
      accepted = accepted_with;
      lacking = by_status (λ code. code ≡ 1 → CheckerLacks Passed old.shelf new.shelf given) (lacking_of given what ends)
          (λ part e. absurd (omega (arith, part.0, e)));
      misused = by_status (λ code. code ≡ 2 → (given ≡ None) × (new.shelf ≡ old.shelf)) (misused_of given what ends)
          (λ part e. absurd (omega (arith, part.0, e)));
      unread = by_status (λ code. code ≡ 3 → IsSomeAnd given (HasReadFault old new)) (unread_of given what ends)
          (λ part e. absurd (omega (arith, part.0, e)));
      refused = by_status (λ code. code ≡ 4 → IsSomeAnd given (HasRefused old)) (refused_of given what ends)
          (λ part e. absurd (omega (arith, part.0, e)));
      failed = by_status (λ code. code ≡ 5 → IsSomeAnd given (HasWriteFault Passed old new) ⊎ HasErrorFault old new) (λ e. inl (failed_of given what ends e))
          (λ part e. inr part.1);
      rejected = rejected_of given what code ends told;
      known = by_status (λ code. (code ≤ 5) ⊎ (code ≡ 8)) (known_of given what ends) (λ part. inl (omega (arith, part.0)));
      kept = by_status (λ code. ((2 ≤ code) × (code ≤ 4)) ⊎ (code ≡ 8) → ReadKeeps old.shelf new.shelf) (kept_of given what ends)
          (λ part e. absurd (omega (arith, part.0, e)));
      others = others_of given what ends;
      usage = λ none. by_status (λ code. (code ≡ 2) ⊎ (code ≡ 1) ⊎ ((code ≡ 5) × HasErrorFault old new))
          (either_first (usage_of what (subst (λ (g : Option CheckRequest). Ends g what) none ends))) (λ part. inr (inr part));
      complete = λ request text bytes certificate object is are here some loads given. by_status
          (λ code. (code ≡ 0) ⊎ (code ≡ 8) ⊎ Otherwise request code)
          (complete_of request text bytes are certificate what object here some loads given (to_some request is))
          (λ part. inr (inr (broken_otherwise request code part)));
      strict_source = λ request text is here none. by_status (λ code. (code ≡ 4) ⊎ Before (HasSourceReadFault old new request) code)
          (strict_source_of request text here what none (to_some request is)) (λ part. inr (inr (inr part)));
      strict_object = λ request text bytes is are some none. by_status
          (λ code. (code ≡ 4) ⊎ Before (HasSourceReadFault old new request ⊎ HasObjectReadFault old new request) code)
          (strict_object_of request text bytes are what some none (to_some request is)) (λ part. inr (inr (inr part)));
      strict_certificate = λ request text bytes certificate object is off are here some loads none. by_status
          (λ code. (code ≡ 4) ⊎ Before (HasReadFault old new request) code)
          (strict_certificate_of request text bytes are certificate what off here none (to_some request is)) (λ part. inr (inr (inr part)));
      decides = λ request cut object entries is off hands e loads object_here written here.
          decides_of request cut object entries off hands loads object_here written here code
          (λ zero. has_accepted request is zero) (λ eight. has_rejected request is eight) e;
    }

  -- ---- the headline

  means_its_source : (request : CheckRequest) (text bytes : List ℕ) → AreTold old request text bytes → HasAccepted Passed handed old new request
      → MeansItsSource text bytes
  means_its_source request text bytes told has = record {
    unit = has.it.unit;
    object = has.it.object;
    source = subst (λ text. IsSource text has.it.unit)
        (text_told old.shelf.held request.source text has.compared.text told.source has.compared.in_source) has.compared.source;
    loads = object_told request text bytes told has.it.object has.compared.in_object;
    same = has.accepted.same;
  }

  -- what is handed out means the same
  means_the_text : (request : CheckRequest) (cut : CutProgram) (text : List ℕ) → IsTold old.shelf.held request.source text → (it : Compared)
      → AreCompared Passed old.shelf.held request it → IsHanded (Some cut) it → MeansTheText text cut
  means_the_text request cut text told it compared (same_flow, same_table) = record {
    unit = it.unit;
    source = subst (λ text. IsSource text it.unit) (text_told old.shelf.held request.source text compared.text told compared.in_source) compared.source;
    counted = ap (λ (flow : FlowGraph). length flow.nodes) same_flow ∙ compared.cut.kept.as_many ∙ compared.cut.lowered.counted ∙ size-resolved (inlined_unit it.unit);
    regions = subst (λ (table : Table). AgreeOnInputs (meaning_of it.unit) (table_run table cut.flow.initial)) (sym same_table)
        (subst (λ (flow : FlowGraph). AgreeOnInputs (meaning_of it.unit) (table_run it.table flow.initial)) (sym same_flow) compared.regions);
  }

-- the promise says all this
pub statuses_of : (Passed : FlowGraph → FlowGraph → Type 0) (given : Option CheckRequest) (handed : Option CutProgram) (old new : Surroundings) (code : ℕ)
    → CheckerPromise given Passed handed old new code → CheckerStatuses given Passed handed old new code
statuses_of Passed given handed old new code promise = statuses Passed handed old new given promise.what code promise.ends promise.told

-- and that an accepted object means its source
pub accepted_means : (Passed : FlowGraph → FlowGraph → Type 0) → AcceptedObjectsMeanTheirSources Passed
accepted_means Passed request handed old new text bytes promise told =
    means_its_source Passed handed old new request text bytes told ((statuses_of Passed (Some request) handed old new 0 promise).accepted refl)

-- and that what is handed out means it
pub handed_means : (Passed : FlowGraph → FlowGraph → Type 0) → HandedRegionsMeanTheirSource Passed
handed_means Passed request cut old new code text promise (inl zero) told =
    let has = (statuses_of Passed (Some request) (Some cut) old new code promise).accepted zero in
    means_the_text Passed (Some cut) old new request cut text told has.it has.compared has.handed_out
handed_means Passed request cut old new code text promise (inr eight) told =
    let has = (statuses_of Passed (Some request) (Some cut) old new code promise).rejected eight in
    means_the_text Passed (Some cut) old new request cut text told has.it has.compared has.handed_out
