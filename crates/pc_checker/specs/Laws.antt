-- What follows from the checker's promise for each status, for each command and for each text.
use Rattle.std.specs.Prelude.{◌≡◌, ℕ, ◌≤◌, ◌⊎◌, ◌↔◌, ℤ, Bool, true, false, List, length, Option, Some, None}
use Rattle.std.specs.Option.{IsSomeAnd}
use Rattle.pc_word.specs.Count.{Rose}
use Rattle.pc_word.specs.Run.{AgreeOnInputs}
use Rattle.pc_syntax.specs.Unit.{TranslationUnit}
use Rattle.pc_check.specs.Sizes.{size}
use Rattle.pc_calls.specs.Inlining.{inlined_unit}
use Rattle.pc_flow.specs.FlowGraph.{FlowGraph}
use Rattle.pc_table.specs.Table.{Table}
use Rattle.pc_table.specs.RegionRun.{table_run}
use Rattle.pc_table.specs.StoredTable.{table_of}
use Rattle.pc_machine.specs.MachineCode.{RowCode}
use Rattle.pc_middle.specs.declared.program.CutProgram.{CutProgram}
use Rattle.pc_object.specs.ObjectText.{CodeWithNotes, object_text}
use Rattle.pc_outside.specs.Shelf.{OnlyFileDiffers, ReadFaultOf, ReadKeeps, WriteFaultOf}
use Rattle.pc_command.specs.Requests.{CheckRequest, OfFile}
use Rattle.pc_cert.specs.declared.certificate.Entry.{Entry}
use Rattle.pc_cert.specs.CertificateText.{certificate_text}
use Rattle.pc_driver.specs.Files.{HoldsText}
use Rattle.pc_driver.specs.Objects.{IsNoObject, IsTextOf, Loads}
use Rattle.pc_driver.specs.ToldFile.{IsToldFile}
use Rattle.pc_source.specs.Files.{HoldsSource, IsTold}
use Rattle.pc_source.specs.Meaning.{Same, meaning_of}
use Rattle.pc_source.specs.Source.{IsNoSource, IsSomeSource, IsSource}
use Rattle.pc_accepted.specs.Accepted.{Accepts, Rejects}
use Rattle.pc_accepted.specs.declared.flaw.Rejection.{Rejection as Rejected}
use Rattle.pc_checker.specs.Certificates.{IsNoCertificate}
use Rattle.pc_checker.specs.Certificates as certificates
use Rattle.pc_checker.specs.Checker.{CheckerLacks, CheckerPromise, HasBoth, LeavesCertificate}
use Rattle.pc_checker.specs.Compared.{AreCompared, Compared, IsAccepted, IsHanded, IsRejected}
use Rattle.pc_checker.specs.Outside.{Surroundings}
use Rattle.pc_checker.specs.RejectionText.{rejection_text}
use Rattle.pc_driver.specs.Telling.{TellsWhole}

-- ---- what each status says

-- the certificate that was given is accepted: SRC has the text of a source, OBJ holds an object that loads, and for every input of words
-- the object does what the source means; a certificate that was made stands in CERT now, and nothing was told
pub record HasAccepted (Passed : FlowGraph → FlowGraph → Type 0) (handed : Option CutProgram) (old new : Surroundings) (request : CheckRequest) : Type 0 where
  pub it : Compared
  pub compared : AreCompared Passed old.shelf.held request it
  pub accepted : IsAccepted it
  pub handed_out : IsHanded handed it
  pub left : LeavesCertificate request.make old.shelf new.shelf request.certificate it.entries
  pub silent : new.err ≡ old.err

-- it is rejected, and the whole text of the rejection was told
pub record HasRejected (Passed : FlowGraph → FlowGraph → Type 0) (handed : Option CutProgram) (old new : Surroundings) (request : CheckRequest) : Type 0 where
  pub it : Compared
  pub rejection : Rejected
  pub compared : AreCompared Passed old.shelf.held request it
  pub rejected : IsRejected it rejection
  pub handed_out : IsHanded handed it
  pub told : TellsWhole (rejection_text request.why it.object.code it.entries rejection) 8 old.err new.err 8

-- the source is a file, of which the shelf had a read fault
pub record HasSourceReadFault (old new : Surroundings) (request : CheckRequest) : Type 0 where
  pub name : List ℕ
  pub file : request.source ≡ OfFile name
  pub fault : ReadFaultOf old.shelf new.shelf name

-- SRC is a source, and the shelf had a read fault of OBJ
pub record HasObjectReadFault (old new : Surroundings) (request : CheckRequest) : Type 0 where
  pub source : HoldsSource old.shelf.held request.source IsSomeSource
  pub fault : ReadFaultOf old.shelf new.shelf request.object

-- SRC is a source and OBJ an object, and the shelf had a read fault of a CERT that was to be read
pub record HasCertificateReadFault (old new : Surroundings) (request : CheckRequest) : Type 0 where
  pub read : request.make ≡ false
  pub both : HasBoth old.shelf request
  pub fault : ReadFaultOf old.shelf new.shelf request.certificate

-- the shelf had a read fault of what was to be read next
abbrev pub HasReadFault : Surroundings → Surroundings → CheckRequest → Type 0
HasReadFault old new request = HasSourceReadFault old new request ⊎ HasObjectReadFault old new request ⊎ HasCertificateReadFault old new request

-- a certificate was made and accepted, and the shelf had a write fault of CERT
pub record HasWriteFault (Passed : FlowGraph → FlowGraph → Type 0) (old new : Surroundings) (request : CheckRequest) : Type 0 where
  pub made : request.make ≡ true
  pub it : Compared
  pub compared : AreCompared Passed old.shelf.held request it
  pub accepted : IsAccepted it
  pub fault : WriteFaultOf old.shelf new.shelf request.certificate

-- the error output failed
abbrev pub HasErrorFault : Surroundings → Surroundings → Type 0
HasErrorFault old new = Rose old.err.faults new.err.faults

-- SRC holds no source; or it holds one, and OBJ no object that loads; or both, and a CERT that was to be read no certificate
abbrev pub HasRefused : Surroundings → CheckRequest → Type 0
HasRefused old request =
    HoldsSource old.shelf.held request.source IsNoSource
    ⊎ (HoldsSource old.shelf.held request.source IsSomeSource × HoldsText old.shelf.held request.object IsNoObject)
    ⊎ ((request.make ≡ false) × HasBoth old.shelf request × HoldsText old.shelf.held request.certificate IsNoCertificate)

-- no file but a CERT that is to be written differs
abbrev pub KeepsFiles : (make : Bool) → Surroundings → Surroundings → (name : List ℕ) → Type 0
KeepsFiles false old new name = new.shelf.held ≡ old.shelf.held
KeepsFiles true old new name = OnlyFileDiffers old.shelf.held new.shelf.held name

-- so for what was given; without a command no file differs
abbrev pub KeepsOthers : Option CheckRequest → Surroundings → Surroundings → Type 0
KeepsOthers None old new = new.shelf.held ≡ old.shelf.held
KeepsOthers (Some request) old new = KeepsFiles request.make old new request.certificate

-- the text is that of a source, the bytes are those of an object that loads, and for every input of words the object does what the source
-- means
pub record MeansItsSource (text bytes : List ℕ) : Type 0 where
  pub unit : TranslationUnit
  pub object : CodeWithNotes
  pub source : IsSource text unit
  pub loads : IsTextOf bytes object
  pub same : Same unit object.code

-- ---- what is found where files are told

-- the shelf tells its files: SRC has this text, and OBJ these bytes
pub record AreTold (old : Surroundings) (request : CheckRequest) (text bytes : List ℕ) : Type 0 where
  pub source : IsTold old.shelf.held request.source text
  pub object : IsToldFile old.shelf.held request.object bytes

-- a CERT that is to be read has these bytes
abbrev pub IsCertificateTold : (make : Bool) → Surroundings → (name bytes : List ℕ) → Type 0
IsCertificateTold false old name bytes = IsToldFile old.shelf.held name bytes
IsCertificateTold true old name bytes = Unit {0}

-- and these are a certificate
abbrev pub IsCertificateGiven : (make : Bool) → (bytes : List ℕ) → Type 0
IsCertificateGiven false bytes = (entries : List Entry) × certificates.IsTextOf bytes entries
IsCertificateGiven true bytes = Unit {0}

-- it came to no answer, for want of memory or a fault
abbrev pub FailsOtherwise : (Passed : FlowGraph → FlowGraph → Type 0) → Surroundings → Surroundings → CheckRequest → (code : ℕ) → Type 0
FailsOtherwise Passed old new request code =
    (code ≡ 1) ⊎ ((code ≡ 3) × HasReadFault old new request) ⊎ ((code ≡ 5) × (HasWriteFault Passed old new request ⊎ HasErrorFault old new))

-- it came to no refusal, for want of memory, a read fault or a fault of the error output
abbrev pub FailsBefore : (Unread : Type 0) → Surroundings → Surroundings → (code : ℕ) → Type 0
FailsBefore Unread old new code = (code ≡ 1) ⊎ ((code ≡ 3) × Unread) ⊎ ((code ≡ 5) × HasErrorFault old new)

-- the certificate with these entries is accepted exactly with 0, and rejected exactly with 8
pub record IsDecided (table : Table) (words : List (List ℤ)) (code_of_object : RowCode) (entries : List Entry) (code : ℕ) : Type 0 where
  pub accepts : (code ≡ 0) ↔ Accepts table words code_of_object entries
  pub rejects : (code ≡ 8) ↔ ((rejection : Rejected) × Rejects table words code_of_object entries rejection)

-- ---- the law

-- what follows
pub record CheckerStatuses (given : Option CheckRequest) (Passed : FlowGraph → FlowGraph → Type 0) (handed : Option CutProgram)
    (old new : Surroundings) (code : ℕ) : Type 0 where
  -- what each status says
  pub accepted : code ≡ 0 → IsSomeAnd given (HasAccepted Passed handed old new)
  pub lacking : code ≡ 1 → CheckerLacks Passed old.shelf new.shelf given
  pub misused : code ≡ 2 → (given ≡ None) × (new.shelf ≡ old.shelf)
  pub unread : code ≡ 3 → IsSomeAnd given (HasReadFault old new)
  pub refused : code ≡ 4 → IsSomeAnd given (HasRefused old)
  pub failed : code ≡ 5 → IsSomeAnd given (HasWriteFault Passed old new) ⊎ HasErrorFault old new
  pub rejected : code ≡ 8 → IsSomeAnd given (HasRejected Passed handed old new)
  pub known : (code ≤ 5) ⊎ (code ≡ 8)
  -- with 2, 3, 4 and 8 nothing was written
  pub kept : ((2 ≤ code) × (code ≤ 4)) ⊎ (code ≡ 8) → ReadKeeps old.shelf new.shelf
  -- whatever the status, no file but a CERT that is to be written differs
  pub others : KeepsOthers given old new
  -- what is no command is reported so, but for want of memory and a fault of the error output
  pub usage : given ≡ None → (code ≡ 2) ⊎ (code ≡ 1) ⊎ ((code ≡ 5) × HasErrorFault old new)
  -- of a source, an object and a certificate it is said whether the certificate is accepted, but for want of memory and faults
  pub complete : (request : CheckRequest) (text bytes certificate : List ℕ) (object : CodeWithNotes) →
      given ≡ Some request → AreTold old request text bytes → IsCertificateTold request.make old request.certificate certificate →
      IsSomeSource text → IsTextOf bytes object → IsCertificateGiven request.make certificate →
      (code ≡ 0) ⊎ (code ≡ 8) ⊎ FailsOtherwise Passed old new request code
  -- a certificate that is read is accepted exactly with 0, and rejected exactly with 8, by the regions that are handed out
  pub decides : (request : CheckRequest) (cut : CutProgram) (object : CodeWithNotes) (entries : List Entry) →
      given ≡ Some request → request.make ≡ false → handed ≡ Some cut → (code ≡ 0) ⊎ (code ≡ 8) →
      Loads object → IsToldFile old.shelf.held request.object (object_text object) →
      certificates.AreWritten entries → IsToldFile old.shelf.held request.certificate (certificate_text entries) →
      IsDecided (table_of cut.table) cut.flow.initial object.code entries code
  -- what is no source is refused
  pub strict_source : (request : CheckRequest) (text : List ℕ) →
      given ≡ Some request → IsTold old.shelf.held request.source text → IsNoSource text →
      (code ≡ 4) ⊎ FailsBefore (HasSourceReadFault old new request) old new code
  -- and beside a source what is no object
  pub strict_object : (request : CheckRequest) (text bytes : List ℕ) →
      given ≡ Some request → AreTold old request text bytes → IsSomeSource text → IsNoObject bytes →
      (code ≡ 4) ⊎ FailsBefore (HasSourceReadFault old new request ⊎ HasObjectReadFault old new request) old new code
  -- and beside both what is to be read and is no certificate
  pub strict_certificate : (request : CheckRequest) (text bytes certificate : List ℕ) (object : CodeWithNotes) →
      given ≡ Some request → request.make ≡ false → AreTold old request text bytes → IsToldFile old.shelf.held request.certificate certificate →
      IsSomeSource text → IsTextOf bytes object → IsNoCertificate certificate →
      (code ≡ 4) ⊎ FailsBefore (HasReadFault old new request) old new code

-- the law: the promise says all this, whatever the passes did
abbrev pub CheckerPromisesSay : (Passed : FlowGraph → FlowGraph → Type 0) → Type 0
CheckerPromisesSay Passed =
    (given : Option CheckRequest) (handed : Option CutProgram) (old new : Surroundings) (code : ℕ)
    → CheckerPromise given Passed handed old new code → CheckerStatuses given Passed handed old new code

-- the headline: where the checker ends with 0, the text that SRC has is a source, OBJ holds an object that loads, and for every input of words
-- the object does what the source means, whoever wrote the object and the certificate
abbrev pub AcceptedObjectsMeanTheirSources : (Passed : FlowGraph → FlowGraph → Type 0) → Type 0
AcceptedObjectsMeanTheirSources Passed =
    (request : CheckRequest) (handed : Option CutProgram) (old new : Surroundings) (text bytes : List ℕ)
    → CheckerPromise (Some request) Passed handed old new 0 → AreTold old request text bytes
    → MeansItsSource text bytes

-- what is handed out means the same: of the text that SRC has, a source, the graph has as many nodes as its program, and for every input
-- of words the graph's regions do what the source means
pub record MeansTheText (text : List ℕ) (cut : CutProgram) : Type 0 where
  pub unit : TranslationUnit
  pub source : IsSource text unit
  pub counted : length cut.flow.nodes ≡ size (inlined_unit unit)
  pub regions : AgreeOnInputs (meaning_of unit) (table_run (table_of cut.table) cut.flow.initial)

-- so it is of all that is handed out
abbrev pub HandedRegionsMeanTheirSource : (Passed : FlowGraph → FlowGraph → Type 0) → Type 0
HandedRegionsMeanTheirSource Passed =
    (request : CheckRequest) (cut : CutProgram) (old new : Surroundings) (code : ℕ) (text : List ℕ)
    → CheckerPromise (Some request) Passed (Some cut) old new code → (code ≡ 0) ⊎ (code ≡ 8) → IsTold old.shelf.held request.source text
    → MeansTheText text cut
