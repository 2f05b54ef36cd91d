-- What each private answer of the checker says of the outside before and after it.
use Rattle.std.specs.Prelude.{◌≡◌, ℕ, ◌<◌, min, ℤ, Bool, true, false, List, Option, Some, None, Vec}
use Rattle.std.specs.declared.alloc.Global.{Global}
use Rattle.std.specs.Borrow.{Bor}
use Rattle.pc_word.specs.SourceLimits.{most_nodes}
use Rattle.pc_syntax.specs.Source.{ResolvedProgram}
use Rattle.pc_flow.specs.FlowGraph.{FlowGraph}
use Rattle.pc_table.specs.Table.{Table}
use Rattle.pc_middle.specs.CutProgram.{IsCutProgram}
use Rattle.pc_machine.specs.MachineCode.{RowCode}
use Rattle.pc_object.specs.ObjectText.{CodeWithNotes}
use Rattle.pc_outside.specs.Shelf.{Files, OnlyFileDiffers, ReadFaultOf, ReadKeeps, Shelved, WriteFaultOf}
use Rattle.pc_command.specs.Requests.{CheckRequest, OfFile, SourcePlace}
use Rattle.pc_cert.specs.declared.certificate.Entry.{Entry}
use Rattle.pc_report.specs.declared.fault.ObjectFault.{ObjectFault}
use Rattle.pc_report.specs.declared.fault.SourceFault.{SourceFault}
use Rattle.pc_report.specs.declared.fault.SourceFault.TheVariants.{TooLarge}
use Rattle.pc_driver.specs.Files.{HoldsText}
use Rattle.pc_driver.specs.Objects.{HasObjectFault, Holds}
use Rattle.pc_source.specs.Files.{HasSource, HoldsSource}
use Rattle.pc_source.specs.Reading.{IsChecked}
use Rattle.pc_source.specs.SourceFaults.{HasFault}
use Rattle.pc_accepted.specs.Accepted.{Accepts, Rejects}
use Rattle.pc_accepted.specs.declared.flaw.Rejection.{Rejection}
use Rattle.pc_checker.specs.Certificates.{HasCertificateFault}
use Rattle.pc_checker.specs.Checker.{LeavesCertificate}
use Rattle.pc_checker.specs.Compared.{IsGiven}
use Rattle.pc_checker.specs.RejectionText.{rejection_text}
use Rattle.pc_checker.specs.Told.{Due}
use Rattle.pc_checker.specs.Told as due
use Rattle.pc_checker.specs.declared.fault.CertificateFault.{CertificateFault}
use Rattle.pc_checker.specs.declared.fault.CheckerFault.{CheckerFault}
use Rattle.pc_checker.specs.declared.fault.CheckerFault.TheVariants.{NoMemory, ReadFile, Source, Object, Certificate, WriteFile}

-- ---- the source

-- the text is read as a program, the passes made this graph of the program's own, and these are the graph's regions
pub record IsTextCut (Passed : FlowGraph → FlowGraph → Type 0) (text : List ℕ) (flow : FlowGraph) (table : Table) : Type 0 where
  pub checked : ResolvedProgram
  pub is : IsChecked text checked
  pub cut : IsCutProgram checked Passed flow table

-- why a text has no regions
pub data RefusesSource (text : List ℕ) : (what : CheckerFault) → Type 0 where
  Source_lacks : RefusesSource text NoMemory
  Source_faulty : {what : SourceFault} → HasFault text what → RefusesSource text (Source what)

-- why a program of a size has no regions: its graph would have too many nodes, and their count is told, as far as a number goes; or memory
-- ran out
pub data IsTooLarge (size : ℕ) : (what : CheckerFault) → Type 0 where
  Program_lacks : IsTooLarge size NoMemory
  Program_too_large : {nodes : ℕ} → most_nodes < size → nodes ≡ min size 4294967295 → IsTooLarge size (Source (TooLarge nodes))

-- a source has such a text
pub record IsSourceCut (Passed : FlowGraph → FlowGraph → Type 0) (held : Option Files) (source : SourcePlace) (flow : FlowGraph) (table : Table) : Type 0 where
  pub text : List ℕ
  pub in_source : HasSource held source text
  pub is : IsTextCut Passed text flow table

-- why a source has no regions
pub data NoSource (source : SourcePlace) (old new : Shelved) : (what : CheckerFault) → Type 0 where
  Source_without_memory : NoSource source old new NoMemory
  Source_without_file : {word : Bor (List ℕ)} → source ≡ OfFile word.now → ReadFaultOf old new word.now → NoSource source old new (ReadFile word)
  Source_without_program : {what : SourceFault} → HoldsSource old.held source (λ text. HasFault text what) → NoSource source old new (Source what)

-- ---- the object and the certificate

-- why there is no object
pub data NoObject (name : List ℕ) (old new : Shelved) : (what : CheckerFault) → Type 0 where
  Object_without_memory : NoObject name old new NoMemory
  Object_without_file : {word : Bor (List ℕ)} → name ≡ word.now → ReadFaultOf old new word.now → NoObject name old new (ReadFile word)
  Object_refused : {what : ObjectFault} → HoldsText old.held name (λ bytes. HasObjectFault bytes what) → NoObject name old new (Object what)

-- the fault of a certificate, if it has one, and else want of memory
abbrev pub certificate_refusal : Option CertificateFault → CheckerFault
certificate_refusal (Some what) = Certificate what
certificate_refusal None = NoMemory

-- why there is no certificate
pub data NoCertificate (name : List ℕ) (old new : Shelved) : (what : CheckerFault) → Type 0 where
  Certificate_without_memory : NoCertificate name old new NoMemory
  Certificate_without_file : {word : Bor (List ℕ)} → name ≡ word.now → ReadFaultOf old new word.now → NoCertificate name old new (ReadFile word)
  Certificate_refused : {what : CertificateFault} → HoldsText old.held name (λ bytes. HasCertificateFault bytes what)
      → NoCertificate name old new (Certificate what)

-- why bytes are no certificate
pub data RefusesBytes (bytes : List ℕ) : (what : CheckerFault) → Type 0 where
  Bytes_without_memory : RefusesBytes bytes NoMemory
  Bytes_faulty : {what : CertificateFault} → HasCertificateFault bytes what → RefusesBytes bytes (Certificate what)

-- ---- the answer

-- a certificate is accepted, and nothing is to be told; or it is rejected, and this is the text that tells it
pub data Finds (asked : Bool) (initial : List (List ℤ)) (table : Table) (code : RowCode) (entries : List Entry) : (told : Option (Vec ℕ Global)) → Type 0 where
  Finds_accepted : Accepts table initial code entries → Finds asked initial table code entries None
  Finds_rejected : {rejection : Rejection} {text : Vec ℕ Global} → Rejects table initial code entries rejection
      → text.items ≡ rejection_text asked code entries rejection
      → Finds asked initial table code entries (Some text)

-- what is due with an answer
abbrev pub due_of : Option (Vec ℕ Global) → Due
due_of None = due.Success
due_of (Some text) = due.Rejection text.items

-- why a file was not written; at most it differs
pub data FailsToWrite (name : List ℕ) (old new : Shelved) : (what : CheckerFault) → Type 0 where
  Write_fails : {word : Bor (List ℕ)} → name ≡ word.now → OnlyFileDiffers old.held new.held word.now → WriteFaultOf old new word.now
      → FailsToWrite name old new (WriteFile word)
  Write_lacks : OnlyFileDiffers old.held new.held name → FailsToWrite name old new NoMemory

-- how the checker ends with an object, by what is due
pub data CertificateEnds (request : CheckRequest) (initial : List (List ℤ)) (table : Table) (object : CodeWithNotes) (old new : Shelved) : (what : Due) → Type 0 where
  Was_accepted : {entries : List Entry} →
      IsGiven old.held request.make request.certificate entries →
      Accepts table initial object.code entries →
      LeavesCertificate request.make old new request.certificate entries →
      CertificateEnds request initial table object old new due.Success
  Was_rejected : {entries : List Entry} {rejection : Rejection} →
      IsGiven old.held request.make request.certificate entries →
      Rejects table initial object.code entries rejection →
      ReadKeeps old new →
      CertificateEnds request initial table object old new (due.Rejection (rejection_text request.why object.code entries rejection))
  Was_not_read : {what : CheckerFault} →
      request.make ≡ false →
      NoCertificate request.certificate old new what →
      ReadKeeps old new →
      CertificateEnds request initial table object old new (due.Failure what)
  Was_not_written : {entries : List Entry} {word : Bor (List ℕ)} →
      request.make ≡ true →
      IsGiven old.held request.make request.certificate entries →
      Accepts table initial object.code entries →
      request.certificate ≡ word.now →
      OnlyFileDiffers old.held new.held word.now →
      WriteFaultOf old new word.now →
      CertificateEnds request initial table object old new (due.Failure (WriteFile word))
  Was_lacking : ReadKeeps old new → CertificateEnds request initial table object old new (due.Failure NoMemory)
  Was_lacking_late : {entries : List Entry} →
      request.make ≡ true →
      IsGiven old.held request.make request.certificate entries →
      Accepts table initial object.code entries →
      OnlyFileDiffers old.held new.held request.certificate →
      CertificateEnds request initial table object old new (due.Failure NoMemory)

-- how it ends with the graph and the regions of a source
pub data ObjectEnds (request : CheckRequest) (initial : List (List ℤ)) (table : Table) (old new : Shelved) : (what : Due) → Type 0 where
  Without_object : {what : CheckerFault} → NoObject request.object old new what → ReadKeeps old new
      → ObjectEnds request initial table old new (due.Failure what)
  With_object : {object : CodeWithNotes} {what : Due} → Holds old.held request.object object
      → CertificateEnds request initial table object old new what → ObjectEnds request initial table old new what
