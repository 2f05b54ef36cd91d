-- What the checker promises.
use Rattle.std.specs.Prelude.{◌≡◌, ℕ, Bool, true, false, List, Option, Some, None}
use Rattle.std.specs.Borrow.{Bor}
use Rattle.pc_flow.specs.FlowGraph.{FlowGraph}
use Rattle.pc_middle.specs.declared.program.CutProgram.{CutProgram}
use Rattle.pc_outside.specs.Shelf.{HoldsFile, OnlyFileDiffers, ReadFaultOf, ReadKeeps, Shelved, WriteFaultOf}
use Rattle.pc_command.specs.Requests.{CheckRequest, OfFile}
use Rattle.pc_cert.specs.declared.certificate.Entry.{Entry}
use Rattle.pc_cert.specs.CertificateText.{certificate_text}
use Rattle.pc_report.specs.declared.fault.ObjectFault.{ObjectFault}
use Rattle.pc_report.specs.declared.fault.SourceFault.{SourceFault}
use Rattle.pc_driver.specs.Files.{HoldsText}
use Rattle.pc_driver.specs.Objects.{HasObjectFault, HoldsObject}
use Rattle.pc_source.specs.Files.{HoldsSource}
use Rattle.pc_source.specs.Source.{IsSomeSource}
use Rattle.pc_source.specs.SourceFaults.{HasFault}
use Rattle.pc_accepted.specs.declared.flaw.Rejection.{Rejection}
use Rattle.pc_checker.specs.Certificates.{AreWritten, HasCertificateFault}
use Rattle.pc_checker.specs.Compared.{AreCompared, Compared, IsAccepted, IsHanded, IsRejected}
use Rattle.pc_checker.specs.Outside.{Surroundings}
use Rattle.pc_checker.specs.RejectionText.{rejection_text}
use Rattle.pc_checker.specs.Told.{Due, Told}
use Rattle.pc_checker.specs.Told as due
use Rattle.pc_checker.specs.declared.fault.CertificateFault.{CertificateFault}
use Rattle.pc_checker.specs.declared.fault.CheckerFault.TheVariants.{NoMemory, Usage, ReadFile, Source, Object, Certificate, WriteFile}

-- SRC is a source, and OBJ holds an object that loads, where the shelf tells its files
pub record HasBoth (old : Shelved) (request : CheckRequest) : Type 0 where
  pub source : HoldsSource old.held request.source IsSomeSource
  pub object : HoldsObject old.held request.object

-- where a certificate was accepted: all files are as before; or, where it was made, CERT holds its text, and all else is as before
abbrev pub LeavesCertificate : (make : Bool) → (old new : Shelved) → (name : List ℕ) → List Entry → Type 0
LeavesCertificate false old new name entries = ReadKeeps old new
LeavesCertificate true old new name entries = AreWritten entries × HoldsFile old.held new.held name (certificate_text entries)

-- What stands where memory ran out: nothing was written; or a certificate was made and accepted, and at most CERT differs.
pub data CheckerLacks (Passed : FlowGraph → FlowGraph → Type 0) (old new : Shelved) : (given : Option CheckRequest) → Type 0 where
  Early : {given : Option CheckRequest} →
      ReadKeeps old new →
      CheckerLacks Passed old new given
  Writing : {request : CheckRequest} {it : Compared} →
      request.make ≡ true →
      AreCompared Passed old.held request it →
      IsAccepted it →
      OnlyFileDiffers old.held new.held request.certificate →
      CheckerLacks Passed old new (Some request)

-- How the checker ends, by what is due: what was given, and what stands on the shelf. `Passed` says what the passes did, and `handed` is
-- what is handed out.
pub data CheckerEnds (Passed : FlowGraph → FlowGraph → Type 0) (handed : Option CutProgram) (old new : Shelved)
    : (given : Option CheckRequest) (what : Due) → Type 0 where
  -- the certificate is accepted
  Accepted : {request : CheckRequest} {it : Compared} →
      AreCompared Passed old.held request it →
      IsAccepted it →
      IsHanded handed it →
      LeavesCertificate request.make old new request.certificate it.entries →
      CheckerEnds Passed handed old new (Some request) due.Success
  -- it is rejected
  Rejected : {request : CheckRequest} {it : Compared} {rejection : Rejection} →
      AreCompared Passed old.held request it →
      IsRejected it rejection →
      IsHanded handed it →
      ReadKeeps old new →
      CheckerEnds Passed handed old new (Some request) (due.Rejection (rejection_text request.why it.object.code it.entries rejection))
  -- the words are no command
  Misused :
      new ≡ old →
      CheckerEnds Passed handed old new None (due.Failure Usage)
  -- the shelf had a read fault of SRC
  Source_unread : {request : CheckRequest} {name : Bor (List ℕ)} →
      request.source ≡ OfFile name.now →
      ReadKeeps old new →
      ReadFaultOf old new name.now →
      CheckerEnds Passed handed old new (Some request) (due.Failure (ReadFile name))
  -- SRC has a text with this fault
  Source_refused : {request : CheckRequest} {what : SourceFault} →
      ReadKeeps old new →
      HoldsSource old.held request.source (λ text. HasFault text what) →
      CheckerEnds Passed handed old new (Some request) (due.Failure (Source what))
  -- SRC is a source, and the shelf had a read fault of OBJ
  Object_unread : {request : CheckRequest} {name : Bor (List ℕ)} →
      HoldsSource old.held request.source IsSomeSource →
      request.object ≡ name.now →
      ReadKeeps old new →
      ReadFaultOf old new name.now →
      CheckerEnds Passed handed old new (Some request) (due.Failure (ReadFile name))
  -- SRC is a source, and OBJ has bytes with this fault
  Object_refused : {request : CheckRequest} {what : ObjectFault} →
      HoldsSource old.held request.source IsSomeSource →
      ReadKeeps old new →
      HoldsText old.held request.object (λ bytes. HasObjectFault bytes what) →
      CheckerEnds Passed handed old new (Some request) (due.Failure (Object what))
  -- SRC is a source and OBJ an object, and the shelf had a read fault of CERT, which was to be read
  Certificate_unread : {request : CheckRequest} {name : Bor (List ℕ)} →
      request.make ≡ false →
      HasBoth old request →
      request.certificate ≡ name.now →
      ReadKeeps old new →
      ReadFaultOf old new name.now →
      CheckerEnds Passed handed old new (Some request) (due.Failure (ReadFile name))
  -- SRC is a source and OBJ an object, and CERT, which was to be read, has bytes with this fault
  Certificate_refused : {request : CheckRequest} {what : CertificateFault} →
      request.make ≡ false →
      HasBoth old request →
      ReadKeeps old new →
      HoldsText old.held request.certificate (λ bytes. HasCertificateFault bytes what) →
      CheckerEnds Passed handed old new (Some request) (due.Failure (Certificate what))
  -- a certificate was made and accepted, and the shelf had a write fault of CERT
  Unwritten : {request : CheckRequest} {it : Compared} {name : Bor (List ℕ)} →
      request.make ≡ true →
      AreCompared Passed old.held request it →
      IsAccepted it →
      request.certificate ≡ name.now →
      OnlyFileDiffers old.held new.held name.now →
      WriteFaultOf old new name.now →
      CheckerEnds Passed handed old new (Some request) (due.Failure (WriteFile name))
  -- memory ran out
  Lacking : {given : Option CheckRequest} →
      CheckerLacks Passed old new given →
      CheckerEnds Passed handed old new given (due.Failure NoMemory)

-- What the checker promises of the outside before and after it, where the passes did what `Passed` says and this is handed out: it came to
-- an end, and what was due then is reported.
pub record CheckerPromise (given : Option CheckRequest) (Passed : FlowGraph → FlowGraph → Type 0) (handed : Option CutProgram)
    (old new : Surroundings) (code : ℕ) : Type 0 where
  pub what : Due
  pub ends : CheckerEnds Passed handed old.shelf new.shelf given what
  pub told : Told what old.err new.err code
