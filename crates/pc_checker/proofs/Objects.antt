-- The object that is checked: why there is none, and what comes of it.
use Rattle.std.proofs.Common.{ℤ, ℕ, Bool, true, false, List, Option, refl, subst}
use Rattle.std.specs.Prelude.{MatchResult, Result, Ok, Err, Vec}
use Rattle.std.specs.declared.alloc.Global.{Global}
use Rattle.std.specs.Borrow.{Bor}
use Rattle.pc_table.specs.Table.{Table}
use Rattle.pc_object.specs.ObjectText.{CodeWithNotes}
use Rattle.pc_outside.specs.Shelf.{Files, ReadFaultOf, ReadKeeps, Shelved}
use Rattle.pc_command.specs.Requests.{CheckRequest}
use Rattle.pc_cert.specs.declared.certificate.Entry.{Entry}
use Rattle.pc_cert.specs.CertificateText.{certificate_text}
use Rattle.pc_report.specs.declared.fault.ObjectFault.{ObjectFault}
use Rattle.pc_driver.specs.Files.{HoldsText}
use Rattle.pc_driver.specs.Objects.{HasObjectFault, Holds}
use Rattle.pc_checker.specs.Certificates.{HasCertificateFault}
use Rattle.pc_checker.specs.Checker.{LeavesCertificate}
use Rattle.pc_checker.specs.Compared.{IsGiven}
use Rattle.pc_checker.specs.Told.{Due}
use Rattle.pc_checker.specs.Told as due
use Rattle.pc_checker.specs.declared.fault.CheckerFault.{CheckerFault}
use Rattle.pc_checker.specs.declared.fault.CheckerFault.TheVariants.{NoMemory, ReadFile, Object}
use Rattle.pc_checker.specs.models.Steps.{CertificateEnds, Was_accepted, Was_rejected, Was_not_read, Was_not_written, Was_lacking, Was_lacking_late}
use Rattle.pc_checker.specs.models.Steps.{NoCertificate, Certificate_without_memory, Certificate_without_file, Certificate_refused}
use Rattle.pc_checker.specs.models.Steps.{NoObject, Object_without_memory, Object_without_file, Object_refused, ObjectEnds, Without_object, With_object, due_of}
use Rattle.pc_checker.proofs.Shelves.{differs_behind, keeps_behind, read_fault_behind, write_fault_behind, written_behind}

-- ---- why there is none

pub object_lacks : (name : List ℕ) (old new : Shelved) → NoObject name old new NoMemory
object_lacks name old new = Object_without_memory

pub object_unread : (name : Bor (List ℕ)) (old new : Shelved) → ReadFaultOf old new name.now → NoObject name.now old new (ReadFile name)
object_unread name old new failed = Object_without_file refl failed

pub object_faulty : (name : List ℕ) (old new : Shelved) (what : ObjectFault) → HoldsText old.held name (λ bytes. HasObjectFault bytes what)
    → NoObject name old new (Object what)
object_faulty name old new what faulty = Object_refused faulty

pub ruleset loads_due = (object_lacks, object_unread, object_faulty)

-- ---- what comes of it

-- what a certificate came to after a read, it came to from before it
module _ (request : CheckRequest) (initial : List (List ℤ)) (table : Table) (object : CodeWithNotes) (old mid new : Shelved) (keeps : ReadKeeps old mid) where
  text_behind : (P : List ℕ → Type 0) (name : List ℕ) → HoldsText mid.held name P → HoldsText old.held name P
  text_behind P name h = subst (λ (held : Option Files). HoldsText held name P) keeps.held h

  given_behind : (entries : List Entry) → IsGiven mid.held request.make request.certificate entries → IsGiven old.held request.make request.certificate entries
  given_behind entries h = subst (λ (held : Option Files). IsGiven held request.make request.certificate entries) keeps.held h

  leaves_behind : (make : Bool) (entries : List Entry) → LeavesCertificate make mid new request.certificate entries
      → LeavesCertificate make old new request.certificate entries
  leaves_behind false entries later = keeps_behind old mid new keeps later
  leaves_behind true entries (written, here) = (written, written_behind old mid new keeps request.certificate (certificate_text entries) here)

  none_behind : (what : CheckerFault) → NoCertificate request.certificate mid new what → NoCertificate request.certificate old new what
  none_behind what Certificate_without_memory = Certificate_without_memory
  none_behind what (Certificate_without_file {word} is failed) = Certificate_without_file is (read_fault_behind old mid new keeps word.now failed)
  none_behind what (Certificate_refused {what = kind} faulty) =
      Certificate_refused (text_behind (λ bytes. HasCertificateFault bytes kind) request.certificate faulty)

  pub certificate_behind : (what : Due) → CertificateEnds request initial table object mid new what → CertificateEnds request initial table object old new what
  certificate_behind what (Was_accepted {entries} given accepts left) =
      Was_accepted {entries = entries} (given_behind entries given) accepts (leaves_behind request.make entries left)
  certificate_behind what (Was_rejected {entries} given rejects later) =
      Was_rejected {entries = entries} (given_behind entries given) rejects (keeps_behind old mid new keeps later)
  certificate_behind what (Was_not_read {what = kind} off none later) = Was_not_read off (none_behind kind none) (keeps_behind old mid new keeps later)
  certificate_behind what (Was_not_written {entries} {word} on given accepts is differs failed) =
      Was_not_written {entries = entries} on (given_behind entries given) accepts is (differs_behind old mid new keeps word.now differs)
      (write_fault_behind old mid new keeps word.now failed)
  certificate_behind what (Was_lacking later) = Was_lacking (keeps_behind old mid new keeps later)
  certificate_behind what (Was_lacking_late {entries} on given accepts differs) =
      Was_lacking_late {entries = entries} on (given_behind entries given) accepts (differs_behind old mid new keeps request.certificate differs)

module _ (request : CheckRequest) (initial : List (List ℤ)) (table : Table) where
  -- there is no object
  pub object_stops : (old new : Shelved) (what : CheckerFault) → NoObject request.object old new what → ReadKeeps old new
      → ObjectEnds request initial table old new (due.Failure what)
  object_stops old new what none keeps = Without_object none keeps

  -- there is one, and a certificate came to this
  object_goes_on : (object : CodeWithNotes) (old mid new : Shelved) (what : Due) → Holds old.held request.object object → ReadKeeps old mid
      → CertificateEnds request initial table object mid new what → ObjectEnds request initial table old new what
  object_goes_on object old mid new what held keeps ends =
      With_object held (certificate_behind request initial table object old mid new keeps what ends)

  -- with an answer or a fault
  pub object_answered : (object : CodeWithNotes) (old mid new : Shelved) → Holds old.held request.object object → ReadKeeps old mid
      → (result : Result (Option (Vec ℕ Global)) CheckerFault)
      → MatchResult result (λ told. CertificateEnds request initial table object mid new (due_of told))
      (λ what. CertificateEnds request initial table object mid new (due.Failure what))
      → MatchResult result (λ told. ObjectEnds request initial table old new (due_of told)) (λ what. ObjectEnds request initial table old new (due.Failure what))
  object_answered object old mid new held keeps (Ok told) ends = object_goes_on object old mid new (due_of told) held keeps ends
  object_answered object old mid new held keeps (Err what) ends = object_goes_on object old mid new (due.Failure what) held keeps ends

pub ruleset objects_due = object_stops
