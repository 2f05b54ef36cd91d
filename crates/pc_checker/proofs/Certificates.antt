-- The certificate that is held against an object: why there is none, what it is found to be, and what becomes of it.
use Rattle.std.proofs.Common.{◌≡◌, ℤ, ℕ, ◌<◌, ◌≤◌, Bool, true, false, List, length, Option, Some, None, refl, sym, subst}
use Rattle.std.specs.Prelude.{Vec, Err}
use Rattle.std.specs.Borrow.{Bor}
use Rattle.std.specs.declared.alloc.Global.{Global}
use Rattle.pc_word.specs.Exact.{IsRefusal}
use Rattle.pc_word.specs.MachineLimits.{most_object}
use Rattle.pc_table.specs.Table.{Table}
use Rattle.pc_object.specs.ObjectText.{CodeWithNotes}
use Rattle.pc_outside.specs.Shelf.{Files, HoldsFile, OnlyFileDiffers, ReadFaultOf, ReadKeeps, Shelved, WriteFaultOf}
use Rattle.pc_command.specs.Requests.{CheckRequest}
use Rattle.pc_cert.specs.declared.certificate.Entry.{Entry}
use Rattle.pc_cert.specs.declared.refusal.CertificateError.{CertificateError}
use Rattle.pc_cert.specs.declared.refusal.CertificateError.TheVariants as error
use Rattle.pc_cert.specs.Cause.{certificate_cause}
use Rattle.pc_cert.specs.CertificateText.{IsCertificate, certificate_text}
use Rattle.pc_cert.specs.Numbers.{HasNumbers}
use Rattle.pc_cert.specs.Reading.{certificate_reading}
use Rattle.pc_driver.specs.Files.{HasText, HoldsText}
use Rattle.pc_driver.proofs.Files.{held_map, holds}
use Rattle.pc_checker.specs.Certificates.{AreWritten, HasCertificateFault, Long_certificate, Unread_certificate, HoldsCertificate, IsTextOf, told_of_certificate}
use Rattle.pc_checker.specs.Checker.{LeavesCertificate}
use Rattle.pc_checker.specs.Compared.{IsGiven}
use Rattle.pc_checker.specs.Told as due
use Rattle.pc_checker.specs.declared.fault.CertificateFault.{CertificateFault}
use Rattle.pc_checker.specs.declared.fault.CertificateFault.TheVariants as fault
use Rattle.pc_checker.specs.declared.fault.CheckerFault.{CheckerFault}
use Rattle.pc_checker.specs.declared.fault.CheckerFault.TheVariants.{NoMemory, ReadFile, Certificate, WriteFile}
use Rattle.pc_checker.specs.models.Steps.{CertificateEnds, Was_accepted, Was_rejected, Was_not_read, Was_not_written, Was_lacking, Was_lacking_late}
use Rattle.pc_checker.specs.models.Steps.{FailsToWrite, Write_fails, Write_lacks, Finds, Finds_accepted, Finds_rejected, certificate_refusal, due_of}
use Rattle.pc_checker.specs.models.Steps.{NoCertificate, Certificate_without_memory, Certificate_without_file, Certificate_refused, RefusesBytes, Bytes_without_memory, Bytes_faulty}
use Rattle.pc_checker.proofs.Shelves.{kept_differs, same_keeps}

-- ---- bytes

-- what was read is the certificate that the bytes are the text of
pub text_of : (bytes : List ℕ) (entries : List Entry) → IsCertificate entries → HasNumbers entries → bytes ≡ certificate_text entries → IsTextOf bytes entries
text_of bytes entries certificate numbers text = record { written = record { certificate = certificate; numbers = numbers }; text = text }

-- bytes that are refused have a fault, or memory ran out
module _ (bytes : List ℕ) (few : length bytes ≤ most_object) where
  found : (why : CertificateError) (told : Option CertificateFault) → told_of_certificate why ≡ told → certificate_reading bytes ≡ Err why
      → RefusesBytes bytes (certificate_refusal told)
  found why None is first = Bytes_without_memory
  found why (Some what) is first = Bytes_faulty (Unread_certificate few first is)

  pub bytes_refused : (why : CertificateError) → IsRefusal (certificate_cause why) (certificate_reading bytes)
      → RefusesBytes bytes (certificate_refusal (told_of_certificate why))
  bytes_refused error.BadMagic first = found error.BadMagic _ refl first
  bytes_refused (error.Truncated offset) first = found (error.Truncated offset) _ refl first
  bytes_refused (error.BadFact offset) first = found (error.BadFact offset) _ refl first
  bytes_refused (error.BadStep offset) first = found (error.BadStep offset) _ refl first
  bytes_refused (error.Trailing offset) first = found (error.Trailing offset) _ refl first
  bytes_refused error.Memory first = Bytes_without_memory

-- ---- a file

-- it has the text of a certificate
pub certificate_held : (held : Option Files) (name bytes : List ℕ) (entries : List Entry) → HasText held name bytes → IsTextOf bytes entries
    → HoldsCertificate held name entries
certificate_held held name bytes entries has is = record { written = is.written; text = subst (λ bytes. HasText held name bytes) is.text has }

-- or bytes that are refused
pub certificate_faulty : (name : List ℕ) (old new : Shelved) (bytes : List ℕ) (what : CheckerFault) → HasText old.held name bytes → RefusesBytes bytes what
    → NoCertificate name old new what
certificate_faulty name old new bytes what has Bytes_without_memory = Certificate_without_memory
certificate_faulty name old new bytes what has (Bytes_faulty {what = kind} faulty) =
    Certificate_refused (holds old.held name bytes (λ bytes. HasCertificateFault bytes kind) has faulty)

-- or too many
pub certificate_long : (name : List ℕ) (old new : Shelved) → HoldsText old.held name (λ bytes. most_object < length bytes)
    → NoCertificate name old new (Certificate fault.TooLong)
certificate_long name old new long =
    Certificate_refused (held_map old.held name (λ bytes. most_object < length bytes) (λ bytes. HasCertificateFault bytes fault.TooLong)
    (λ bytes many. Long_certificate many) long)

-- or it was not read
pub certificate_unread : (name : Bor (List ℕ)) (old new : Shelved) → ReadFaultOf old new name.now → NoCertificate name.now old new (ReadFile name)
certificate_unread name old new failed = Certificate_without_file refl failed

pub certificate_lacks : (name : List ℕ) (old new : Shelved) → NoCertificate name old new NoMemory
certificate_lacks name old new = Certificate_without_memory

pub ruleset certificates_due = (certificate_held, certificate_faulty, certificate_long, certificate_unread, certificate_lacks)

-- ---- a write

pub bytes_unwritten : (name : Bor (List ℕ)) (old new : Shelved) → OnlyFileDiffers old.held new.held name.now → WriteFaultOf old new name.now
    → FailsToWrite name.now old new (WriteFile name)
bytes_unwritten name old new differs failed = Write_fails refl differs failed

pub bytes_lack : (name : List ℕ) (old new : Shelved) → OnlyFileDiffers old.held new.held name → FailsToWrite name old new NoMemory
bytes_lack name old new differs = Write_lacks differs

-- where there is no memory for the bytes, nothing was written
pub no_bytes : (name : List ℕ) (old : Shelved) → FailsToWrite name old old NoMemory
no_bytes name old = Write_lacks (kept_differs old.held old.held name refl)

-- what was written is the certificate's text
pub certificate_written : (name bytes : List ℕ) (entries : List Entry) (old new : Option Files) → IsCertificate entries → HasNumbers entries
    → bytes ≡ certificate_text entries → HoldsFile old new name bytes → AreWritten entries × HoldsFile old new name (certificate_text entries)
certificate_written name bytes entries old new certificate numbers is written =
    (record { certificate = certificate; numbers = numbers }, subst (λ bytes. HoldsFile old new name bytes) is written)

pub ruleset writes_due = (bytes_unwritten, bytes_lack, no_bytes, certificate_written)

-- ---- with an object

-- which certificate is given
given_read : (held : Option Files) (make : Bool) (name : List ℕ) (entries : List Entry) → make ≡ false → HoldsCertificate held name entries → IsGiven held make name entries
given_read held make name entries off h = subst (λ make. IsGiven held make name entries) (sym off) h

given_made : (held : Option Files) (make : Bool) (name : List ℕ) (entries : List Entry) → make ≡ true → IsCertificate entries → IsGiven held make name entries
given_made held make name entries on h = subst (λ make. IsGiven held make name entries) (sym on) h

module _ (request : CheckRequest) (initial : List (List ℤ)) (table : Table) (object : CodeWithNotes) where
  -- nothing is there to be held against it
  pub certificate_stops : (old new : Shelved) (what : CheckerFault) → request.make ≡ false → NoCertificate request.certificate old new what → ReadKeeps old new
      → CertificateEnds request initial table object old new (due.Failure what)
  certificate_stops old new what off none keeps = Was_not_read off none keeps

  pub answer_lacks : (old new : Shelved) → ReadKeeps old new → CertificateEnds request initial table object old new (due.Failure NoMemory)
  answer_lacks old new keeps = Was_lacking keeps

  pub making_lacks : (old : Shelved) → CertificateEnds request initial table object old old (due.Failure NoMemory)
  making_lacks old = Was_lacking (same_keeps old)

  -- a certificate that was read is answered
  pub read_answered : (old new : Shelved) (entries : List Entry) (told : Option (Vec ℕ Global)) → request.make ≡ false
      → HoldsCertificate old.held request.certificate entries → ReadKeeps old new → Finds request.why initial table object.code entries told
      → CertificateEnds request initial table object old new (due_of told)
  read_answered old new entries told off held keeps (Finds_accepted accepts) =
      Was_accepted {entries = entries} (given_read old.held request.make request.certificate entries off held) accepts
      (subst (λ make. LeavesCertificate make old new request.certificate entries) (sym off) keeps)
  read_answered old new entries told off held keeps (Finds_rejected {rejection} {text} rejects is) =
      subst (λ text. CertificateEnds request initial table object old new (due.Rejection text)) (sym is)
      (Was_rejected {entries = entries} (given_read old.held request.make request.certificate entries off held) rejects keeps)

  -- one that was made is rejected
  pub made_rejected : (old : Shelved) (entries : List Entry) (text : Vec ℕ Global) → request.make ≡ true → IsCertificate entries
      → Finds request.why initial table object.code entries (Some text) → CertificateEnds request initial table object old old (due.Rejection text.items)
  made_rejected old entries text on certificate (Finds_rejected {rejection} rejects is) =
      subst (λ text. CertificateEnds request initial table object old old (due.Rejection text)) (sym is)
      (Was_rejected {entries = entries} (given_made old.held request.make request.certificate entries on certificate) rejects (same_keeps old))

  -- or accepted and written
  pub made_accepted : (old new : Shelved) (entries : List Entry) → request.make ≡ true → IsCertificate entries
      → Finds request.why initial table object.code entries None
      → AreWritten entries × HoldsFile old.held new.held request.certificate (certificate_text entries)
      → CertificateEnds request initial table object old new due.Success
  made_accepted old new entries on certificate (Finds_accepted accepts) written =
      Was_accepted {entries = entries} (given_made old.held request.make request.certificate entries on certificate) accepts
      (subst (λ make. LeavesCertificate make old new request.certificate entries) (sym on) written)

  -- or accepted and not written
  pub made_unwritten : (old new : Shelved) (entries : List Entry) (what : CheckerFault) → request.make ≡ true → IsCertificate entries
      → Finds request.why initial table object.code entries None → FailsToWrite request.certificate old new what
      → CertificateEnds request initial table object old new (due.Failure what)
  made_unwritten old new entries what on certificate (Finds_accepted accepts) (Write_fails is differs failed) =
      Was_not_written {entries = entries} on (given_made old.held request.make request.certificate entries on certificate) accepts is differs failed
  made_unwritten old new entries what on certificate (Finds_accepted accepts) (Write_lacks differs) =
      Was_lacking_late {entries = entries} on (given_made old.held request.make request.certificate entries on certificate) accepts differs

pub ruleset reads_due = (certificate_stops, answer_lacks, read_answered)

pub ruleset makes_due = (making_lacks, made_rejected, made_accepted, made_unwritten)
