-- Which bytes are certificates, the files that hold them, and why other bytes are refused, as it is reported to a user.
use Rattle.std.specs.Prelude.{◌≡◌, ℕ, ◌<◌, ◌≤◌, List, length, Option, Some, None, Err}
use Rattle.pc_word.specs.MachineLimits.{most_object}
use Rattle.pc_outside.specs.Shelf.{Files}
use Rattle.pc_cert.specs.declared.certificate.Entry.{Entry}
use Rattle.pc_cert.specs.declared.refusal.CertificateError.{CertificateError}
use Rattle.pc_cert.specs.declared.refusal.CertificateError.TheVariants as error
use Rattle.pc_cert.specs.CertificateText.{IsCertificate, certificate_text}
use Rattle.pc_cert.specs.Numbers.{HasNumbers}
use Rattle.pc_cert.specs.Reading.{certificate_reading}
use Rattle.pc_driver.specs.Files.{HasText}
use Rattle.pc_checker.specs.declared.fault.CertificateFault.{CertificateFault}
use Rattle.pc_checker.specs.declared.fault.CertificateFault.TheVariants as fault

-- these entries have a text, and are what it is read as
pub record AreWritten (entries : List Entry) : Type 0 where
  pub certificate : IsCertificate entries
  pub numbers : HasNumbers entries

-- the bytes are the text of a certificate with these entries
pub record IsTextOf (bytes : List ℕ) (entries : List Entry) : Type 0 where
  pub written : AreWritten entries
  pub text : bytes ≡ certificate_text entries

-- the bytes are the text of no certificate
abbrev pub IsNoCertificate : List ℕ → Type 0
IsNoCertificate bytes = (entries : List Entry) → IsTextOf bytes entries → ⊥

-- the entries have a text, and where the shelf tells its files, the named one has it
pub record HoldsCertificate (held : Option Files) (name : List ℕ) (entries : List Entry) : Type 0 where
  pub written : AreWritten entries
  pub text : HasText held name (certificate_text entries)

-- ---- refusals

-- how the first thing that is wrong with a certificate is reported; want of memory is none
abbrev pub told_of_certificate : CertificateError → Option CertificateFault
told_of_certificate error.BadMagic = Some fault.BadMagic
told_of_certificate (error.Truncated offset) = Some (fault.Truncated offset)
told_of_certificate (error.BadFact offset) = Some (fault.BadFact offset)
told_of_certificate (error.BadStep offset) = Some (fault.BadStep offset)
told_of_certificate (error.Trailing offset) = Some (fault.Trailing offset)
told_of_certificate error.Memory = None

-- the bytes have this fault: they are too many, or this is the first thing that is wrong with them
pub data HasCertificateFault (bytes : List ℕ) : (what : CertificateFault) → Type 0 where
  Long_certificate : most_object < length bytes → HasCertificateFault bytes fault.TooLong
  Unread_certificate : {why : CertificateError} {what : CertificateFault} →
      length bytes ≤ most_object →
      certificate_reading bytes ≡ Err why →
      told_of_certificate why ≡ Some what →
      HasCertificateFault bytes what
