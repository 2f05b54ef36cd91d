-- Laws of the format, of every certificate and all bytes. Each is the contract of a function of laws.rt, which does nothing.
use Rattle.std.specs.Prelude.{◌≡◌, ℕ, ◌<◌, ◌≤◌, ◌↔◌, List, ◌∷◌, ◌++◌, length, slice_index, Ok, Err}
use Rattle.pc_word.specs.MachineLimits.{most_object}
use Rattle.pc_cert.specs.declared.certificate.Entry.{Entry}
use Rattle.pc_cert.specs.declared.refusal.CertificateError.TheVariants.{Trailing}
use Rattle.pc_cert.specs.CertificateText.{certificate_text, IsCertificate}
use Rattle.pc_cert.specs.Numbers.{HasNumbers}
use Rattle.pc_cert.specs.Reading.{certificate_reading}

-- each text is the text of one certificate
abbrev pub OneTextOneCertificate : Type 0
OneTextOneCertificate = (a b : List Entry) → IsCertificate a → IsCertificate b → HasNumbers a → HasNumbers b
    → certificate_text a ≡ certificate_text b → a ≡ b

-- bytes are read as a certificate exactly where they are its text
abbrev pub ReadsExactlyTexts : Type 0
ReadsExactlyTexts = (bytes : List ℕ) (entries : List Entry) → ((i : ℕ) → slice_index bytes i < 256) → length bytes ≤ most_object
    → (certificate_reading bytes ≡ Ok entries) ↔ (IsCertificate entries × HasNumbers entries × (bytes ≡ certificate_text entries))

-- what follows a certificate's text is refused at its first byte
abbrev pub LongerIsTrailing : Type 0
LongerIsTrailing = (entries : List Entry) (byte : ℕ) (more : List ℕ) → IsCertificate entries → HasNumbers entries
    → certificate_reading (certificate_text entries ++ byte ∷ more) ≡ Err (Trailing (length (certificate_text entries)))
