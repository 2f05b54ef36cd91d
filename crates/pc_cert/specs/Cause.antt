-- What a refusal of bytes is due to, if not to want of memory.
use Rattle.std.specs.Prelude.{Option, Some, None}
use Rattle.pc_cert.specs.declared.refusal.CertificateError.{CertificateError}
use Rattle.pc_cert.specs.declared.refusal.CertificateError.TheVariants.{BadMagic, Truncated, BadFact, BadStep, Trailing, Memory}

-- each refusal is its own cause; want of memory has none
abbrev pub certificate_cause : CertificateError → Option CertificateError
certificate_cause BadMagic = Some BadMagic
certificate_cause (Truncated offset) = Some (Truncated offset)
certificate_cause (BadFact offset) = Some (BadFact offset)
certificate_cause (BadStep offset) = Some (BadStep offset)
certificate_cause (Trailing offset) = Some (Trailing offset)
certificate_cause Memory = None
