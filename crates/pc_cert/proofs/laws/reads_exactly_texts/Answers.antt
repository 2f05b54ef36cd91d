use Rattle.std.proofs.Common.{ap, ◌∙◌}
use Rattle.pc_cert.specs.Reading.{certificate_reading}
use Rattle.pc_cert.proofs.ReadingLaws.{reads_certificates, reads_text}
use Rattle.pc_cert.proofs.laws.reads_exactly_texts.Goals as goal

pub returns : goal.returns
returns c = λ bytes entries fits few. (reads_certificates bytes entries fits few, λ h. ap certificate_reading h.2 ∙ reads_text entries h.0 h.1)
