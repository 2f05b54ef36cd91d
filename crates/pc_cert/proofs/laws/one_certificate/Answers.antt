use Rattle.pc_cert.proofs.ReadingLaws.{one_certificate}
use Rattle.pc_cert.proofs.laws.one_certificate.Goals as goal

pub returns : goal.returns
returns c = one_certificate
