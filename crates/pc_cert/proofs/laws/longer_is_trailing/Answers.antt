use Rattle.pc_cert.proofs.ReadingLaws.{reads_longer}
use Rattle.pc_cert.proofs.laws.longer_is_trailing.Goals as goal

pub returns : goal.returns
returns c = reads_longer
