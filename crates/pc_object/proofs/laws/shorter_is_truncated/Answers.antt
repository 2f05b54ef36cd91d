use Rattle.pc_object.proofs.Shorter.{reads_shorter}
use Rattle.pc_object.proofs.laws.shorter_is_truncated.Goals as goal

pub returns : goal.returns
returns c = reads_shorter
