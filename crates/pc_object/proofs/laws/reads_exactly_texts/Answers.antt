use Rattle.pc_object.proofs.ReadingLaws.{reads_exactly}
use Rattle.pc_object.proofs.laws.reads_exactly_texts.Goals as goal

pub returns : goal.returns
returns c = reads_exactly
