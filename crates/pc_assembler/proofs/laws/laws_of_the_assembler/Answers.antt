-- The law is a lemma.
use Rattle.pc_assembler.proofs.Statuses.{statuses_of}
use Rattle.pc_assembler.proofs.laws.laws_of_the_assembler.Goals as goal

pub returns : goal.returns
returns c = statuses_of
