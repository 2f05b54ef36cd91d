-- The law is a lemma.
use Rattle.pc_viewer.proofs.Statuses.{statuses_of}
use Rattle.pc_viewer.proofs.laws.laws_of_the_viewer.Goals as goal

pub returns : goal.returns
returns c = statuses_of
