-- The law is a lemma.
use Rattle.pc_count.proofs.Least.{cycles-least}
use Rattle.pc_count.proofs.laws.laws_of_cycles.Goals as goal

pub returns : goal.returns
returns c = cycles-least
