use Rattle.pc_object.proofs.ReadingLaws as laws
use Rattle.pc_object.proofs.laws.one_object.Goals as goal

pub returns : goal.returns
returns c = laws.one_object
