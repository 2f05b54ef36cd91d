use Rattle.pc_regions.proofs.OneCut.{one_cut}
use Rattle.pc_regions.proofs.laws.law_of_one_cut.Goals as goal

pub returns : goal.returns
returns c = one_cut
