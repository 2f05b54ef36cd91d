use Rattle.pc_sample.proofs.Lengths.{sample_short}
use Rattle.pc_sample.proofs.laws.laws_of_samples.Goals as goal

pub returns : goal.returns
returns c = sample_short
