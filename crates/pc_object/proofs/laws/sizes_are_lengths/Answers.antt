use Rattle.pc_object.proofs.Lengths as sizes
use Rattle.pc_object.proofs.laws.sizes_are_lengths.Goals as goal

pub returns : goal.returns
returns c = sizes.sizes_are_lengths
