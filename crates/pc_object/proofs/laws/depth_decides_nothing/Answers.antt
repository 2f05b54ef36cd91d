use Rattle.pc_object.proofs.DepthLaws.{deepest_suffices}
use Rattle.pc_object.proofs.laws.depth_decides_nothing.Goals as goal

pub returns : goal.returns
returns c = deepest_suffices
