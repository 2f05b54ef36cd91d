use Rattle.pc_cycles.proofs.Bounded.{bounds_are_kept}
use Rattle.pc_cycles.proofs.laws.law_of_bounds.Goals as goal

pub returns : goal.returns
returns c = bounds_are_kept
