use Rattle.pc_profiler.proofs.Statuses.{statuses_of}
use Rattle.pc_profiler.proofs.laws.laws_of_the_profiler.Goals as goal

pub returns : goal.returns
returns c = statuses_of
