use Rattle.pc_settling.proofs.FoundArrivals.{found_arrivals}
use Rattle.pc_settling.proofs.FoundProgress.{found_progress}
use Rattle.pc_settling.proofs.laws.laws_of_arriving.Goals as goal

pub returns-clause-arrivals : goal.returns-clause-arrivals
returns-clause-arrivals c = found_arrivals

pub returns-clause-progress : goal.returns-clause-progress
returns-clause-progress c = found_progress
