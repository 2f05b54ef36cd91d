use Rattle.pc_simulator.proofs.SimulatorStatuses.{statuses_of}
use Rattle.pc_simulator.proofs.laws.laws_of_the_simulator.Goals as goal

pub returns : goal.returns
returns c = statuses_of
