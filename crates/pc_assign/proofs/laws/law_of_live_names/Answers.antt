use Rattle.pc_assign.proofs.Apartness.{live_apart, variables_stay}
use Rattle.pc_assign.proofs.laws.law_of_live_names.Goals as goal

pub returns-clause-apart : goal.returns-clause-apart
returns-clause-apart c = live_apart

pub returns-clause-variables : goal.returns-clause-variables
returns-clause-variables c = variables_stay
