use Rattle.pc_live.proofs.Dead.{step_alike, run_same}
use Rattle.pc_live.proofs.laws.law_of_dead_variables.Goals as goal

pub returns-clause-unit : goal.returns-clause-unit
returns-clause-unit c = step_alike

pub returns-clause-run : goal.returns-clause-run
returns-clause-run c flow s t n alike = run_same flow n s t alike
