use Rattle.pc_settling.proofs.BegunLaws.{one_beginning, begun_agrees, entered_agrees, begun_agrees_in_region}
use Rattle.pc_settling.proofs.laws.laws_of_beginning.Goals as goal

pub returns-clause-one : goal.returns-clause-one
returns-clause-one c = one_beginning

pub returns-clause-agrees : goal.returns-clause-agrees
returns-clause-agrees c = begun_agrees

pub returns-clause-entered : goal.returns-clause-entered
returns-clause-entered c = entered_agrees

pub returns-clause-in_region : goal.returns-clause-in_region
returns-clause-in_region c = begun_agrees_in_region
