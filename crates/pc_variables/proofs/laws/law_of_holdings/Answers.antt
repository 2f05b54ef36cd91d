use Rattle.pc_variables.proofs.Grounds.{grounds}
use Rattle.pc_variables.proofs.Once.{once}
use Rattle.pc_variables.proofs.laws.law_of_holdings.Goals as goal

pub returns-clause-grounds : goal.returns-clause-grounds
returns-clause-grounds c = grounds

pub returns-clause-once : goal.returns-clause-once
returns-clause-once c = once
