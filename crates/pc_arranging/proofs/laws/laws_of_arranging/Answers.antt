use Rattle.pc_arranging.proofs.Lawful.{arranging_changes, arranged_proper}
use Rattle.pc_arranging.proofs.Once.{arranged_once}
use Rattle.pc_arranging.proofs.laws.laws_of_arranging.Goals as goal

pub returns-clause-changes : goal.returns-clause-changes
returns-clause-changes c = arranging_changes

pub returns-clause-proper : goal.returns-clause-proper
returns-clause-proper c = arranged_proper

pub returns-clause-once : goal.returns-clause-once
returns-clause-once c = arranged_once
