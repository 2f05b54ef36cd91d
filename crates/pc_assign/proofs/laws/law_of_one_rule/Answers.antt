use Rattle.pc_assign.proofs.Unique.{only_one}
use Rattle.pc_assign.proofs.laws.law_of_one_rule.Goals as goal

pub returns : goal.returns
returns c = only_one
