use Rattle.pc_word.proofs.Runs.{Agree-refl, Agree-trans, Agree-ends, Agree-ended}
use Rattle.pc_word.proofs.laws.laws_of_agreement.Goals as goal

pub returns-clause-reflexive : goal.returns-clause-reflexive
returns-clause-reflexive c = Agree-refl

pub returns-clause-transitive : goal.returns-clause-transitive
returns-clause-transitive c = Agree-trans

pub returns-clause-ends : goal.returns-clause-ends
returns-clause-ends c = Agree-ends

pub returns-clause-ended : goal.returns-clause-ended
returns-clause-ended c = Agree-ended
