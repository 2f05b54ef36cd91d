use Rattle.pc_accepted.proofs.Once.{one_answer}
use Rattle.pc_accepted.proofs.laws.law_of_answers.Goals as goal

pub returns : goal.returns
returns c = one_answer
