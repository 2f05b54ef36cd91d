use Rattle.pc_compile.proofs.OneAnswer.{one_answer_of_a_table}
use Rattle.pc_compile.proofs.laws.law_of_choices.Goals as goal

pub returns : goal.returns
returns c = one_answer_of_a_table
