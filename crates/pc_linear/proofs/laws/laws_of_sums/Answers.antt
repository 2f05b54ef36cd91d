use Rattle.pc_linear.proofs.Normal.{plus-factor, plus-normal, same_form}
use Rattle.pc_linear.proofs.laws.laws_of_sums.Goals as goal

pub returns-clause-factors : goal.returns-clause-factors
returns-clause-factors c = λ f g n x h. plus-factor f n g x h

pub returns-clause-normal : goal.returns-clause-normal
returns-clause-normal c = λ f g n h. plus-normal f n g h

pub returns-clause-only : goal.returns-clause-only
returns-clause-only c = same_form
