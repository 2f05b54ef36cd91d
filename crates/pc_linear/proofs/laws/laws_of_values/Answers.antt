use Rattle.std.proofs.Common.{refl}
use Rattle.pc_linear.proofs.Forms.{variable_means}
use Rattle.pc_linear.proofs.Values.{value-means, means-value, value-same}
use Rattle.pc_linear.proofs.Equalities.{never_equal-differ}
use Rattle.pc_linear.proofs.laws.laws_of_values.Goals as goal

pub returns-clause-meant : goal.returns-clause-meant
returns-clause-meant c = λ σ f h. value-means σ f h

pub returns-clause-variable : goal.returns-clause-variable
returns-clause-variable c = λ σ v. variable_means σ v (σ v) refl

pub returns-clause-only : goal.returns-clause-only
returns-clause-only c = means-value

pub returns-clause-words : goal.returns-clause-words
returns-clause-words c = value-same

pub returns-clause-differ : goal.returns-clause-differ
returns-clause-differ c = never_equal-differ
