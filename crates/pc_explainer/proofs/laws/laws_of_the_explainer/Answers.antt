use Rattle.pc_pass.specs.Pass.{Chain}
use Rattle.pc_explainer.proofs.Statuses.{statuses_of}
use Rattle.pc_explainer.proofs.laws.laws_of_the_explainer.Goals as goal

pub returns : goal.returns
returns g c = λ before after. statuses_of (Chain g.P.Pass.does g.P.Pass.changed before after)
