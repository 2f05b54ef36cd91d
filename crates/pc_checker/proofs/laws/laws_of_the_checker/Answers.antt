-- The laws are lemmas, whatever the passes did.
use Rattle.pc_pass.specs.Pass.{Chain}
use Rattle.pc_checker.proofs.Statuses.{accepted_means, handed_means, statuses_of}
use Rattle.pc_checker.proofs.laws.laws_of_the_checker.Goals as goal

pub returns-clause-statuses : goal.returns-clause-statuses
returns-clause-statuses g c = λ before after. statuses_of (Chain g.P.Pass.does g.P.Pass.changed before after)

pub returns-clause-regions : goal.returns-clause-regions
returns-clause-regions g c = λ before after. handed_means (Chain g.P.Pass.does g.P.Pass.changed before after)

pub returns-clause-meaning : goal.returns-clause-meaning
returns-clause-meaning g c = λ before after. accepted_means (Chain g.P.Pass.does g.P.Pass.changed before after)
