use Rattle.pc_window.proofs.Settling.{unwinds_keep, tidies_keep, tidies_keep_walk, tidies_roots, rebases_keep}
use Rattle.pc_window.proofs.Proper.{unwinds_proper, tidies_proper, rebases_proper}
use Rattle.pc_window.proofs.Tidying.{tidied_is_tidy}
use Rattle.pc_window.proofs.FirstJumps.{unwinding_one}
use Rattle.pc_window.proofs.laws.laws_of_settling.Goals as goal

pub returns-clause-unwinding : goal.returns-clause-unwinding
returns-clause-unwinding c = λ table keeps number w v h p. (unwinds_proper table number w v h p, unwinds_keep table keeps number w v h p)

pub returns-clause-one_end : goal.returns-clause-one_end
returns-clause-one_end c = unwinding_one

pub returns-clause-tidying : goal.returns-clause-tidying
returns-clause-tidying c = λ table w v h p. (tidies_proper w v h p, tidies_keep table w v h)

pub returns-clause-tidying_walk : goal.returns-clause-tidying_walk
returns-clause-tidying_walk c = tidies_keep_walk

pub returns-clause-tidy : goal.returns-clause-tidy
returns-clause-tidy c = tidied_is_tidy

pub returns-clause-rooted : goal.returns-clause-rooted
returns-clause-rooted c = tidies_roots

pub returns-clause-rebasing : goal.returns-clause-rebasing
returns-clause-rebasing c = λ table w v h p. (rebases_proper w v h p, rebases_keep table w v h p)
