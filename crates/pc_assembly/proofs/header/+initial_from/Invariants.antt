use Rattle.pc_assembly.proofs.header.+initial_from.Given as goal

abbrev pub decreases-initial_from : goal.decreases-initial_from
decreases-initial_from l = l.count
