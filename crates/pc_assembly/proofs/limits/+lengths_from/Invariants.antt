use Rattle.pc_assembly.proofs.limits.+lengths_from.Given as goal

abbrev pub decreases-lengths_from : goal.decreases-lengths_from
decreases-lengths_from l = l.room
