use Rattle.pc_ranges.proofs.making.visit_all.Given as goal

abbrev pub decreases-loop-left : goal.decreases-loop-left
decreases-loop-left l = l.steps
