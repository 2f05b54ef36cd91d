use Rattle.pc_shared.proofs.reading.+size_at.Given as goal

abbrev pub decreases-size_at : goal.decreases-size_at
decreases-size_at l = l.most
