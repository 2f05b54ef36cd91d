use Rattle.pc_shared.proofs.reading.+places_at.Given as goal

abbrev pub decreases-places_at : goal.decreases-places_at
decreases-places_at l = l.most
