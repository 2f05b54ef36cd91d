use Rattle.pc_renaming.proofs.checking.both_stay.Goals as goal

pub returns-then-write_alike-clause-alike : goal.returns-then-write_alike-clause-alike
returns-then-write_alike-clause-alike c = c.write_alike.ensures.alike c.if-write_alike.true
