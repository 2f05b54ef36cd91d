use Rattle.std.proofs.Common.{◌≡◌, drop}
use Rattle.pc_renaming.specs.Witness.{home_after, home_of}
use Rattle.pc_renaming.proofs.checking.told_place.Given as goal

-- with what is left to tell, the place so far is what all of it tells
abbrev pub invariant-loop-holding : goal.invariant-loop-holding
invariant-loop-holding l = home_after (λ register. l.place) (drop l.holding-index l.held) l.register ≡ home_of l.held l.register
