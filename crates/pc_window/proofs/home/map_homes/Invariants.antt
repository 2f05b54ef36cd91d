use Rattle.pc_window.proofs.HomesMapped.{HomesSoFar}
use Rattle.pc_window.proofs.home.map_homes.Given as goal

abbrev pub invariant-loop-at : goal.invariant-loop-at
invariant-loop-at g l = HomesSoFar (λ o p. goal.F-post g l.f o p) l.at l.initial.homes l.homes
