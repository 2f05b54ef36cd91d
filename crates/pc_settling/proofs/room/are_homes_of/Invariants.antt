use Rattle.std.proofs.Common.{◌≡◌, drop}
use Rattle.pc_settling.specs.Begun.{are_homes_of}
use Rattle.pc_settling.proofs.room.are_homes_of.Given as goal

-- those so far are, and so it stands with those that follow
abbrev pub invariant-loop-at : goal.invariant-loop-at
invariant-loop-at l = are_homes_of l.variables l.homes ≡ are_homes_of (drop l.at l.variables) (drop l.at l.homes)
