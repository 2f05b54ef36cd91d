use Rattle.std.proofs.Common.{◌≡◌, drop}
use Rattle.pc_canon.specs.Canonical.{side_by_side}
use Rattle.pc_settling.specs.Arrives.{paired_name}
use Rattle.pc_settling.proofs.arriving.paired_name.Given as goal

-- the name is among those that follow
abbrev pub invariant-loop-at : goal.invariant-loop-at
invariant-loop-at l = paired_name (side_by_side l.ones l.others) l.other ≡ paired_name (side_by_side (drop l.at l.ones) (drop l.at l.others)) l.other
