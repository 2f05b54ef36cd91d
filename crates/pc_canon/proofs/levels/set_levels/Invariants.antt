use Rattle.std.proofs.Common.{◌≡◌, ◌≤◌, drop, length}
use Rattle.pc_canon.specs.models.Written.{levels_of}
use Rattle.pc_canon.proofs.levels.set_levels.Given as goal

abbrev pub invariant-loop-at : goal.invariant-loop-at
invariant-loop-at l = (l.levels ≡ levels_of (drop l.at l.names) l.initial.levels) × (l.at ≤ length l.names)

abbrev pub decreases-loop-at : goal.decreases-loop-at
decreases-loop-at l = l.at
