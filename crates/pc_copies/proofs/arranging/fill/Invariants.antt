use Rattle.std.proofs.Common.{◌≤◌, drop, length}
use Rattle.pc_copies.specs.models.Arranging.{IsTable}
use Rattle.pc_copies.proofs.arranging.fill.Given as goal

abbrev pub invariant-loop-at : goal.invariant-loop-at
invariant-loop-at l = record { within : l.at ≤ length l.moves; so_far : IsTable (drop l.at l.moves) l.table }

abbrev pub decreases-loop-at : goal.decreases-loop-at
decreases-loop-at l = l.at
