use Rattle.std.proofs.Common.{◌≡◌, ◌++◌, length, reverse}
use Rattle.pc_copies.specs.models.Arranging.{if_any}
use Rattle.pc_copies.proofs.packing.Packing.in_order.Given as goal

abbrev pub invariant-loop-row : goal.invariant-loop-row
invariant-loop-row l = l.ordered ++ reverse l.rows ≡ if_any l.fn.self.first ++ reverse l.fn.self.rows

abbrev pub decreases-loop-row : goal.decreases-loop-row
decreases-loop-row l = length l.rows
