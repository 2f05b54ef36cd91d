use Rattle.std.proofs.Common.{◌≤◌}
use Rattle.pc_scalar.specs.models.Needed.{node_needless}
use Rattle.pc_scalar.specs.Tally.{AreMany}
use Rattle.pc_scalar.specs.models.Counted.{IsReachedAnd}
use Rattle.pc_scalar.proofs.clearing.count_skipped.Given as goal

abbrev pub invariant-loop-at : goal.invariant-loop-at
invariant-loop-at l = record { counted : AreMany (IsReachedAnd (λ at. node_needless l.sets) l.flow) l.at l.count; few : l.count ≤ l.at }
