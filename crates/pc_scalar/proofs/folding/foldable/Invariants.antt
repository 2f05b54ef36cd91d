use Rattle.std.proofs.Common.{◌≤◌}
use Rattle.pc_scalar.specs.Folded.{is_foldable}
use Rattle.pc_scalar.specs.Tally.{AreMany}
use Rattle.pc_scalar.specs.models.Counted.{IsReachedAnd}
use Rattle.pc_scalar.proofs.folding.foldable.Given as goal

abbrev pub invariant-loop-at : goal.invariant-loop-at
invariant-loop-at l = record { counted : AreMany (IsReachedAnd (λ at. is_foldable) l.flow) l.at l.count; few : l.count ≤ l.at }
