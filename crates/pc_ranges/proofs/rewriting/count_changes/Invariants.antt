use Rattle.std.proofs.Common.{◌≤◌}
use Rattle.pc_scalar.specs.Tally.{AreMany}
use Rattle.pc_scalar.specs.models.Counted.{IsReachedAnd}
use Rattle.pc_ranges.specs.models.Rewriting.{node_changes}
use Rattle.pc_ranges.proofs.rewriting.count_changes.Given as goal

abbrev pub invariant-loop-at : goal.invariant-loop-at
invariant-loop-at l = record { counted : AreMany (IsReachedAnd (λ at node. node_changes l.map at node) l.flow) l.at l.count; few : l.count ≤ l.at }
