use Rattle.std.proofs.Common.{◌≤◌}
use Rattle.pc_scalar.specs.Tally.{AreMany}
use Rattle.pc_forward.specs.models.Walking.{BecameCopy}
use Rattle.pc_forward.proofs.walking.changes.Given as goal

abbrev pub invariant-loop-at : goal.invariant-loop-at
invariant-loop-at l = record { counted : AreMany (BecameCopy l.flow.nodes l.nodes) l.at l.count; few : l.count ≤ l.at }
