use Rattle.std.proofs.Common.{inl, inr, arith}
use Rattle.pc_scalar.specs.models.Needed.{node_needless}
use Rattle.pc_scalar.specs.Tally.{None_below}
use Rattle.pc_scalar.specs.models.Counted.{IsReachedAnd}
use Rattle.pc_scalar.proofs.Tallies.{counted_next}
use Rattle.pc_scalar.proofs.clearing.count_skipped.Goals.{then-is_skipped, else-is_skipped}
use Rattle.pc_scalar.proofs.clearing.count_skipped.Goals as goal

pub loop-at-init : goal.loop-at-init
loop-at-init c = record { counted = None_below; few = omega arith }

pub loop-at-preserved : goal.loop-at-preserved
loop-at-preserved c =
    let next = counted_next (IsReachedAnd (λ at. node_needless c.args.sets.now) c.args.flow.now) c.loop-at.at c.loop-at.count c.if-is_skipped.count c.loop-at.invariant.counted in
    elim c.if-is_skipped.branch [
      | then-is_skipped w ↦ record { counted = next (inl (c.is_skipped.ensures.counted w.if-is_skipped.true, w.count-is)); few = omega (arith, w.count-is, c.loop-at.invariant.few) }
      | else-is_skipped w ↦ record { counted = next (inr (c.is_skipped.ensures.left w.if-is_skipped.false, w.count-is)); few = omega (arith, w.count-is, c.loop-at.invariant.few) }
    ]
