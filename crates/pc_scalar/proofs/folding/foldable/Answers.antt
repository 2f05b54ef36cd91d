use Rattle.std.proofs.Common.{inl, inr, arith}
use Rattle.pc_scalar.specs.Folded.{is_foldable}
use Rattle.pc_scalar.specs.Tally.{None_below}
use Rattle.pc_scalar.specs.models.Counted.{IsReachedAnd}
use Rattle.pc_scalar.proofs.Tallies.{counted_next}
use Rattle.pc_scalar.proofs.folding.foldable.Goals.{then-is_folded, else-is_folded}
use Rattle.pc_scalar.proofs.folding.foldable.Goals as goal

pub loop-at-init : goal.loop-at-init
loop-at-init c = record { counted = None_below; few = omega arith }

pub loop-at-preserved : goal.loop-at-preserved
loop-at-preserved c =
    let next = counted_next (IsReachedAnd (λ at. is_foldable) c.args.flow.now) c.loop-at.at c.loop-at.count c.if-is_folded.count c.loop-at.invariant.counted in
    elim c.if-is_folded.branch [
      | then-is_folded w ↦ record { counted = next (inl (c.is_folded.ensures.counted w.if-is_folded.true, w.count-is)); few = omega (arith, w.count-is, c.loop-at.invariant.few) }
      | else-is_folded w ↦ record { counted = next (inr (c.is_folded.ensures.left w.if-is_folded.false, w.count-is)); few = omega (arith, w.count-is, c.loop-at.invariant.few) }
    ]
