use Rattle.std.proofs.Common.{inl, inr, arith}
use Rattle.pc_scalar.specs.Tally.{None_below}
use Rattle.pc_scalar.proofs.Tallies.{counted_next}
use Rattle.pc_forward.specs.models.Walking.{BecameCopy}
use Rattle.pc_forward.proofs.walking.changes.Goals.{then-became_copy, else-became_copy}
use Rattle.pc_forward.proofs.walking.changes.Goals as goal

pub loop-at-init : goal.loop-at-init
loop-at-init c = record { counted = None_below; few = omega arith }

pub loop-at-preserved : goal.loop-at-preserved
loop-at-preserved c =
    let next = counted_next (BecameCopy c.args.flow.now.nodes c.args.nodes.now) c.loop-at.at c.loop-at.count c.if-became_copy.count c.loop-at.invariant.counted in
    elim c.if-became_copy.branch [
      | then-became_copy w ↦ record { counted = next (inl (c.became_copy.ensures.copies w.if-became_copy.true, w.count-is)); few = omega (arith, w.count-is, c.loop-at.invariant.few) }
      | else-became_copy w ↦ record { counted = next (inr (c.became_copy.ensures.left w.if-became_copy.false, w.count-is)); few = omega (arith, w.count-is, c.loop-at.invariant.few) }
    ]
