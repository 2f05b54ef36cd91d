use Rattle.std.proofs.Common.{inl, inr, arith}
use Rattle.pc_scalar.specs.Tally.{None_below}
use Rattle.pc_scalar.specs.models.Counted.{IsReachedAnd}
use Rattle.pc_scalar.proofs.Tallies.{counted_next}
use Rattle.pc_ranges.specs.models.Rewriting.{node_changes}
use Rattle.pc_ranges.proofs.rewriting.count_changes.Goals.{then-is_changed, else-is_changed}
use Rattle.pc_ranges.proofs.rewriting.count_changes.Goals as goal

pub loop-at-init : goal.loop-at-init
loop-at-init c = record { counted = None_below; few = omega arith }

pub loop-at-preserved : goal.loop-at-preserved
loop-at-preserved c =
    let next = counted_next (IsReachedAnd (λ at node. node_changes c.args.map.now at node) c.args.flow.now) c.loop-at.at c.loop-at.count c.if-is_changed.count
    c.loop-at.invariant.counted in
    elim c.if-is_changed.branch [
      | then-is_changed w ↦ record { counted = next (inl (c.is_changed.ensures.counted w.if-is_changed.true, w.count-is)); few = omega (arith, w.count-is, c.loop-at.invariant.few) }
      | else-is_changed w ↦ record { counted = next (inr (c.is_changed.ensures.left w.if-is_changed.false, w.count-is)); few = omega (arith, w.count-is, c.loop-at.invariant.few) }
    ]
