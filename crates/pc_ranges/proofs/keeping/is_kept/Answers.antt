use Rattle.std.proofs.Common.{arith, below_more}
use Rattle.pc_ranges.proofs.Kept.{all_kept}
use Rattle.pc_ranges.proofs.keeping.is_kept.Goals as goal

pub loop-at-preserved : goal.loop-at-preserved
loop-at-preserved c = below_more _ _ c.loop-at.invariant (c.goes_on.ensures c.if-not-goes_on.false)

pub returns : goal.returns
returns c = λ e. all_kept c.args.flow.now c.args.map.now (c.begins.ensures c.if-not-begins.false)
    (λ at low. c.loop-at.invariant at (omega (arith, low, c.count-at-end.ensures.number)))
