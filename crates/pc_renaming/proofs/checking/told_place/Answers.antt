use Rattle.pc_renaming.proofs.Wanting.{told_on}
use Rattle.pc_renaming.proofs.checking.told_place.Goals as goal

pub loop-holding-preserved : goal.loop-holding-preserved
loop-holding-preserved c =
    told_on c.args.held.now c.loop-holding.holding-index _ c.loop-holding.place c.with_told-place.result c.args.register c.loop-holding-test.true
    c.with_told-place.ensures c.loop-holding.invariant
