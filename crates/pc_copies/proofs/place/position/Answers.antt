use Rattle.pc_copies.proofs.Places.{none_further}
use Rattle.pc_copies.proofs.place.position.Goals as goal

pub loop-at-preserved : goal.loop-at-preserved
loop-at-preserved c = none_further c.args.path.now _ c.args.register c.loop-at.at c.loop-at-test.true c.loop-at.invariant c.if-path-at.false
