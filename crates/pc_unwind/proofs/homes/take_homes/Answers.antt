use Rattle.pc_unwind.proofs.StubHomes.{none_cleared, home_cleared, all_cleared, still_all}
use Rattle.pc_unwind.proofs.homes.take_homes.Goals as goal

pub loop-at-init : goal.loop-at-init
loop-at-init c = (none_cleared c.args.by_variable.now c.args.homes.now c.requires.put, c.requires.all)

pub loop-at-preserved : goal.loop-at-preserved
loop-at-preserved c =
    let kept = c.loop-at.invariant in
    (home_cleared c.loop-at.by_variable c.args.homes.now c.loop-at.at _ kept.0 c.loop-at-test.true kept.1 c.requires.small, still_all c.loop-at.by_variable _ _ kept.1)

pub returns-clause-empty : goal.returns-clause-empty
returns-clause-empty c = all_cleared c.loop-at.by_variable c.args.homes.now c.loop-at.at c.loop-at.invariant.0 c.loop-at-test.false
