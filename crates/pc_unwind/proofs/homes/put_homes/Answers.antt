use Rattle.std.proofs.Common.{◌∙◌, arith}
use Rattle.pc_unwind.proofs.StubHomes.{none_left, home_written, still_all}
use Rattle.pc_unwind.proofs.homes.put_homes.Goals as goal

pub loop-left-init : goal.loop-left-init
loop-left-init c = (omega arith, c.requires.empty ∙ none_left c.args.homes.now, c.requires.all)

pub loop-left-preserved : goal.loop-left-preserved
loop-left-preserved c =
    let kept = c.loop-left.invariant in
    (omega arith, home_written c.loop-left.by_variable c.args.homes.now c.loop-left.left _ kept.1 kept.0 c.loop-left-test.true kept.2 c.requires.small, still_all c.loop-left.by_variable _ _ kept.2)
