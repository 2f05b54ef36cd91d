use Rattle.std.proofs.Common.{arith}
use Rattle.pc_window.proofs.HomesStored.{home_added}
use Rattle.pc_window.proofs.grafting.listed.Goals as goal

pub loop-at-preserved : goal.loop-at-preserved
loop-at-preserved c =
    home_added c.args.homes.now c.args.variables.now c.loop-at.at c.loop-at.list.items c.push.new.self.items _ c.loop-at.invariant c.at_home-value.ensures c.in_ok-push.ensures.items
    (omega (arith, c.loop-at-test.true))
