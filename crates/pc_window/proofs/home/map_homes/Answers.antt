use Rattle.std.proofs.Common.{◌+◌, sym, subst}
use Rattle.pc_window.proofs.HomesMapped.{HomesSoFar, one_mapped}
use Rattle.pc_window.proofs.home.map_homes.Goals as goal

pub loop-at-preserved : goal.loop-at-preserved
loop-at-preserved g c =
    subst (HomesSoFar _ (c.loop-at.at + 1) c.args.homes.now) (sym c.set.ensures)
    (one_mapped _ c.loop-at.at c.args.homes.now c.loop-at.homes c.home_at-home.result c.f.result c.loop-at.invariant c.home_at-home.ensures c.f.ensures)
