use Rattle.std.proofs.Common.{◌≡◌, ap, arith}
use Rattle.pc_live.specs.models.Rounds.{total}
use Rattle.pc_live.proofs.Rounds.{turn_closed}
use Rattle.pc_live.proofs.solver.round.Goals as goal

pub loop-at-preserved : goal.loop-at-preserved
loop-at-preserved g c =
    let same : c.update.new.sets ≡ c.loop-at.sets = c.update.ensures.same c.if-update.false in
    let as_before : total c.update.new.sets ≡ total c.loop-at.sets = ap total same in
    record {
      within = omega (arith, c.loop-at.invariant.within);
      grown = c.update.ensures.grown;
      rises = omega (arith, as_before, c.loop-at.invariant.rises);
      rose = λ e. omega (arith, as_before, c.loop-at.invariant.rose e);
      closed = λ e. turn_closed g.A.BackwardAnalysis.counts c.args.flow.now c.loop-at.sets c.update.new.sets c.loop-at.at same
          (c.update.ensures.closed c.if-update.false) (c.loop-at.invariant.closed e);
    }
