use Rattle.std.proofs.Common.{◌≡◌, ◌<◌, ◌≤◌, ◌*◌, ◌^◌, ◌∙◌, length, arith}
use Rattle.pc_live.specs.models.Rounds.{total}
use Rattle.pc_live.proofs.Rounds.{total_bound}
use Rattle.pc_live.proofs.solver.settle.Goals as goal

pub loop-smaller : goal.loop-smaller
loop-smaller g c =
    let kept : length c.loop.sets ≡ length c.args.flow.now.nodes = c.loop.auto.sets ∙ c.requires.as_many in
    let as_many : length c.round.new.sets ≡ length c.loop.sets = c.round.auto.sets in
    let bound : total c.round.new.sets ≤ length c.round.new.sets * 2 ^ 128 = total_bound c.round.new.sets c.round.ensures.grown.fit in
    let rises : total c.loop.sets < total c.round.new.sets = c.round.ensures.rose c.loop-test.true in
    omega (arith, kept, as_many, bound, rises)

pub returns : goal.returns
returns g c =
    record {
      as_many = c.round.auto.sets ∙ (c.loop.auto.sets ∙ c.requires.as_many);
      built = c.round.ensures.grown.built;
      closed = c.round.ensures.closed c.loop-test.false;
    }
