use Rattle.std.proofs.Common.{◌<◌, length, arith}
use Rattle.pc_live.proofs.Rounds.{update_grown}
use Rattle.pc_live.proofs.solver.update.Goals as goal

pub returns-clause-grown : goal.returns-clause-grown
returns-clause-grown g c =
    let there : c.args.at < length c.args.sets.now = omega (arith, c.requires.there, c.requires.as_many) in
    update_grown g.A.BackwardAnalysis.counts c.args.flow.now c.args.sets.now c.args.at c.needed_before-needed.result c.add.new.self c.requires.grown there
    c.needed_before-needed.ensures c.add.ensures.both c.add.ensures.fits
