use Rattle.std.proofs.Common.{rules}
use Rattle.pc_live.proofs.Rounds.{start_grown}
use Rattle.pc_live.proofs.solver.solve.Goals as goal

pub settle-requires-clause-grown : goal.settle-requires-clause-grown
settle-requires-clause-grown g c =
    let start = start_grown g.A.BackwardAnalysis.counts c.args.flow.now in search (rules, start)
