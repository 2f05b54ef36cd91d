use Rattle.std.proofs.Common.{◌*◌, ◌^◌, ◌-◌, length}
use Rattle.pc_live.specs.models.Rounds.{AreGrown, total}
use Rattle.pc_live.proofs.solver.settle.Given as goal

-- the sets hold only what is live
abbrev pub invariant-loop : goal.invariant-loop
invariant-loop g l = AreGrown g.A.BackwardAnalysis.counts l.flow l.sets

-- the sum of the sets rises, and has a bound
abbrev pub decreases-loop : goal.decreases-loop
decreases-loop g l = length l.flow.nodes * 2 ^ 128 - total l.sets
