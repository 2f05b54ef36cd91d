use Rattle.std.proofs.Common.{◌≡◌, ◌<◌, ◌≤◌, ℕ, true, false, length}
use Rattle.pc_live.specs.Backward.{IsClosedAt}
use Rattle.pc_live.specs.models.Rounds.{AreGrown, total}
use Rattle.pc_live.proofs.solver.round.Given as goal

-- the nodes from `at` on have had their turn; if no set grew, their sets lack nothing
abbrev pub invariant-loop-at : goal.invariant-loop-at
invariant-loop-at g l = record {
  within : l.at ≤ length l.flow.nodes;
  grown : AreGrown g.A.BackwardAnalysis.counts l.flow l.sets;
  rises : total l.initial.sets ≤ total l.sets;
  rose : l.grew ≡ true → total l.initial.sets < total l.sets;
  closed : l.grew ≡ false → (at : ℕ) → l.at ≤ at → at < length l.flow.nodes → IsClosedAt g.A.BackwardAnalysis.counts l.flow l.sets at;
}

abbrev pub decreases-loop-at : goal.decreases-loop-at
decreases-loop-at g l = l.at
