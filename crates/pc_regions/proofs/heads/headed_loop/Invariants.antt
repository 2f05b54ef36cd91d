use Rattle.std.proofs.Common.{◌≡◌, ℕ, ◌<◌, length, Some}
use Rattle.std.specs.Prelude.{IfSome}
use Rattle.pc_flow.specs.FlowGraph.{IsFlow}
use Rattle.pc_regions.specs.Loops.{BelongsTo}
use Rattle.pc_regions.specs.models.Entering.{depth_bound, InLoop, header_at}
use Rattle.pc_regions.proofs.heads.headed_loop.Given as goal

-- a loop whose header the node is stands round the loops passed
abbrev pub invariant-loop-inner : goal.invariant-loop-inner
invariant-loop-inner l = record {
  kept : IsFlow l.flow;
  inner_there : IfSome l.inner (λ loop. loop < length l.flow.loops);
  round : (loop : ℕ) → BelongsTo l.flow loop l.at → header_at l.headers loop ≡ Some l.at → InLoop l.flow.loops l.inner loop;
}

abbrev pub decreases-loop-inner : goal.decreases-loop-inner
decreases-loop-inner l = depth_bound l.inner
