use Rattle.std.proofs.Common.{◌≡◌, ℕ, ◌+◌, ◌<◌, List, length, Option, Some}
use Rattle.std.specs.Prelude.{IfSome, slice_get}
use Rattle.pc_flow.specs.FlowGraph.{IsFlow}
use Rattle.pc_regions.specs.models.Entering.{depth_bound, Enters}
use Rattle.pc_regions.proofs.headers.enter.Given as goal

-- what comes of the rest of the way comes of the whole way
abbrev pub invariant-loop-inner : goal.invariant-loop-inner
invariant-loop-inner l = record {
  kept : IsFlow l.flow;
  as_many : length l.headers ≡ length l.flow.loops;
  same : length l.headers ≡ length l.initial.headers;
  inner_there : IfSome l.inner (λ loop. loop < length l.flow.loops);
  outside_there : IfSome l.outside (λ loop. loop < length l.flow.loops);
  goes_on : (inner : Option ℕ) → slice_get l.flow.inside l.to ≡ Some inner → (final : List (Option ℕ))
      → Enters l.flow.loops l.inner l.outside l.to l.headers final → Enters l.flow.loops inner l.fn.from l.to l.initial.headers final;
}

abbrev pub decreases-loop-inner : goal.decreases-loop-inner
decreases-loop-inner l = depth_bound l.inner + depth_bound l.outside
