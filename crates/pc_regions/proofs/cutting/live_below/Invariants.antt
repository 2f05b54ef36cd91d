use Rattle.std.proofs.Common.{◌≡◌}
use Rattle.pc_regions.specs.models.Cutting.{live_below}
use Rattle.pc_regions.proofs.cutting.live_below.Given as goal

abbrev pub invariant-loop-variable : goal.invariant-loop-variable
invariant-loop-variable l = l.list ≡ live_below l.live l.node l.variable
