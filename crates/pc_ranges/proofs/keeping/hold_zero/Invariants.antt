use Rattle.std.proofs.Common.{◌≡◌, ℕ, ◌<◌, true}
use Rattle.pc_ranges.specs.Interval.{interval_of}
use Rattle.pc_ranges.specs.models.Keeping.{has_zero}
use Rattle.pc_ranges.proofs.keeping.hold_zero.Given as goal

abbrev pub invariant-loop-variable : goal.invariant-loop-variable
invariant-loop-variable l = (k : ℕ) → k < l.variable → has_zero (interval_of l.intervals k) ≡ true
