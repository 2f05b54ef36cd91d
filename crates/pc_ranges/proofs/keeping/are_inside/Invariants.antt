use Rattle.std.proofs.Common.{◌≡◌, ℕ, ◌<◌, true}
use Rattle.pc_ranges.specs.Interval.{interval_of}
use Rattle.pc_ranges.specs.models.Keeping.{is_inside}
use Rattle.pc_ranges.proofs.keeping.are_inside.Given as goal

abbrev pub invariant-loop-variable : goal.invariant-loop-variable
invariant-loop-variable l = (k : ℕ) → k < l.variable → is_inside (interval_of l.intervals k) (interval_of l.others k) ≡ true
