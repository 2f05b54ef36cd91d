use Rattle.std.proofs.Common.{ℕ, ◌<◌}
use Rattle.pc_ranges.specs.models.Keeping.{GoesOn}
use Rattle.pc_ranges.proofs.keeping.is_kept.Given as goal

abbrev pub invariant-loop-at : goal.invariant-loop-at
invariant-loop-at l = (k : ℕ) → k < l.at → GoesOn l.flow l.map k
