use Rattle.std.proofs.Common.{◌≡◌}
use Rattle.std.specs.Prelude.{drop}
use Rattle.pc_window_specimen.specs.models.Checking.{rises}
use Rattle.pc_window_specimen.proofs.checking.rises.Given as goal

abbrev pub invariant-loop-at : goal.invariant-loop-at
invariant-loop-at l = rises l.numbers ≡ rises (drop l.at l.numbers)
