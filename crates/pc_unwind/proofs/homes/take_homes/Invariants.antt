use Rattle.std.proofs.Common.{◌≡◌, length, drop}
use Rattle.pc_window.specs.Opening.{first_new}
use Rattle.pc_unwind.proofs.StubHomes.{AreCleared}
use Rattle.pc_unwind.proofs.homes.take_homes.Given as goal

abbrev pub invariant-loop-at : goal.invariant-loop-at
invariant-loop-at l = AreCleared l.by_variable (drop l.at l.homes) × (length l.by_variable ≡ first_new)
