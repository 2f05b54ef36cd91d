use Rattle.std.proofs.Common.{◌≡◌, ℕ, length, None}
use Rattle.pc_assign.specs.models.Passing.{noted}
use Rattle.pc_assign.proofs.assigning.nothing_passed.Given as goal

abbrev pub invariant-loop : goal.invariant-loop
invariant-loop l = (length l.table.items ≡ l.counter) × ((to : ℕ) → noted l.table.items to ≡ None)
