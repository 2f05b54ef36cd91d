use Rattle.std.proofs.Common.{◌≡◌, ◌<◌, ℕ, Some}
use Rattle.pc_renaming.specs.models.Tables.{homes_in}
use Rattle.pc_renaming.proofs.homes.Homes.has.Given as goal

-- no value so far is there
abbrev pub invariant-loop-register : goal.invariant-loop-register
invariant-loop-register l = (register : ℕ) → register < l.register → homes_in l.self register ≡ Some l.place → ⊥
