use Rattle.std.proofs.Common.{◌≡◌, ◌<◌, ℕ, Some}
use Rattle.pc_renaming.specs.Renaming.{StandsIn}
use Rattle.pc_renaming.specs.models.Tables.{homes_in, kept_in, written_in}
use Rattle.pc_renaming.proofs.checking.all_found.Given as goal

-- each value so far is found
abbrev pub invariant-loop-register : goal.invariant-loop-register
invariant-loop-register l = (register place : ℕ) → register < l.register → homes_in l.there register ≡ Some place
    → StandsIn (homes_in l.homes) (written_in l.path) register place (kept_in l.path register)
