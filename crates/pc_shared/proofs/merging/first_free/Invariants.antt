use Rattle.std.proofs.Common.{ℕ, Option, drop}
use Rattle.pc_canon.specs.Pairs.{others}
use Rattle.pc_shared.specs.models.Renaming.{pairs_in}
use Rattle.pc_shared.specs.models.Merges.{FirstFree}
use Rattle.pc_shared.proofs.merging.first_free.Given as goal

-- what is found in the rest is found in the list
abbrev pub invariant-loop-one : goal.invariant-loop-one
invariant-loop-one l =
    (found : Option ℕ) → FirstFree (others (pairs_in l.names)) l.definition (drop l.one-index l.given) found
    → FirstFree (others (pairs_in l.names)) l.definition l.given found
