use Rattle.std.proofs.Common.{◌≡◌, take}
use Rattle.pc_pattern.specs.models.Renaming.{pairs_in, renamed_homes}
use Rattle.pc_pattern.proofs.renaming.renamed_homes.Given as goal

-- the homes so far, renamed
abbrev pub invariant-loop-home : goal.invariant-loop-home
invariant-loop-home l = l.renamed ≡ renamed_homes (pairs_in l.names) (take l.home-index l.homes)
