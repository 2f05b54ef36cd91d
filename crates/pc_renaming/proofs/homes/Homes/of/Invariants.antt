use Rattle.std.proofs.Common.{◌≡◌, drop}
use Rattle.pc_renaming.specs.Witness.{home_after, home_of}
use Rattle.pc_renaming.specs.models.Tables.{homes_in}
use Rattle.pc_renaming.proofs.homes.Homes.of.Given as goal

-- with what is left to tell, the table tells what all of it does
abbrev pub invariant-loop-holding : goal.invariant-loop-holding
invariant-loop-holding l = home_after (homes_in l.homes) (drop l.holding-index l.held) ≡ home_of l.held
