use Rattle.pc_arranging.proofs.naming.+name_homes.Given as goal

-- one home less is left
abbrev pub decreases-name_homes : goal.decreases-name_homes
decreases-name_homes l = l.count
