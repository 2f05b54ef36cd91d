use Rattle.pc_settling.proofs.entering.+entered.Given as goal

-- so many regions may still be entered
abbrev pub decreases-entered : goal.decreases-entered
decreases-entered l = l.most
