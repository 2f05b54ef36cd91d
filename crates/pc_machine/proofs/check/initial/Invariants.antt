use Rattle.std.proofs.Common.{◌≡◌, drop}
use Rattle.pc_machine.specs.Flaws.{each_data_flaws}
use Rattle.pc_machine.proofs.check.initial.Given as goal

-- the flaws are those of the arrays that are left
abbrev pub invariant-loop-place : goal.invariant-loop-place
invariant-loop-place l = each_data_flaws l.lengths l.lists ≡ each_data_flaws (drop l.place l.lengths) (drop l.place l.lists)
