use Rattle.std.proofs.Common.{◌≡◌, ◌++◌, ◌-◌}
use Rattle.pc_rebase.specs.models.Standing.{itself_from, each_itself}
use Rattle.pc_rebase.proofs.standing.each_itself.Given as goal

-- the variables so far, and then those that are to come, are all
abbrev pub invariant-loop-variable : goal.invariant-loop-variable
invariant-loop-variable l = l.stands.items ++ itself_from l.variable (l.count - l.variable) ≡ each_itself l.count
