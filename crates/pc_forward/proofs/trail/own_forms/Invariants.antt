use Rattle.std.proofs.Common.{◌≡◌}
use Rattle.pc_forward.specs.Trail.{own_forms}
use Rattle.pc_forward.proofs.trail.own_forms.Given as goal

abbrev pub invariant-loop-variable : goal.invariant-loop-variable
invariant-loop-variable l = l.forms ≡ own_forms 0 l.variable
