use Rattle.std.proofs.Common.{◌≡◌}
use Rattle.pc_window.specs.models.Stored.{variable_forms}
use Rattle.pc_window.proofs.names.NameTable.first.Given as goal

abbrev pub invariant-loop-variable : goal.invariant-loop-variable
invariant-loop-variable l = l.forms.items ≡ variable_forms l.variable
