use Rattle.std.proofs.Common.{◌≡◌, length}
use Rattle.std.specs.List.{AllByRecursion}
use Rattle.pc_window.specs.Opening.{FormBelow}
use Rattle.pc_window_tests.proofs.sums.eight_names.Given as goal

abbrev pub invariant-loop-variable : goal.invariant-loop-variable
invariant-loop-variable l = record {
  below : AllByRecursion (FormBelow 8) l.forms;
  count : length l.forms ≡ l.variable;
}
