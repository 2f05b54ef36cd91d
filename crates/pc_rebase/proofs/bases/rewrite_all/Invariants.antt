use Rattle.std.proofs.Common.{◌≡◌, drop, length}
use Rattle.std.specs.Prelude.{negsuc}
use Rattle.pc_linear.specs.Combine.{plus, variable_form}
use Rattle.pc_window.specs.Rebasing.{rewrite_all}
use Rattle.pc_window.specs.StoredWindow.{forms_in, supply_in}
use Rattle.pc_rebase.proofs.bases.rewrite_all.Given as goal

-- the rest of the names, rewritten, come to what all come to
abbrev pub invariant-loop-at : goal.invariant-loop-at
invariant-loop-at l = record {
  as_many : length l.names.forms ≡ length l.fn.names.forms;
  same : rewrite_all l.variable (plus (variable_form l.base) (negsuc 0) l.parameter) (forms_in l.old) l.all (supply_in l.fn.names)
      ≡ rewrite_all l.variable (plus (variable_form l.base) (negsuc 0) l.parameter) (forms_in l.old) (drop l.at l.all) (supply_in l.names);
}
