use Rattle.std.proofs.Common.{◌≡◌, ℕ, take, drop, length}
use Rattle.std.specs.List.{AllByRecursion}
use Rattle.pc_linear.specs.Form.{IsForm}
use Rattle.pc_window.specs.StoredWindow.{forms_in, supply_in}
use Rattle.pc_rebase.specs.models.Finding.{all_written}
use Rattle.pc_rebase.specs.models.Standing.{stands_in}
use Rattle.pc_rebase.proofs.finding.write_all.Given as goal

-- the rest of the names, written, come to what all come to, and what was read are forms
abbrev pub invariant-loop-at : goal.invariant-loop-at
invariant-loop-at l = record {
  as_many : length l.names.forms ≡ length l.fn.names.forms;
  same : all_written (stands_in l.stands) (forms_in l.old) l.all (supply_in l.fn.names) ≡ all_written (stands_in l.stands) (forms_in l.old) (drop l.at l.all) (supply_in l.names);
  kept : AllByRecursion (λ (name : ℕ). IsForm (forms_in l.old name)) (take l.at l.all);
}
