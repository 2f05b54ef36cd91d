use Rattle.std.proofs.Common.{◌≡◌, ◌+◌, ◌++◌, drop}
use Rattle.std.specs.Prelude.{map}
use Rattle.pc_window.specs.StoredWindow.{forms_in}
use Rattle.pc_canon.specs.Canonical.{constant_in}
use Rattle.pc_canon.specs.Key.{constant_numbers, list_numbers}
use Rattle.pc_canon.specs.models.Gathered.{and_forms}
use Rattle.pc_canon.proofs.forms.write_names.Given as goal

-- what is done so far, and then what is left, is the whole
abbrev pub invariant-loop-at : goal.invariant-loop-at
invariant-loop-at l = record {
  next : l.next ≡ l.fn.place + l.at;
  columns : and_forms l.next (map (forms_in l.table.forms) (drop l.at l.names)) l.columns ≡ and_forms l.fn.place (map (forms_in l.table.forms) l.names) l.fn.columns;
  numbers : l.numbers ++ list_numbers constant_numbers (map constant_in (map (forms_in l.table.forms) (drop l.at l.names)))
      ≡ l.fn.numbers ++ list_numbers constant_numbers (map constant_in (map (forms_in l.table.forms) l.names));
}
