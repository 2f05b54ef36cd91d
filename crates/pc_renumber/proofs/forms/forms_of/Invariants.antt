use Rattle.std.proofs.Common.{◌≡◌, ◌++◌, drop, map}
use Rattle.pc_window.specs.StoredWindow.{forms_in}
use Rattle.pc_renumber.proofs.forms.forms_of.Given as goal

-- the forms so far, and those of the rest of the names, are those of all
abbrev pub invariant-loop-at : goal.invariant-loop-at
invariant-loop-at l = l.forms.items ++ map (forms_in l.table.forms) (drop l.at l.names) ≡ map (forms_in l.table.forms) l.names
