use Rattle.std.proofs.Common.{◌≡◌, drop}
use Rattle.pc_window.specs.StoredWindow.{forms_in}
use Rattle.pc_rebase.specs.models.Finding.{found_all}
use Rattle.pc_rebase.proofs.finding.find_all.Given as goal

-- the turns of the rest come to what all come to
abbrev pub invariant-loop-at : goal.invariant-loop-at
invariant-loop-at l = found_all (forms_in l.old) l.parameters l.fn.found ≡ found_all (forms_in l.old) (drop l.at l.parameters) l.found
