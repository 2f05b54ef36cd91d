use Rattle.std.proofs.Common.{◌≡◌}
use Rattle.std.specs.Prelude.{take}
use Rattle.pc_window.specs.Opening.{homes_at}
use Rattle.pc_window.specs.StoredWindow.{homes_in}
use Rattle.pc_window.proofs.grafting.listed.Given as goal

abbrev pub invariant-loop-at : goal.invariant-loop-at
invariant-loop-at l = l.list.items ≡ homes_at (homes_in l.fn.homes) (take l.at l.fn.variables)
