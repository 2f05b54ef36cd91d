use Rattle.std.proofs.Common.{◌≡◌, length}
use Rattle.pc_window.specs.StoredWindow.{homes_in}
use Rattle.pc_window.specs.models.Stored.{homes_before}
use Rattle.pc_window.proofs.window.first_homes.Given as goal

abbrev pub invariant-loop-variable : goal.invariant-loop-variable
invariant-loop-variable l = (length l.homes ≡ 96) × (homes_in l.homes ≡ homes_before l.variable)
