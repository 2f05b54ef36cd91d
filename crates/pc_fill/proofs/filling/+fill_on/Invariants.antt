use Rattle.std.proofs.Common.{◌+◌, ◌-◌}
use Rattle.pc_window.specs.Filled.{front_size}
use Rattle.pc_window.specs.StoredWindow.{front_in}
use Rattle.pc_fill.proofs.filling.+fill_on.Given as goal

abbrev pub decreases-fill_on : goal.decreases-fill_on
decreases-fill_on l = l.window.limits.ops + l.window.limits.tests - front_size (front_in l.window.tree)
