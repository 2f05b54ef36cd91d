use Rattle.std.proofs.Common.{◌+◌, ◌*◌}
use Rattle.pc_object.proofs.rows.+row.Given as goal

abbrev pub decreases-row : goal.decreases-row
decreases-row l = 3 * l.depth

abbrev pub decreases-step : goal.decreases-step
decreases-step l = 3 * l.depth + 2

abbrev pub decreases-test : goal.decreases-test
decreases-test l = 3 * l.depth + 2

abbrev pub decreases-boxed_row : goal.decreases-boxed_row
decreases-boxed_row l = 3 * l.depth + 1
