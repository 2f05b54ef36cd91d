use Rattle.std.proofs.Common.{◌+◌, ◌*◌}
use Rattle.pc_shared.proofs.reading.+owned.Given as goal

abbrev pub decreases-boxed_tree : goal.decreases-boxed_tree
decreases-boxed_tree l = 2 * l.most + 1

abbrev pub decreases-owned_tree : goal.decreases-owned_tree
decreases-owned_tree l = 2 * l.most
