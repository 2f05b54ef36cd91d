use Rattle.std.proofs.Common.{◌+◌, ◌*◌}
use Rattle.pc_regions.proofs.cutting.+tree.Given as goal

-- a node that is taken leaves room for fewer
abbrev pub decreases-tree_at : goal.decreases-tree_at
decreases-tree_at l = 2 * l.room.now

abbrev pub decreases-tree_behind : goal.decreases-tree_behind
decreases-tree_behind l = 2 * l.room.now + 1
