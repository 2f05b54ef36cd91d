use Rattle.std.proofs.Common.{◌+◌, ◌-◌, ◌*◌, ◌^◌}
use Rattle.pc_table.specs.StoredTable.{table_of}
use Rattle.pc_unwind.specs.models.Remaining.{walk_steps}
use Rattle.pc_unwind.proofs.walking.+walk.Given as goal

abbrev pub decreases-walk : goal.decreases-walk
decreases-walk l = (2049 - l.growth.now.size) * 2 ^ 32 + walk_steps (table_of l.table.now) l.tree.now
