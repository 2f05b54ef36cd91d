use Rattle.std.proofs.Common.{◌-◌, length}
use Rattle.pc_table.specs.StoredTable.{table_of}
use Rattle.pc_compile.specs.models.Progress.{IsChoosing}
use Rattle.pc_compile.proofs.choosing.choose.Given as goal

abbrev pub invariant-loop-region : goal.invariant-loop-region
invariant-loop-region l = IsChoosing (table_of l.table) l.fn.initial l.limits l.extent l.progress

abbrev pub decreases-loop-region : goal.decreases-loop-region
decreases-loop-region l = length l.table.regions - length l.progress.chosen.choices
