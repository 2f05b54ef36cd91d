use Rattle.pc_table.specs.StoredTable.{table_of}
use Rattle.pc_window.specs.StoredWindow.{tree_in}
use Rattle.pc_window.specs.Unwinding.{least_inside}
use Rattle.pc_unwind.specs.models.Walking.{tags_from}
use Rattle.pc_unwind.proofs.unwinding.+unwind_tags.Given as goal

abbrev pub decreases-unwind_tags : goal.decreases-unwind_tags
decreases-unwind_tags l = tags_from (least_inside (table_of l.table.now) l.inside (tree_in l.tree.now))
