use Rattle.pc_table.specs.StoredTable.{table_of}
use Rattle.pc_window.specs.StoredWindow.{tree_in}
use Rattle.pc_unwind.specs.models.Remaining.{stub_steps}
use Rattle.pc_unwind.proofs.unwinding.+unwind_stub.Given as goal

abbrev pub decreases-unwind_stub : goal.decreases-unwind_stub
decreases-unwind_stub l = stub_steps (table_of l.table.now) (tree_in l.tree.now)
