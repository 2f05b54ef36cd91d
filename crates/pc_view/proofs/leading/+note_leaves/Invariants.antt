use Rattle.pc_machine.specs.MachineCode.{row_of}
use Rattle.pc_view.specs.models.Rows.{row_size}
use Rattle.pc_view.proofs.leading.+note_leaves.Given as goal

-- the lists change from one side to the other; the tree gets smaller
abbrev pub decreases-note_leaves : goal.decreases-note_leaves
decreases-note_leaves l = row_size (row_of l.row.now)
