use Rattle.pc_machine.specs.MachineCode.{row_of}
use Rattle.pc_count.proofs.Works.{row_size}
use Rattle.pc_count.proofs.work.+row_work.Given as goal

-- the tree gets smaller
abbrev pub decreases-row_work : goal.decreases-row_work
decreases-row_work l = row_size (row_of l.row.now)
