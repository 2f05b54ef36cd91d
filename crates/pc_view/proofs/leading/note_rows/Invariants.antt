use Rattle.std.proofs.Common.{length, take}
use Rattle.pc_machine.specs.MachineCode.{rows_of}
use Rattle.pc_view.specs.models.Lists.{AreLists}
use Rattle.pc_view.proofs.leading.note_rows.Given as goal

-- each list has the rows so far that lead to its row
abbrev pub invariant-loop-number : goal.invariant-loop-number
invariant-loop-number l = AreLists (length l.rows) (rows_of (take l.number l.rows)) l.lists
