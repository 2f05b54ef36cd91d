use Rattle.std.proofs.Common.{◌≡◌, ◌≤◌, length, drop}
use Rattle.pc_copies.specs.Laws.{copy_row}
use Rattle.pc_machine.specs.MachineCode.{row_of}
use Rattle.pc_emit.proofs.passing.copy_row.Given as goal

-- the tree so far does the copies from this one on
abbrev pub invariant-loop-at : goal.invariant-loop-at
invariant-loop-at l = record {
  within : l.at ≤ length l.copies;
  is : row_of l.tree ≡ copy_row (drop l.at l.copies) l.fn.leaf;
}

abbrev pub decreases-loop-at : goal.decreases-loop-at
decreases-loop-at l = l.at
