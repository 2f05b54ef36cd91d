use Rattle.std.proofs.Common.{◌≡◌, length, map, replicate, take}
use Rattle.pc_word.specs.Row.{leaves_of}
use Rattle.pc_machine.specs.MachineCode.{row_of}
use Rattle.pc_count.proofs.profile.no_leaf_counts.Given as goal

-- zeros for the leaves of the rows so far
abbrev pub invariant-loop-row : goal.invariant-loop-row
invariant-loop-row l = l.counts.items ≡ map (λ tree. replicate (length (leaves_of (row_of tree))) 0) (take l.row-index l.rows)
