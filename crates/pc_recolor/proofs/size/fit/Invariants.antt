use Rattle.std.proofs.Common.{◌≡◌, ◌+◌, take, length}
use Rattle.std.specs.List.{flat_map}
use Rattle.pc_machine.specs.MachineCode.{rows_of}
use Rattle.pc_object.specs.ObjectText.{row_text}
use Rattle.pc_recolor.proofs.size.fit.Given as goal

-- the rows so far, and what is left, are what there was
abbrev pub invariant-loop-tree : goal.invariant-loop-tree
invariant-loop-tree l = length (flat_map row_text (rows_of (take l.tree-index l.rows))) + l.left ≡ l.most
