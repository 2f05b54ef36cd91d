use Rattle.std.proofs.Common.{◌≡◌, ◌<◌, ℕ, Some, length}
use Rattle.std.specs.Prelude.{slice_get}
use Rattle.pc_word.specs.declared.row_tree.RowTree.{RowTree}
use Rattle.pc_machine.specs.declared.tree.Leaf.{Leaf}
use Rattle.pc_machine.specs.MachineCode.{row_of, rows_of}
use Rattle.pc_renaming.specs.Witness.{renaming_of}
use Rattle.pc_renaming.specs.IsRenamed.{DoesItsOrigin}
use Rattle.pc_renaming.proofs.checking.is_renaming.Given as goal

-- each row so far does the row that it is said to do
abbrev pub invariant-loop-number : goal.invariant-loop-number
invariant-loop-number l = (k : ℕ) (tree : RowTree Leaf) → k < l.number → slice_get l.after k ≡ Some tree
    → DoesItsOrigin l.registers (renaming_of l.told) (rows_of l.before) (length l.told) k (row_of tree)
