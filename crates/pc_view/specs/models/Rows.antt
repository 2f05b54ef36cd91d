-- Rows of which the code can count what they have and can tell where they lead.
use Rattle.std.specs.Prelude.{ℕ, suc, ◌+◌, List, All}
use Rattle.std.specs.List.{AllByRecursion}
use Rattle.pc_word.specs.Row.{Then, Either, At_leaf, leaves_of}
use Rattle.pc_word.specs.declared.row_tree.RowTree.{RowTree}
use Rattle.pc_machine.specs.declared.tree.Leaf.{Leaf}
use Rattle.pc_machine.specs.MachineCode.{CodeRow, row_of}
use Rattle.pc_machine.specs.WellFormed.{IsLeaf}
use Rattle.pc_view.specs.models.Counted.{HasFew}

-- each has few items and tests, and leads to some of so many rows
pub record CanList (rows : ℕ) (trees : List (RowTree Leaf)) : Type 0 where
  pub few : All (λ tree. HasFew (row_of tree)) trees
  pub leaves : All (λ tree. AllByRecursion (IsLeaf rows) (leaves_of (row_of tree))) trees

-- how many items, tests and leaves a row has, which falls on the way down
abbrev pub row_size : CodeRow → ℕ
row_size (Then item rest) = suc (row_size rest)
row_size (Either on on_yes on_no) = suc (row_size on_yes + row_size on_no)
row_size (At_leaf leaf) = 1
