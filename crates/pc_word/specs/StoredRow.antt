-- Rows as they are stored.
use Rattle.pc_word.specs.Row.{Row, Then, Either, At_leaf}
use Rattle.pc_word.specs.declared.row_tree.RowTree.{RowTree}
use Rattle.pc_word.specs.declared.row_tree.RowTree.TheVariants as tree

-- the row that a stored tree is, with what each leaf is
abbrev pub row_in : {L M : Type 0} → (L → M) → RowTree L → Row M
row_in leaf_in (tree.Step' item p next) = Then item (row_in leaf_in next)
row_in leaf_in (tree.Test' on p on_yes q on_no) = Either on (row_in leaf_in on_yes) (row_in leaf_in on_no)
row_in leaf_in (tree.Leaf leaf) = At_leaf (leaf_in leaf)

-- what holds of each leaf of a stored tree
abbrev pub EachLeaf : {L : Type 0} → (L → Type 0) → RowTree L → Type 0
EachLeaf P (tree.Step' item p next) = EachLeaf P next
EachLeaf P (tree.Test' on p on_yes q on_no) = EachLeaf P on_yes × EachLeaf P on_no
EachLeaf P (tree.Leaf leaf) = P leaf
