-- A change at one place of a tree.
use Rattle.std.specs.Prelude.{ℕ}
use Rattle.pc_word.specs.declared.item.Item.{Item}
use Rattle.pc_word.specs.declared.item.Operand.{Operand}
use Rattle.pc_window.specs.Tree.{Tree, Pending, Undecided}

-- one place of a tree changes so, and all else stays
pub data Somewhere (Here : Tree → Tree → Type 0) : Tree → Tree → Type 0 where
  here : {old new : Tree} → Here old new → Somewhere Here old new
  behind_item : (tag origin : ℕ) (item : Item) {old new : Tree} → Somewhere Here old new → Somewhere Here (Pending tag origin item old) (Pending tag origin item new)
  in_yes_side : (tag origin : ℕ) (on : Operand) {old new : Tree} (other : Tree) → Somewhere Here old new
      → Somewhere Here (Undecided tag origin on old other) (Undecided tag origin on new other)
  in_no_side : (tag origin : ℕ) (on : Operand) (one : Tree) {old new : Tree} → Somewhere Here old new
      → Somewhere Here (Undecided tag origin on one old) (Undecided tag origin on one new)
