-- How long a code is written, where each item, test and leaf takes some room.
use Rattle.std.specs.Prelude.{◌≡◌, ℕ, ◌+◌, List}
use Rattle.std.specs.List.{sum_by}
use Rattle.pc_word.specs.declared.item.Item.{Item}
use Rattle.pc_word.specs.declared.item.Operand.{Operand}
use Rattle.pc_machine.specs.declared.tree.Leaf.{Leaf}
use Rattle.pc_machine.specs.declared.tree.Leaf.TheVariants.{Goto}
use Rattle.pc_machine.specs.MachineCode.{CodeRow}
use Rattle.pc_word.specs.Row.{Then, Either, At_leaf}

-- the room that the parts of a row take; a goto takes the same room whatever row it leads to
pub record Room : Type 0 where
  pub of_item : Item → ℕ
  pub of_test : Operand → ℕ
  pub of_leaf : Leaf → ℕ
  pub alike : (i j : ℕ) → of_leaf (Goto i) ≡ of_leaf (Goto j)

-- the room that a row takes
abbrev pub row_room : Room → CodeRow → ℕ
row_room room (Then item rest) = room.of_item item + row_room room rest
row_room room (Either on on_yes on_no) = room.of_test on + (row_room room on_yes + row_room room on_no)
row_room room (At_leaf leaf) = room.of_leaf leaf

-- the room that rows take
abbrev pub rows_room : Room → List CodeRow → ℕ
rows_room room rows = sum_by (row_room room) rows
