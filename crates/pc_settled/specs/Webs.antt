-- Webs: values of rows that are to have one register, since one of them becomes the other, or both come from one item.
use Rattle.std.specs.Prelude.{ℕ, ◌≡◌, List, Some, slice_get}
use Rattle.pc_word.specs.declared.item.Item.{Item}
use Rattle.pc_word.specs.declared.item.Operand.{Operand}
use Rattle.pc_word.specs.Items.{dest_of}
use Rattle.pc_word.specs.Row.{Then, Either}
use Rattle.pc_machine.specs.MachineCode.{CodeRow}
use Rattle.pc_settled.specs.Needed.{Passes}

-- a value: what a register has when the row with a number begins
pub data Value : Type 0 where
  At : (number register : ℕ) → Value

-- an item stands in a row, or in what is left of one, and this is left of it below the item
pub data HasItem : (row : CodeRow) → (item : Item) → (below : CodeRow) → Type 0 where
  First : {item : Item} {below : CodeRow} →
      HasItem (Then item below) item below
  Under : {other item : Item} {row below : CodeRow} →
      HasItem row item below →
      HasItem (Then other row) item below
  Yes_has : {on : Operand} {on_yes on_no below : CodeRow} {item : Item} →
      HasItem on_yes item below →
      HasItem (Either on on_yes on_no) item below
  No_has : {on : Operand} {on_yes on_no below : CodeRow} {item : Item} →
      HasItem on_no item below →
      HasItem (Either on on_yes on_no) item below

-- two values are of one web, the least equivalence by which a value is of one web with what it becomes in a row to which it
-- is passed on, and so are the values that an item gives to two rows
pub data AreOneWeb (rows : List CodeRow) : (one other : Value) → Type 0 where
  Same : {one : Value} →
      AreOneWeb rows one one
  Turned : {one other : Value} →
      AreOneWeb rows one other →
      AreOneWeb rows other one
  Joined : {one between other : Value} →
      AreOneWeb rows one between →
      AreOneWeb rows between other →
      AreOneWeb rows one other
  Passed : {number register to : ℕ} {row : CodeRow} →
      slice_get rows number ≡ Some row →
      Passes rows row register to →
      AreOneWeb rows (At number register) (At to register)
  Given : (number : ℕ) {dest to other : ℕ} {row below : CodeRow} {item : Item} →
      slice_get rows number ≡ Some row →
      HasItem row item below →
      dest_of item ≡ Some dest →
      Passes rows below dest to →
      Passes rows below dest other →
      AreOneWeb rows (At to dest) (At other dest)
