-- When a row does another row with other registers.
use Rattle.std.specs.Prelude.{ℕ, ◌≡◌, ◌<◌, Bool, true, false, Option, Some, None}
use Rattle.pc_word.specs.declared.item.Item.{Item}
use Rattle.pc_word.specs.declared.item.Item.TheVariants.{Copy}
use Rattle.pc_word.specs.declared.item.Operand.{Operand}
use Rattle.pc_word.specs.declared.item.Operand.TheVariants.{Name}
use Rattle.pc_word.specs.Items.{dest_of}
use Rattle.pc_word.specs.Row.{Then, Either, At_leaf}
use Rattle.pc_machine.specs.declared.tree.Leaf.{Leaf}
use Rattle.pc_machine.specs.declared.tree.Leaf.TheVariants.{Goto}
use Rattle.pc_machine.specs.MachineCode.{CodeRow, target_of}
use Rattle.pc_renaming.specs.declared.kept.Kept.{Kept}
use Rattle.pc_renaming.specs.declared.kept.Kept.TheVariants.{Before, Was, Made, Lost}
use Rattle.pc_renaming.specs.Renaming.{Renaming, with_kept, with_written, StandsIn}
use Rattle.pc_renaming.specs.ItemRenames.{OperandRenames, ItemRenames, only_gives}

-- an item of the row before that the row after has not, and where the values of registers stand then
pub data ItemGoes (home : ℕ → Option ℕ) (kept : ℕ → Kept) : Item → (ℕ → Kept) → Type 0 where
  -- a value that nothing needs
  Unneeded : {item : Item} {dest : ℕ} {then_kept : ℕ → Kept} → dest_of item ≡ Some dest → only_gives item ≡ true
      → then_kept ≡ with_kept dest Lost kept → ItemGoes home kept item then_kept
  -- a copy of a value that a register has anyway
  Copied : {dest from place : ℕ} {then_kept : ℕ → Kept} → kept dest ≡ Before → home from ≡ Some place
      → then_kept ≡ with_kept dest (Was place) kept → ItemGoes home kept (Copy dest (Name from)) then_kept

-- an item that both rows have; what it writes in the row after is a register that is there, which the path has not written
pub data ItemStays (registers : ℕ) (home : ℕ → Option ℕ) (kept : ℕ → Kept) (written : ℕ → Bool) :
    Item → Item → (ℕ → Kept) → (ℕ → Bool) → Type 0 where
  Writes_none : {item other : Item} {then_kept : ℕ → Kept} {then_written : ℕ → Bool} → ItemRenames registers home item other
      → dest_of item ≡ None → then_kept ≡ kept → then_written ≡ written
      → ItemStays registers home kept written item other then_kept then_written
  Writes_one : {item other : Item} {dest made : ℕ} {then_kept : ℕ → Kept} {then_written : ℕ → Bool} → ItemRenames registers home item other
      → dest_of item ≡ Some dest → dest_of other ≡ Some made → kept dest ≡ Before → made < registers → written made ≡ false
      → then_kept ≡ with_kept dest (Made made) kept → then_written ≡ with_written made written
      → ItemStays registers home kept written item other then_kept then_written

-- the rows lead to the same: to rows of which the one does the other and finds each value that it needs, or to the same end
pub data LeafRenames (rows : ℕ) (renaming : Renaming) (home : ℕ → Option ℕ) (kept : ℕ → Kept) (written : ℕ → Bool) : Leaf → Leaf → Type 0 where
  Ends : {leaf : Leaf} → target_of leaf ≡ None → LeafRenames rows renaming home kept written leaf leaf
  Leads : {target to : ℕ} → to < rows → renaming.origin to ≡ target
      → ((register place : ℕ) → renaming.holds to register ≡ Some place → StandsIn home written register place (kept register))
      → LeafRenames rows renaming home kept written (Goto target) (Goto to)

-- in a code with so many registers and rows, a row does another one of the code before, where `home` tells which register has the
-- value of a register of the code before when the row begins. Above stand items: `kept` tells where the values of registers of the
-- code before stand, and `written` which registers of the code after the path has written
pub data RowRenames (registers rows : ℕ) (renaming : Renaming) (home : ℕ → Option ℕ) : (ℕ → Kept) → (ℕ → Bool) → CodeRow → CodeRow → Type 0 where
  Without : {kept then_kept : ℕ → Kept} {written : ℕ → Bool} {item : Item} {before after : CodeRow} → ItemGoes home kept item then_kept
      → RowRenames registers rows renaming home then_kept written before after
      → RowRenames registers rows renaming home kept written (Then item before) after
  With : {kept then_kept : ℕ → Kept} {written then_written : ℕ → Bool} {item other : Item} {before after : CodeRow}
      → ItemStays registers home kept written item other then_kept then_written
      → RowRenames registers rows renaming home then_kept then_written before after
      → RowRenames registers rows renaming home kept written (Then item before) (Then other after)
  Both_sides : {kept : ℕ → Kept} {written : ℕ → Bool} {on one : Operand} {before_yes before_no after_yes after_no : CodeRow}
      → OperandRenames registers home on one
      → RowRenames registers rows renaming home kept written before_yes after_yes
      → RowRenames registers rows renaming home kept written before_no after_no
      → RowRenames registers rows renaming home kept written (Either on before_yes before_no) (Either one after_yes after_no)
  At_end : {kept : ℕ → Kept} {written : ℕ → Bool} {leaf other : Leaf} → LeafRenames rows renaming home kept written leaf other
      → RowRenames registers rows renaming home kept written (At_leaf leaf) (At_leaf other)
