-- Items that do the same with other registers.
use Rattle.std.specs.Prelude.{ℕ, ℤ, ◌≡◌, ◌<◌, Bool, true, false, Option, Some}
use Rattle.pc_word.specs.declared.item.Item.{Item}
use Rattle.pc_word.specs.declared.item.Item.TheVariants.{Bin, Copy, Load, Store, Print, Read, More}
use Rattle.pc_word.specs.declared.item.OpCode.{OpCode}
use Rattle.pc_word.specs.declared.item.Operand.{Operand}
use Rattle.pc_word.specs.declared.item.Operand.TheVariants.{Name, Lit}

-- the one reads what the other reads: the register that has the value, which is one of so many, or the same literal
pub data OperandRenames (registers : ℕ) (home : ℕ → Option ℕ) : Operand → Operand → Type 0 where
  Same_value : {register place : ℕ} → home register ≡ Some place → place < registers → OperandRenames registers home (Name register) (Name place)
  Same_literal : {value : ℤ} → OperandRenames registers home (Lit value) (Lit value)

-- the one does what the other does, and each may write a register of its own
pub data ItemRenames (registers : ℕ) (home : ℕ → Option ℕ) : Item → Item → Type 0 where
  Same_bin : {op : OpCode} {dest made : ℕ} {left right one other : Operand} → OperandRenames registers home left one
      → OperandRenames registers home right other → ItemRenames registers home (Bin op dest left right) (Bin op made one other)
  Same_copy : {dest made : ℕ} {from one : Operand} → OperandRenames registers home from one
      → ItemRenames registers home (Copy dest from) (Copy made one)
  Same_load : {dest made array : ℕ} {index one : Operand} → OperandRenames registers home index one
      → ItemRenames registers home (Load dest array index) (Load made array one)
  Same_store : {array : ℕ} {index value one other : Operand} → OperandRenames registers home index one
      → OperandRenames registers home value other → ItemRenames registers home (Store array index value) (Store array one other)
  Same_print : {value one : Operand} → OperandRenames registers home value one → ItemRenames registers home (Print value) (Print one)
  Same_read : {dest made : ℕ} → ItemRenames registers home (Read dest) (Read made)
  Same_more : {dest made : ℕ} → ItemRenames registers home (More dest) (More made)

-- whether all that an item does is to give its register a word
abbrev pub only_gives : Item → Bool
only_gives (Bin op dest left right) = true
only_gives (Copy dest from) = true
only_gives (Load dest array index) = true
only_gives (Store array index value) = false
only_gives (Print value) = false
only_gives (Read dest) = false
only_gives (More dest) = true
