-- Facts: which operands of a window have the values of which registers and literals of a row, and what matches by them.
use Rattle.std.specs.Prelude.{◌≡◌, ℕ, ℤ, List, Contains}
use Rattle.pc_word.specs.declared.item.Item.{Item}
use Rattle.pc_word.specs.declared.item.Item.TheVariants.{Bin, Copy, Load, Store, Print, Read, More}
use Rattle.pc_word.specs.declared.item.OpCode.{OpCode}
use Rattle.pc_word.specs.declared.item.Operand.{Operand}
use Rattle.pc_word.specs.declared.item.Operand.TheVariants.{Lit}
use Rattle.pc_word.specs.State.{State}
use Rattle.pc_word.specs.Items.{operand_value}

-- a source, which is a register or a literal of a row, and the operand of a window whose value it has
pub record Fact : Type 0 where
  pub source : Operand
  pub operand : Operand

-- what holds of each fact of a list
abbrev pub EachFact : List Fact → (Fact → Type 0) → Type 0
EachFact facts Holds = (fact : Fact) → Contains facts fact → Holds fact

-- the source has the operand's value
abbrev pub FactHolds : (registers names : ℕ → ℤ) → Fact → Type 0
FactHolds registers names fact = operand_value registers fact.source ≡ operand_value names fact.operand

-- a machine's state against a window's: each fact holds, and elements and input are the same
pub record StatesMatch (facts : List Fact) (machine window : State) : Type 0 where
  pub held : EachFact facts (FactHolds machine.names window.names)
  pub cells : machine.cells ≡ window.cells
  pub input : machine.input ≡ window.input

-- an operand of a row against one of a window: the same literal, or a fact says that they have the same value
abbrev pub OperandsMatch : List Fact → Operand → Operand → Type 0
OperandsMatch facts (Lit value) (Lit other) = value ≡ other
OperandsMatch facts source operand = Contains facts (record { source = source; operand = operand })

-- an item of a row against one of a front: the same kind, operator and array, and operands that match; destinations may differ
pub data ItemsMatch (facts : List Fact) : Item → Item → Type 0 where
  same_bin : {op : OpCode} {dest dest' : ℕ} {left left' right right' : Operand}
      → OperandsMatch facts left left' → OperandsMatch facts right right' → ItemsMatch facts (Bin op dest left right) (Bin op dest' left' right')
  same_copy : {dest dest' : ℕ} {from from' : Operand} → OperandsMatch facts from from' → ItemsMatch facts (Copy dest from) (Copy dest' from')
  same_load : {array dest dest' : ℕ} {index index' : Operand} → OperandsMatch facts index index' → ItemsMatch facts (Load dest array index) (Load dest' array index')
  same_store : {array : ℕ} {index index' value value' : Operand}
      → OperandsMatch facts index index' → OperandsMatch facts value value' → ItemsMatch facts (Store array index value) (Store array index' value')
  same_print : {value value' : Operand} → OperandsMatch facts value value' → ItemsMatch facts (Print value) (Print value')
  same_read : {dest dest' : ℕ} → ItemsMatch facts (Read dest) (Read dest')
  same_more : {dest dest' : ℕ} → ItemsMatch facts (More dest) (More dest')
