-- Which numbers have a text of their own. In memory they have their types; here they are numbers of any size.
use Rattle.std.specs.Prelude.{◌≡◌, ◌<◌, ◌^◌, ℤ, List, length, FitsSigned}
use Rattle.std.specs.Int.{w32}
use Rattle.std.specs.List.{AllByRecursion}
use Rattle.pc_word.specs.declared.item.Item.{Item}
use Rattle.pc_word.specs.declared.item.Item.TheVariants.{Bin, Copy, Load, Store, Print, Read, More}
use Rattle.pc_word.specs.declared.item.Operand.{Operand}
use Rattle.pc_word.specs.declared.item.Operand.TheVariants.{Name, Lit}
use Rattle.pc_machine.specs.declared.tree.Leaf.{Leaf}
use Rattle.pc_machine.specs.declared.tree.Leaf.TheVariants.{Goto, Stop, Trap}
use Rattle.pc_machine.specs.MachineCode.{CodeRow, RowCode}
use Rattle.pc_machine.specs.Registers.{most_registers}
use Rattle.pc_machine.specs.WellFormed.{IsOperand}
use Rattle.pc_word.specs.Row.{Then, Either, At_leaf}
use Rattle.pc_object.specs.declared.object.Note.{Note}
use Rattle.pc_object.specs.ObjectText.{CodeWithNotes}

-- each register of an item is a byte
abbrev pub HasByteRegisters : Item → Type 0
HasByteRegisters (Bin op dest left right) = (dest < most_registers) × IsOperand most_registers left × IsOperand most_registers right
HasByteRegisters (Copy dest from) = (dest < most_registers) × IsOperand most_registers from
HasByteRegisters (Load dest array index) = (dest < most_registers) × IsOperand most_registers index
HasByteRegisters (Store array index value) = IsOperand most_registers index × IsOperand most_registers value
HasByteRegisters (Print value) = IsOperand most_registers value
HasByteRegisters (Read dest) = dest < most_registers
HasByteRegisters (More dest) = dest < most_registers

-- a literal is a word
abbrev pub OperandFits : Operand → Type 0
OperandFits (Name register) = Unit {0}
OperandFits (Lit value) = FitsSigned w32 value

-- each literal of an item is a word
abbrev pub ItemNumbersFit : Item → Type 0
ItemNumbersFit (Bin op dest left right) = OperandFits left × OperandFits right
ItemNumbersFit (Copy dest from) = OperandFits from
ItemNumbersFit (Load dest array index) = OperandFits index
ItemNumbersFit (Store array index value) = OperandFits index × OperandFits value
ItemNumbersFit (Print value) = OperandFits value
ItemNumbersFit (Read dest) = Unit {0}
ItemNumbersFit (More dest) = Unit {0}

-- a line is below 2^32
abbrev pub LeafFits : Leaf → Type 0
LeafFits (Goto row) = Unit {0}
LeafFits Stop = Unit {0}
LeafFits (Trap kind line) = line < 2 ^ 32

-- each literal of a row is a word, and each line is below 2^32
abbrev pub RowNumbersFit : CodeRow → Type 0
RowNumbersFit (Then item rest) = ItemNumbersFit item × RowNumbersFit rest
RowNumbersFit (Either on on_yes on_no) = OperandFits on × RowNumbersFit on_yes × RowNumbersFit on_no
RowNumbersFit (At_leaf leaf) = LeafFits leaf

-- the line, number and limit of a note are below 2^32
pub record NoteFits (note : Note) : Type 0 where
  pub line : note.line < 2 ^ 32
  pub number : note.number < 2 ^ 32
  pub limit : note.limit < 2 ^ 32

-- the words with which an array begins are words
abbrev pub WordsFit : List ℤ → Type 0
WordsFit words = AllByRecursion (FitsSigned w32) words

-- each literal and each word of the data is a word, and each line and number is below 2^32, as in every object in memory
pub record HasWords (object : CodeWithNotes) : Type 0 where
  pub initial : AllByRecursion WordsFit object.code.initial
  pub rows : AllByRecursion RowNumbersFit object.code.rows
  pub notes : AllByRecursion NoteFits object.notes

-- the row that a goto leads to is below 2^32
abbrev pub TargetFits : Leaf → Type 0
TargetFits (Goto row) = row < 2 ^ 32
TargetFits Stop = Unit {0}
TargetFits (Trap kind line) = Unit {0}

-- each row that a goto of a row leads to is below 2^32
abbrev pub TargetsFit : CodeRow → Type 0
TargetsFit (Then item rest) = TargetsFit rest
TargetsFit (Either on on_yes on_no) = TargetsFit on_yes × TargetsFit on_no
TargetsFit (At_leaf leaf) = TargetFits leaf

-- the number of registers is below 2^16, and each length, the count of each array's words, the number of rows and each row that a
-- goto leads to below 2^32, as in every code in memory; and each array has its list of words, since a text has one for each. In a
-- well-formed code they are
pub record HasCounts (code : RowCode) : Type 0 where
  pub registers : code.registers < 2 ^ 16
  pub lengths : AllByRecursion (λ n. n < 2 ^ 32) code.arrays
  pub lists : length code.initial ≡ length code.arrays
  pub counts : AllByRecursion (λ words. length words < 2 ^ 32) code.initial
  pub few_rows : length code.rows < 2 ^ 32
  pub targets : AllByRecursion TargetsFit code.rows
