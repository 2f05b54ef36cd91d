-- The text of an object in the format PTV1 or PTV2. Numbers are big-endian.
use Rattle.std.specs.Prelude.{ℕ, ◌≤◌, ℤ, Bool, if◌then◌else◌, ◌&&◌, nat_eq, List, [], ◌∷◌, ◌++◌, length}
use Rattle.std.specs.List.{flat_map, AllByRecursion}
use Rattle.std.specs.Int.{w16, w32, to_be_bytes, cast_unsigned}
use Rattle.pc_word.specs.declared.item.OpCode.{OpCode}
use Rattle.pc_word.specs.declared.item.OpCode.TheVariants.{Add, Sub, Mul, Div, Rem, Shl, Shr, And, Or, Xor, Less, LessEq, Equal, Unequal, Below}
use Rattle.pc_word.specs.declared.item.Item.{Item}
use Rattle.pc_word.specs.declared.item.Item.TheVariants.{Bin, Copy, Load, Store, Print, Read, More}
use Rattle.pc_word.specs.declared.item.Operand.{Operand}
use Rattle.pc_word.specs.declared.item.Operand.TheVariants.{Name, Lit}
use Rattle.pc_word.specs.declared.item.TrapKind.{TrapKind}
use Rattle.pc_word.specs.declared.item.TrapKind.TheVariants.{DivideByZero, OutOfBounds, EndOfInput}
use Rattle.pc_machine.specs.declared.tree.Leaf.{Leaf}
use Rattle.pc_machine.specs.declared.tree.Leaf.TheVariants.{Goto, Stop, Trap}
use Rattle.pc_machine.specs.Registers.{few_registers}
use Rattle.pc_word.specs.Data.{has_no_data}
use Rattle.pc_machine.specs.MachineCode.{CodeRow, RowCode, code_of}
use Rattle.pc_word.specs.Row.{Then, Either, At_leaf}
use Rattle.pc_machine.specs.WellFormed.{WellFormed}
use Rattle.pc_object.specs.declared.version.Version.{Version}
use Rattle.pc_object.specs.declared.version.Version.TheVariants.{Ptv1, Ptv2}
use Rattle.pc_object.specs.declared.object.Note.{Note}
use Rattle.pc_object.specs.declared.object.Object.{Object}
use Rattle.pc_word.specs.MachineLimits.{most_object}

-- an object as plain data
pub record CodeWithNotes : Type 0 where
  pub code : RowCode
  pub notes : List Note

-- the object that an object in memory is
abbrev pub object_of : Object → CodeWithNotes
object_of object = record { code = code_of object.code; notes = object.notes }

-- ---- numbers

-- a number in two bytes
abbrev pub u16_text : ℕ → List ℕ
u16_text n = to_be_bytes w16 n

-- a number in four bytes
abbrev pub u32_text : ℕ → List ℕ
u32_text n = to_be_bytes w32 n

-- a word in two's complement
abbrev pub word_text : ℤ → List ℕ
word_text w = to_be_bytes w32 (cast_unsigned w32 w)

-- ---- rows

-- the byte of an operator
abbrev pub operator_byte : OpCode → ℕ
operator_byte Add = 0x00
operator_byte Sub = 0x01
operator_byte Mul = 0x02
operator_byte Div = 0x03
operator_byte Rem = 0x04
operator_byte Shl = 0x05
operator_byte Shr = 0x06
operator_byte And = 0x07
operator_byte Or = 0x08
operator_byte Xor = 0x09
operator_byte Less = 0x0A
operator_byte LessEq = 0x0B
operator_byte Equal = 0x0C
operator_byte Unequal = 0x0D
operator_byte Below = 0x0E

-- the byte of a kind of trap
abbrev pub trap_byte : TrapKind → ℕ
trap_byte DivideByZero = 0x00
trap_byte OutOfBounds = 0x01
trap_byte EndOfInput = 0x02

-- a register after 00, or a literal after 01
abbrev pub operand_text : Operand → List ℕ
operand_text (Name register) = 0x00 ∷ register ∷ []
operand_text (Lit value) = 0x01 ∷ word_text value

-- an item: its tag and its fields
abbrev pub item_text : Item → List ℕ
item_text (Bin op dest left right) = 0x20 ∷ operator_byte op ∷ dest ∷ (operand_text left ++ operand_text right)
item_text (Copy dest from) = 0x21 ∷ dest ∷ operand_text from
item_text (Load dest array index) = 0x22 ∷ dest ∷ array ∷ operand_text index
item_text (Store array index value) = 0x23 ∷ array ∷ (operand_text index ++ operand_text value)
item_text (Print value) = 0x24 ∷ operand_text value
item_text (Read dest) = 0x25 ∷ dest ∷ []
item_text (More dest) = 0x26 ∷ dest ∷ []

-- a leaf: its tag and its fields
abbrev pub leaf_text : Leaf → List ℕ
leaf_text (Goto row) = 0x01 ∷ u32_text row
leaf_text Stop = 0x02 ∷ []
leaf_text (Trap kind line) = 0x03 ∷ trap_byte kind ∷ u32_text line

-- a row in preorder, the yes side first
abbrev pub row_text : CodeRow → List ℕ
row_text (Then item rest) = item_text item ++ row_text rest
row_text (Either on on_yes on_no) = 0x10 ∷ (operand_text on ++ (row_text on_yes ++ row_text on_no))
row_text (At_leaf leaf) = leaf_text leaf

-- ---- the header

-- whether PTV1 can tell of so many registers and this data: it has no field of either
abbrev pub fits_ptv1 : ℕ → List (List ℤ) → Bool
fits_ptv1 registers initial = nat_eq registers few_registers && has_no_data initial

-- the version of a text with so many registers and this data: PTV1 wherever it can tell of them
abbrev pub version_for : ℕ → List (List ℤ) → Version
version_for registers initial = if fits_ptv1 registers initial then Ptv1 else Ptv2

-- the version of a code's text
abbrev pub version_of : RowCode → Version
version_of code = version_for code.registers code.initial

-- the first four bytes: `PTV1` or `PTV2`
abbrev pub version_text : Version → List ℕ
version_text Ptv1 = 0x50 ∷ 0x54 ∷ 0x56 ∷ 0x31 ∷ []
version_text Ptv2 = 0x50 ∷ 0x54 ∷ 0x56 ∷ 0x32 ∷ []

-- the data of an array: how many words, and each word
abbrev pub data_text : List ℤ → List ℕ
data_text words = u32_text (length words) ++ flat_map word_text words

-- the number of registers, the length of each array and the data of each; PTV1 has the lengths alone
abbrev pub storage_text : Version → ℕ → List ℕ → List (List ℤ) → List ℕ
storage_text Ptv1 registers arrays initial = flat_map u32_text arrays
storage_text Ptv2 registers arrays initial = u16_text registers ++ (flat_map u32_text arrays ++ flat_map data_text initial)

-- a header of this version: its first bytes, the limits and the number of arrays; registers, lengths and data; the number of rows
abbrev pub header_text_in : Version → RowCode → List ℕ
header_text_in version code =
    version_text version
    ++ (code.limits.ops ∷ code.limits.tests ∷ code.limits.mem ∷ length code.arrays
    ∷ (storage_text version code.registers code.arrays code.initial ++ u32_text (length code.rows)))

-- the header of a code
abbrev pub header_text : RowCode → List ℕ
header_text code = header_text_in (version_of code) code

-- ---- the whole

-- a note: its choice, line, number and limit
abbrev pub note_text : Note → List ℕ
note_text note = note.choice ∷ (u32_text note.line ++ (u32_text note.number ++ u32_text note.limit))

-- the number of notes, and each note
abbrev pub notes_text : List Note → List ℕ
notes_text notes = u16_text (length notes) ++ flat_map note_text notes

-- the header, the rows and the notes
abbrev pub object_text : CodeWithNotes → List ℕ
object_text object = header_text object.code ++ (flat_map row_text object.code.rows ++ notes_text object.notes)

-- ---- objects that may be written

-- the choice of a note is known
abbrev pub IsChoice : Note → Type 0
IsChoice note = note.choice ≤ 7

-- its code is well formed, its choices are known, and its notes and bytes are not too many
pub record IsObject (object : CodeWithNotes) : Type 0 where
  pub code : WellFormed object.code
  pub choices : AllByRecursion IsChoice object.notes
  pub few_notes : length object.notes ≤ 65535
  pub few_bytes : length (object_text object) ≤ most_object
