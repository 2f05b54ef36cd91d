-- How many bytes each part of an object's text has.
use Rattle.std.specs.Prelude.{ℕ, ◌+◌, ◌*◌, ℤ, List, length}
use Rattle.std.specs.List.{sum_by}
use Rattle.pc_word.specs.declared.item.Item.{Item}
use Rattle.pc_word.specs.declared.item.Item.TheVariants.{Bin, Copy, Load, Store, Print, Read, More}
use Rattle.pc_word.specs.declared.item.Operand.{Operand}
use Rattle.pc_word.specs.declared.item.Operand.TheVariants.{Name, Lit}
use Rattle.pc_object.specs.declared.version.Version.{Version}
use Rattle.pc_object.specs.declared.version.Version.TheVariants.{Ptv1, Ptv2}

-- ---- parts of a row

-- a register or a literal, with its tag
abbrev pub operand_bytes : Operand → ℕ
operand_bytes (Name name) = 2
operand_bytes (Lit value) = 5

-- an item: its tag and its fields
abbrev pub item_bytes : Item → ℕ
item_bytes (Bin op dest left right) = 3 + operand_bytes left + operand_bytes right
item_bytes (Copy dest from) = 2 + operand_bytes from
item_bytes (Load dest array index) = 3 + operand_bytes index
item_bytes (Store array index value) = 2 + operand_bytes index + operand_bytes value
item_bytes (Print value) = 1 + operand_bytes value
item_bytes (Read dest) = 2
item_bytes (More dest) = 2

-- a test: its tag and its operand
abbrev pub test_bytes : Operand → ℕ
test_bytes on = 1 + operand_bytes on

-- a leaf that leads to a row, the end, and a trap with its line
abbrev pub goto_bytes : ℕ
goto_bytes = 5

abbrev pub end_bytes : ℕ
end_bytes = 1

abbrev pub trap_bytes : ℕ
trap_bytes = 6

-- ---- what stands round the rows

-- the header but for what it has of each array
abbrev pub header_bytes : Version → ℕ
header_bytes Ptv1 = 12
header_bytes Ptv2 = 14

-- the length of an array
abbrev pub length_bytes : ℕ
length_bytes = 4

-- the data of an array
abbrev pub data_bytes : List ℤ → ℕ
data_bytes words = 4 + 4 * length words

-- the data of all arrays, of which PTV1 tells nothing
abbrev pub initial_bytes : Version → List (List ℤ) → ℕ
initial_bytes Ptv1 initial = 0
initial_bytes Ptv2 initial = sum_by data_bytes initial

-- the count of notes
abbrev pub count_bytes : ℕ
count_bytes = 2

-- a note
abbrev pub note_bytes : ℕ
note_bytes = 13
