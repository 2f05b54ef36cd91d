-- The reading of an object's text: field by field from the left, up to the first that is wrong.
-- A reader takes the bytes that are left, and gives a value and the bytes after its fields.
use Rattle.std.specs.Prelude.{ℕ, zero, suc, ◌+◌, ◌-◌, ℤ, Bool, true, false, if◌then◌else◌, ◌==◌, nat_eq, nat_lt}
use Rattle.std.specs.Prelude.{List, [], ◌∷◌, length, replicate, take, drop, find, Option, Some, None, Result, Ok, Err}
use Rattle.std.specs.Int.{Width, w16, w32, byte_len, from_be_bytes, cast_signed}
use Rattle.pc_word.specs.declared.item.OpCode.{OpCode}
use Rattle.pc_word.specs.declared.item.OpCode.TheVariants.{Add, Sub, Mul, Div, Rem, Shl, Shr, And, Or, Xor, Less, LessEq, Equal, Unequal, Below}
use Rattle.pc_word.specs.declared.item.Item.{Item}
use Rattle.pc_word.specs.declared.item.Item.TheVariants as items
use Rattle.pc_word.specs.declared.item.Operand.{Operand}
use Rattle.pc_word.specs.declared.item.Operand.TheVariants.{Name, Lit}
use Rattle.pc_word.specs.declared.item.TrapKind.{TrapKind}
use Rattle.pc_word.specs.declared.item.TrapKind.TheVariants.{DivideByZero, OutOfBounds, EndOfInput}
use Rattle.pc_word.specs.declared.item.Limits.{Limits}
use Rattle.pc_machine.specs.declared.code.Flaw.{Flaw}
use Rattle.pc_machine.specs.declared.code.Flaw.TheVariants as flaws
use Rattle.pc_machine.specs.declared.check.Bounds.{Bounds}
use Rattle.pc_machine.specs.declared.check.Counts.{Counts}
use Rattle.pc_machine.specs.declared.tree.Leaf.TheVariants.{Goto, Stop, Trap}
use Rattle.pc_machine.specs.Registers.{few_registers}
use Rattle.pc_machine.specs.MachineCode.{CodeRow, RowCode}
use Rattle.pc_word.specs.Row.{Then, Either, At_leaf}
use Rattle.pc_machine.specs.Flaws.{flaw_where, limit_flaws, array_count_flaws, register_count_flaws, length_flaws, data_count_flaws}
use Rattle.pc_machine.specs.Flaws.{data_tail_flaws, row_count_flaws, Above, nothing_above, above_with}
use Rattle.pc_machine.specs.Flaws.{no_counts, counts_with_item, counts_with_test, item_tag_flaws, test_tag_flaws, register_flaws, dest_flaws}
use Rattle.pc_machine.specs.Flaws.{array_flaws, target_flaws}
use Rattle.pc_word.specs.Exact.{checked}
use Rattle.pc_object.specs.declared.object.Note.{Note}
use Rattle.pc_object.specs.declared.refusal.ObjectError.{ObjectError}
use Rattle.pc_object.specs.declared.refusal.ObjectError.TheVariants.{BadMagic, Truncated, BadField, Trailing}
use Rattle.pc_object.specs.declared.refusal.Refusal.{Refusal}
use Rattle.pc_object.specs.declared.refusal.Refusal.TheVariants.{NotMagic, Short, Flawed, Longer}
use Rattle.pc_object.specs.declared.tag.ItemKind.{ItemKind}
use Rattle.pc_object.specs.declared.tag.ItemKind.TheVariants as kinds
use Rattle.pc_object.specs.declared.tag.Tag.{Tag}
use Rattle.pc_object.specs.declared.tag.Tag.TheVariants as tags
use Rattle.pc_object.specs.declared.version.Version.{Version}
use Rattle.pc_object.specs.declared.version.Version.TheVariants.{Ptv1, Ptv2}
use Rattle.pc_object.specs.ObjectText.{CodeWithNotes, operator_byte, trap_byte, fits_ptv1}
use Rattle.pc_word.specs.MachineLimits.{most_mem, most_ops, most_tests}

-- one reading after another: the first refusal wins
infixl 10 ◌>>=◌
abbrev pub ◌>>=◌ : {A B : Type 0} → Result A Refusal → (A → Result B Refusal) → Result B Refusal
(Ok x) >>= f = f x
(Err refusal) >>= f = Err refusal

-- the same, where the first gives nothing
infixl 10 ◌>>◌
abbrev pub ◌>>◌ : {A B : Type 0} → Result A Refusal → Result B Refusal → Result B Refusal
first >> second = first >>= λ _. second

-- what a check gives of the field that begins where these bytes do
abbrev pub at_field : {A : Type 0} → List ℕ → Result A Flaw → Result A Refusal
at_field bytes (Ok x) = Ok x
at_field bytes (Err flaw) = Err (Flawed (length bytes) flaw)

-- that field is fine, or has a first flaw
abbrev pub unflawed : List ℕ → List Flaw → Result (Unit {0}) Refusal
unflawed bytes flaws = at_field bytes (checked {X = Unit {0}} flaws tt)

-- what a number stands for in that field, if the table has it
abbrev pub known : {A : Type 0} → List ℕ → Flaw → Option A → Result A Refusal
known bytes flaw (Some x) = Ok x
known bytes flaw None = Err (Flawed (length bytes) flaw)

-- ---- numbers

-- the next byte
abbrev pub byte_at : List ℕ → Result (ℕ × List ℕ) Refusal
byte_at [] = Err Short
byte_at (byte ∷ rest) = Ok (byte, rest)

-- a big-endian number of a width
abbrev pub number_at : Width → List ℕ → Result (ℕ × List ℕ) Refusal
number_at w bytes =
    if nat_lt (length bytes) (byte_len w) then Err Short
    else Ok (from_be_bytes w (take (byte_len w) bytes), drop (byte_len w) bytes)

-- a word in two's complement
unfoldable pub word_at : List ℕ → Result (ℤ × List ℕ) Refusal
word_at bytes = do
  number ← number_at w32 bytes
  Ok (cast_signed w32 number.0, number.1)

-- ---- the header

-- these first bytes; one that differs is not they, also where the others are missing
abbrev pub magic_at : List ℕ → List ℕ → Result (List ℕ) Refusal
magic_at [] bytes = Ok bytes
magic_at (first ∷ magic) [] = Err Short
magic_at (first ∷ magic) (byte ∷ bytes) = if byte == first then magic_at magic bytes else Err NotMagic

-- the version that the byte after `PTV` stands for
abbrev pub digit_at : List ℕ → Result (Version × List ℕ) Refusal
digit_at [] = Err Short
digit_at (byte ∷ rest) = if byte == 0x31 then Ok (Ptv1, rest) else if byte == 0x32 then Ok (Ptv2, rest) else Err NotMagic

-- the version, by the first four bytes
unfoldable pub version_at : List ℕ → Result (Version × List ℕ) Refusal
version_at bytes = do
  rest ← magic_at (0x50 ∷ 0x54 ∷ 0x56 ∷ []) bytes
  digit_at rest

-- a limit, from 1 to the most
unfoldable pub limit_at : ℕ → List ℕ → Result (ℕ × List ℕ) Refusal
limit_at most bytes = do
  limit ← byte_at bytes
  unflawed bytes (limit_flaws most limit.0)
  Ok limit

-- the limits of items, of tests, and of loads and stores
unfoldable pub limits_at : List ℕ → Result (Limits × List ℕ) Refusal
limits_at bytes = do
  ops ← limit_at most_ops bytes
  tests ← limit_at most_tests ops.1
  mem ← limit_at most_mem tests.1
  Ok (record { ops = ops.0; tests = tests.0; mem = mem.0 }, mem.1)

-- the lengths of so many arrays, after arrays of so many elements
unfoldable pub lengths_at : ℕ → ℕ → List ℕ → Result (List ℕ × List ℕ) Refusal
lengths_at zero before bytes = Ok ([], bytes)
lengths_at (suc count) before bytes = do
  elements ← number_at w32 bytes
  total ← at_field bytes (checked (length_flaws before elements.0) (before + elements.0))
  others ← lengths_at count total elements.1
  Ok (elements.0 ∷ others.0, others.1)

-- the number of arrays
unfoldable pub array_count_at : List ℕ → Result (ℕ × List ℕ) Refusal
array_count_at bytes = do
  count ← byte_at bytes
  unflawed bytes (array_count_flaws count.0)
  Ok count

-- the number of registers, of which PTV1 has no field
unfoldable pub register_count_at : Version → List ℕ → Result (ℕ × List ℕ) Refusal
register_count_at Ptv1 bytes = Ok (few_registers, bytes)
register_count_at Ptv2 bytes = do
  count ← number_at w16 bytes
  unflawed bytes (register_count_flaws count.0)
  Ok count

-- a word of an array's data, which is not 0 if it is the last
unfoldable pub data_word_at : Bool → List ℕ → Result (ℤ × List ℕ) Refusal
data_word_at is_last bytes = do
  word ← word_at bytes
  unflawed bytes (if is_last then data_tail_flaws word.0 else [])
  Ok word

-- so many words of an array's data
unfoldable pub words_at : ℕ → List ℕ → Result (List ℤ × List ℕ) Refusal
words_at zero bytes = Ok ([], bytes)
words_at (suc after) bytes = do
  word ← data_word_at (nat_eq after 0) bytes
  others ← words_at after word.1
  Ok (word.0 ∷ others.0, others.1)

-- the data of an array of so many elements: how many words, and each word
unfoldable pub data_at : ℕ → List ℕ → Result (List ℤ × List ℕ) Refusal
data_at elements bytes = do
  count ← number_at w32 bytes
  unflawed bytes (data_count_flaws elements count.0)
  words_at count.0 count.1

-- the data of each array of these lengths
unfoldable pub each_data_at : List ℕ → List ℕ → Result (List (List ℤ) × List ℕ) Refusal
each_data_at [] bytes = Ok ([], bytes)
each_data_at (elements ∷ lengths) bytes = do
  words ← data_at elements bytes
  others ← each_data_at lengths words.1
  Ok (words.0 ∷ others.0, others.1)

-- the data of all arrays, of which PTV1 has no field
abbrev pub initial_at : Version → List ℕ → List ℕ → Result (List (List ℤ) × List ℕ) Refusal
initial_at Ptv1 lengths bytes = Ok (replicate (length lengths) [], bytes)
initial_at Ptv2 lengths bytes = each_data_at lengths bytes

-- at the number of registers, where PTV2 tells of what PTV1 could
abbrev pub version_flaws : Version → ℕ → List (List ℤ) → List Flaw
version_flaws Ptv1 registers initial = []
version_flaws Ptv2 registers initial = flaw_where (fits_ptv1 registers initial) flaws.Version

-- how many registers there are, the lengths of arrays, and their data
pub record Storage : Type 0 where
  pub registers : ℕ
  pub arrays : List ℕ
  pub initial : List (List ℤ)

-- the number of registers, the lengths of so many arrays, and their data
unfoldable pub storage_at : Version → ℕ → List ℕ → Result (Storage × List ℕ) Refusal
storage_at version count bytes = do
  registers ← register_count_at version bytes
  arrays ← lengths_at count 0 registers.1
  initial ← initial_at version arrays.0 arrays.1
  unflawed bytes (version_flaws version registers.0 initial.0)
  Ok (record { registers = registers.0; arrays = arrays.0; initial = initial.0 }, initial.1)

-- the number of rows
unfoldable pub row_count_at : List ℕ → Result (ℕ × List ℕ) Refusal
row_count_at bytes = do
  count ← number_at w32 bytes
  unflawed bytes (row_count_flaws count.0)
  Ok count

-- ---- the fields of a row

-- the operator that a byte stands for
abbrev pub operators : List OpCode
operators = Add ∷ Sub ∷ Mul ∷ Div ∷ Rem ∷ Shl ∷ Shr ∷ And ∷ Or ∷ Xor ∷ Less ∷ LessEq ∷ Equal ∷ Unequal ∷ Below ∷ []

-- the operator whose byte it is, if there is one
unfoldable pub operator_of_byte : ℕ → Option OpCode
operator_of_byte byte = find (λ op. operator_byte op == byte) operators

-- the kind of trap that a byte stands for
abbrev pub trap_kinds : List TrapKind
trap_kinds = DivideByZero ∷ OutOfBounds ∷ EndOfInput ∷ []

-- the kind whose byte it is, if there is one
unfoldable pub trap_of : ℕ → Option TrapKind
trap_of byte = find (λ kind. trap_byte kind == byte) trap_kinds

-- the byte of an operator
unfoldable pub operator_at : List ℕ → Result (OpCode × List ℕ) Refusal
operator_at bytes = do
  byte ← byte_at bytes
  op ← known bytes flaws.Operator (operator_of_byte byte.0)
  Ok (op, byte.1)

-- the byte of a kind of trap
unfoldable pub trap_at : List ℕ → Result (TrapKind × List ℕ) Refusal
trap_at bytes = do
  byte ← byte_at bytes
  kind ← known bytes flaws.Trap (trap_of byte.0)
  Ok (kind, byte.1)

-- a register that is read, of so many
unfoldable pub register_at : ℕ → List ℕ → Result (ℕ × List ℕ) Refusal
register_at registers bytes = do
  register ← byte_at bytes
  unflawed bytes (register_flaws registers register.0)
  Ok register

-- a register that is written
unfoldable pub dest_at : ℕ → Above → List ℕ → Result (ℕ × List ℕ) Refusal
dest_at registers above bytes = do
  register ← byte_at bytes
  unflawed bytes (dest_flaws registers above register.0)
  Ok register

-- an array, of so many
unfoldable pub array_at : ℕ → List ℕ → Result (ℕ × List ℕ) Refusal
array_at arrays bytes = do
  array ← byte_at bytes
  unflawed bytes (array_flaws arrays array.0)
  Ok array

-- a register after 00, or a literal after 01
unfoldable pub operand_at : ℕ → List ℕ → Result (Operand × List ℕ) Refusal
operand_at registers [] = Err Short
operand_at registers (zero ∷ rest) = do
  register ← register_at registers rest
  Ok (Name register.0, register.1)
operand_at registers (suc zero ∷ rest) = do
  word ← word_at rest
  Ok (Lit word.0, word.1)
operand_at registers (suc (suc tag) ∷ rest) = Err (Flawed (suc (length rest)) flaws.OperandTag)

-- ---- rows

-- the byte of a tag
abbrev pub tag_byte : Tag → ℕ
tag_byte tags.Goto = 0x01
tag_byte tags.Stop = 0x02
tag_byte tags.Trap = 0x03
tag_byte tags.Test = 0x10
tag_byte (tags.Item kinds.Bin) = 0x20
tag_byte (tags.Item kinds.Copy) = 0x21
tag_byte (tags.Item kinds.Load) = 0x22
tag_byte (tags.Item kinds.Store) = 0x23
tag_byte (tags.Item kinds.Print) = 0x24
tag_byte (tags.Item kinds.Read) = 0x25
tag_byte (tags.Item kinds.More) = 0x26

-- every tag
abbrev pub all_tags : List Tag
all_tags =
    tags.Goto ∷ tags.Stop ∷ tags.Trap ∷ tags.Test ∷ tags.Item kinds.Bin ∷ tags.Item kinds.Copy ∷ tags.Item kinds.Load
    ∷ tags.Item kinds.Store ∷ tags.Item kinds.Print ∷ tags.Item kinds.Read ∷ tags.Item kinds.More ∷ []

-- the tag that a byte stands for
unfoldable pub tag_of : ℕ → Option Tag
tag_of byte = find (λ tag. tag_byte tag == byte) all_tags

-- the byte of a tag, which begins a part of a row
unfoldable pub tag_at : List ℕ → Result (Tag × List ℕ) Refusal
tag_at bytes = do
  byte ← byte_at bytes
  tag ← known bytes flaws.Tag (tag_of byte.0)
  Ok (tag, byte.1)

-- loads and stores
abbrev pub is_memory_kind : ItemKind → Bool
is_memory_kind kinds.Load = true
is_memory_kind kinds.Store = true
is_memory_kind _ = false

-- prints, reads and mores
abbrev pub is_effect_kind : ItemKind → Bool
is_effect_kind kinds.Print = true
is_effect_kind kinds.Read = true
is_effect_kind kinds.More = true
is_effect_kind _ = false

-- the fields of an item after its tag
unfoldable pub fields_at : Bounds → Above → ItemKind → List ℕ → Result (Item × List ℕ) Refusal
fields_at bounds above kinds.Bin bytes = do
  op ← operator_at bytes
  dest ← dest_at bounds.registers above op.1
  left ← operand_at bounds.registers dest.1
  right ← operand_at bounds.registers left.1
  Ok (items.Bin op.0 dest.0 left.0 right.0, right.1)
fields_at bounds above kinds.Copy bytes = do
  dest ← dest_at bounds.registers above bytes
  from ← operand_at bounds.registers dest.1
  Ok (items.Copy dest.0 from.0, from.1)
fields_at bounds above kinds.Load bytes = do
  dest ← dest_at bounds.registers above bytes
  array ← array_at bounds.arrays dest.1
  index ← operand_at bounds.registers array.1
  Ok (items.Load dest.0 array.0 index.0, index.1)
fields_at bounds above kinds.Store bytes = do
  array ← array_at bounds.arrays bytes
  index ← operand_at bounds.registers array.1
  value ← operand_at bounds.registers index.1
  Ok (items.Store array.0 index.0 value.0, value.1)
fields_at bounds above kinds.Print bytes = do
  value ← operand_at bounds.registers bytes
  Ok (items.Print value.0, value.1)
fields_at bounds above kinds.Read bytes = do
  dest ← dest_at bounds.registers above bytes
  Ok (items.Read dest.0, dest.1)
fields_at bounds above kinds.More bytes = do
  dest ← dest_at bounds.registers above bytes
  Ok (items.More dest.0, dest.1)

-- the row that a goto leads to, of so many
unfoldable pub goto_at : ℕ → List ℕ → Result (CodeRow × List ℕ) Refusal
goto_at rows bytes = do
  row ← number_at w32 bytes
  unflawed bytes (target_flaws rows row.0)
  Ok (At_leaf (Goto row.0), row.1)

-- the kind and the line of a trap
unfoldable pub trap_fields_at : List ℕ → Result (CodeRow × List ℕ) Refusal
trap_fields_at bytes = do
  kind ← trap_at bytes
  line ← number_at w32 kind.1
  Ok (At_leaf (Trap kind.0 line.0), line.1)

-- A part of a row: what is read, the counts of the whole row after it, and the bytes after it.
abbrev pub PartOfRow : Type 0
PartOfRow = CodeRow × Counts × List ℕ

-- A reader of a part of a row, given the counts before it and the path above it.
abbrev pub ReadsPart : Type 0
ReadsPart = Counts → Above → List ℕ → Result PartOfRow Refusal

-- after an item's tag: its fields, and what follows under the path with the item
unfoldable pub step_at : Bounds → ReadsPart → Counts → Above → ItemKind → List ℕ → Result PartOfRow Refusal
step_at bounds below counts above kind bytes = do
  item ← fields_at bounds above kind bytes
  next ← below counts (above_with item.0 above) item.1
  Ok (Then item.0 next.0, next.1, next.2)

-- after a test's tag: its operand, and both sides under the same path, of which the second counts on from the first
unfoldable pub test_at : Bounds → ReadsPart → Counts → Above → List ℕ → Result PartOfRow Refusal
test_at bounds below counts above bytes = do
  on ← operand_at bounds.registers bytes
  on_yes ← below counts above on.1
  on_no ← below on_yes.1 above on_yes.2
  Ok (Either on.0 on_yes.0 on_no.0, on_no.1, on_no.2)

-- the counts after the tag of an item that is or is not a load or store, and a print, read or more
abbrev pub counted_item : Limits → Counts → Above → Bool → Bool → Result Counts Flaw
counted_item limits counts above memory effect = checked (item_tag_flaws limits counts above memory effect) (counts_with_item memory counts)

-- the counts after the tag of a test
abbrev pub counted_test : Limits → Counts → Result Counts Flaw
counted_test limits counts = checked (test_tag_flaws limits counts) (counts_with_test counts)

-- after a tag, which began where these bytes do: a leaf, or an item or a test, which is counted before its fields are read
unfoldable pub behind_tag : Bounds → ReadsPart → Counts → Above → List ℕ → Tag → List ℕ → Result PartOfRow Refusal
behind_tag bounds below counts above bytes tags.Goto rest = do
  leaf ← goto_at bounds.rows rest
  Ok (leaf.0, counts, leaf.1)
behind_tag bounds below counts above bytes tags.Stop rest = Ok (At_leaf Stop, counts, rest)
behind_tag bounds below counts above bytes tags.Trap rest = do
  leaf ← trap_fields_at rest
  Ok (leaf.0, counts, leaf.1)
behind_tag bounds below counts above bytes tags.Test rest = do
  more ← at_field bytes (counted_test bounds.limits counts)
  test_at bounds below more above rest
behind_tag bounds below counts above bytes (tags.Item kind) rest = do
  more ← at_field bytes (counted_item bounds.limits counts above (is_memory_kind kind) (is_effect_kind kind))
  step_at bounds below more above kind rest

-- A part of a row that goes down at most so many items and tests and a leaf. The limits stop a deeper one before.
unfoldable pub row_at : Bounds → ℕ → ReadsPart
row_at bounds zero counts above bytes = Err (Flawed (length bytes) flaws.Tag)
row_at bounds (suc depth) counts above bytes = do
  tag ← tag_at bytes
  behind_tag bounds (row_at bounds depth) counts above bytes tag.0 tag.1

-- no row has more items and tests above a leaf than the limits allow
abbrev pub deepest : ℕ
deepest = most_ops + most_tests + 1

-- so many rows, each counted by itself
unfoldable pub rows_at : Bounds → ℕ → List ℕ → Result (List CodeRow × List ℕ) Refusal
rows_at bounds zero bytes = Ok ([], bytes)
rows_at bounds (suc count) bytes = do
  row ← row_at bounds deepest no_counts nothing_above bytes
  others ← rows_at bounds count row.2
  Ok (row.0 ∷ others.0, others.1)

-- ---- notes

-- a choice, which is at most 7
unfoldable pub choice_at : List ℕ → Result (ℕ × List ℕ) Refusal
choice_at bytes = do
  choice ← byte_at bytes
  unflawed bytes (flaw_where (nat_lt 7 choice.0) flaws.Choice)
  Ok choice

-- a note: its choice, line, number and limit
unfoldable pub note_at : List ℕ → Result (Note × List ℕ) Refusal
note_at bytes = do
  choice ← choice_at bytes
  line ← number_at w32 choice.1
  number ← number_at w32 line.1
  limit ← number_at w32 number.1
  Ok (record { choice = choice.0; line = line.0; number = number.0; limit = limit.0 }, limit.1)

-- so many notes
unfoldable pub notes_at : ℕ → List ℕ → Result (List Note × List ℕ) Refusal
notes_at zero bytes = Ok ([], bytes)
notes_at (suc count) bytes = do
  note ← note_at bytes
  others ← notes_at count note.1
  Ok (note.0 ∷ others.0, others.1)

-- ---- the whole

-- nothing follows
abbrev pub end_at : List ℕ → Result (Unit {0}) Refusal
end_at [] = Ok tt
end_at (byte ∷ bytes) = Err (Longer (suc (length bytes)))

-- the limits, the registers and arrays, and the number of rows
pub record Header : Type 0 where
  pub limits : Limits
  pub storage : Storage
  pub rows : ℕ

-- the version, the limits, the number of arrays, the registers and arrays, and the number of rows
unfoldable pub header_at : List ℕ → Result (Header × List ℕ) Refusal
header_at bytes = do
  version ← version_at bytes
  limits ← limits_at version.1
  count ← array_count_at limits.1
  storage ← storage_at version.0 count.0 count.1
  rows ← row_count_at storage.1
  Ok (record { limits = limits.0; storage = storage.0; rows = rows.0 }, rows.1)

-- what each row is held against
abbrev pub header_bounds : Header → Bounds
header_bounds header =
    record { limits = header.limits; registers = header.storage.registers; arrays = length header.storage.arrays; rows = header.rows }

-- the code of a header and rows
abbrev pub code_with : Header → List CodeRow → RowCode
code_with header rows =
    record { limits = header.limits; registers = header.storage.registers; arrays = header.storage.arrays; initial = header.storage.initial; rows = rows }

-- the header, the rows, the number of notes and the notes, and nothing after them
unfoldable pub object_at : List ℕ → Result CodeWithNotes Refusal
object_at bytes = do
  header ← header_at bytes
  rows ← rows_at (header_bounds header.0) header.0.rows header.1
  count ← number_at w16 rows.1
  notes ← notes_at count.0 count.1
  end_at notes.1
  Ok (record { code = code_with header.0 rows.0; notes = notes.0 })

-- the refusal of bytes of this number: the offset of a field is the number of bytes before it
abbrev pub told : ℕ → Refusal → ObjectError
told total NotMagic = BadMagic
told total Short = Truncated total
told total (Flawed left flaw) = BadField (total - left) flaw
told total (Longer left) = Trailing (total - left)

-- what the bytes are: an object, or the first thing that is wrong with them
abbrev pub told_of : ℕ → Result CodeWithNotes Refusal → Result CodeWithNotes ObjectError
told_of total (Ok object) = Ok object
told_of total (Err refusal) = Err (told total refusal)

-- what bytes are read as: an object, or the first refusal with its offset
unfoldable pub object_reading : List ℕ → Result CodeWithNotes ObjectError
object_reading bytes = told_of (length bytes) (object_at bytes)
