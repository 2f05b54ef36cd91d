-- The bytes of the object that a listing stands for, and where in the listing each of them stands.
use Rattle.std.specs.Prelude.{ℕ, zero, suc, ◌+◌, ◌-◌, ◌*◌, ℤ, Bool, false, if◌then◌else◌, nat_eq, nat_lt, List, [], ◌∷◌, ◌++◌, length}
use Rattle.std.specs.List.{flat_map}
use Rattle.pc_machine.specs.declared.tree.Leaf.TheVariants.{Goto, Stop, Trap}
use Rattle.pc_object.specs.ObjectText.{operand_text, item_text, leaf_text, note_text}
use Rattle.pc_object.specs.ObjectText.{version_for, version_text, storage_text, u16_text, u32_text}
use Rattle.pc_object.specs.Sizes.{item_bytes, test_bytes, goto_bytes, end_bytes, trap_bytes}
use Rattle.pc_assembly.specs.declared.error.Place.{Place}
use Rattle.pc_assembly.specs.declared.part.Part.{Part}
use Rattle.pc_assembly.specs.declared.part.Part.TheVariants as part
use Rattle.pc_assembly.specs.declared.line.Content.{Content}
use Rattle.pc_assembly.specs.declared.line.Content.TheVariants as content
use Rattle.pc_assembly.specs.declared.line.Line.{Line}
use Rattle.pc_assembly.specs.Limits.{Header}
use Rattle.pc_assembly.specs.Text.{line_start}

-- ---- rows and notes

-- the bytes of a part of a row
abbrev pub part_text : Part → List ℕ
part_text (part.Item item) = item_text item
part_text (part.Test on) = 0x10 ∷ operand_text on
part_text (part.Leaf leaf) = leaf_text leaf

-- what a line has of the rows
abbrev pub content_rows : Content → List ℕ
content_rows (content.Word array value) = []
content_rows content.Row = []
content_rows (content.Part part) = part_text part
content_rows (content.Note note) = []

-- what a line has of the notes
abbrev pub content_notes : Content → List ℕ
content_notes (content.Word array value) = []
content_notes content.Row = []
content_notes (content.Part part) = []
content_notes (content.Note note) = note_text note

-- the rows: their parts stand in an object in the order of their lines
abbrev pub rows_bytes : List Line → List ℕ
rows_bytes lines = flat_map (λ line. content_rows line.content) lines

-- the number of notes, and each note
abbrev pub notes_bytes : List Line → ℕ → List ℕ
notes_bytes lines notes = u16_text notes ++ flat_map (λ line. content_notes line.content) lines

-- ---- data

-- the word of an array's data that a line tells, if it tells one
abbrev pub content_words : ℕ → Content → List ℤ
content_words array (content.Word of value) = if nat_eq of array then value ∷ [] else []
content_words array content.Row = []
content_words array (content.Part part) = []
content_words array (content.Note note) = []

-- the words with which an array begins
abbrev pub array_words : ℕ → List Line → List ℤ
array_words array lines = flat_map (λ line. content_words array line.content) lines

-- those of so many arrays, after those of the arrays before them
unfoldable pub initial_from : ℕ → List (List ℤ) → List Line → List (List ℤ)
initial_from zero before lines = before
initial_from (suc count) before lines = initial_from count (before ++ array_words (length before) lines ∷ []) lines

-- ---- the header

-- the header of an object with so many rows, whose arrays begin with these words
abbrev pub header_with : Header → List (List ℤ) → ℕ → List ℕ
header_with header initial rows =
    version_text (version_for header.registers initial)
    ++ (header.limits.ops ∷ header.limits.tests ∷ header.limits.mem ∷ length header.arrays
    ∷ (storage_text (version_for header.registers initial) header.registers header.arrays initial ++ u32_text rows))

-- the same, with the words that the lines tell
unfoldable pub header_bytes : Header → List Line → ℕ → List ℕ
header_bytes header lines rows = header_with header (initial_from (length header.arrays) [] lines) rows

-- ---- places

-- how many bytes a line has of the rows
abbrev pub part_size : Part → ℕ
part_size (part.Item item) = item_bytes item
part_size (part.Test on) = test_bytes on
part_size (part.Leaf (Goto row)) = goto_bytes
part_size (part.Leaf Stop) = end_bytes
part_size (part.Leaf (Trap kind line)) = trap_bytes

abbrev pub content_size : Content → ℕ
content_size (content.Word array value) = 0
content_size content.Row = 0
content_size (content.Part part) = part_size part
content_size (content.Note note) = 0

-- where the byte of the rows stands that has so many bytes of the rows before it; one that is none of them stands at `last`
unfoldable pub place_among : ℕ → Place → List Line → Place
place_among offset last [] = last
place_among offset last (line ∷ lines) =
    if nat_lt offset (content_size line.content) then line.at else place_among (offset - content_size line.content) last lines

-- whether a line is the word of the data that has this many bytes before it: four for the number of words of each array up to its own
abbrev pub is_word_at : ℕ → Content → Bool
is_word_at before (content.Word array value) = nat_eq before (4 * (array + 1))
is_word_at before content.Row = false
is_word_at before (content.Part part) = false
is_word_at before (content.Note note) = false

-- where the word of the data stands that has this many bytes of the data before it, four for each word among them; what is no word of
-- these lines stands at `last`
unfoldable pub word_among : ℕ → Place → List Line → Place
word_among before last [] = last
word_among before last (line ∷ lines) = if is_word_at before line.content then line.at else word_among (before - 4) last lines

-- where the data of this many arrays begin: after the version, the limits, the numbers of arrays and registers, and the lengths
abbrev pub data_offset : ℕ → ℕ
data_offset arrays = 10 + 4 * arrays

-- Where a byte stands, by its offset: one of the rows in its line, the first one of a word of the data in that word's, and any other
-- in the first line, which has this number. The data and the rows begin at these offsets.
abbrev pub place_at : (number data_at rows_at offset : ℕ) → List Line → Place
place_at number data_at rows_at offset lines =
    if nat_lt offset rows_at then word_among (offset - data_at) (line_start number) lines
    else place_among (offset - rows_at) (line_start number) lines
