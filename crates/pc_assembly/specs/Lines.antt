-- The reading of a line, by what is due: what it tells, and what is due after it.
use Rattle.std.specs.Prelude.{ℕ, zero, suc, ◌+◌, Bool, false, if◌then◌else◌, not, ◌&&◌, ◌||◌, nat_eq, nat_lt}
use Rattle.std.specs.Prelude.{List, slice_index, Option, Some, None, Result, Ok}
use Rattle.pc_assembly.specs.declared.bytes.Class.TheVariants as class
use Rattle.pc_assembly.specs.declared.spelling.Word.TheVariants as word
use Rattle.pc_assembly.specs.declared.spelling.Mark.TheVariants as mark
use Rattle.pc_assembly.specs.declared.error.Complaint.{Complaint}
use Rattle.pc_assembly.specs.declared.error.Expected.TheVariants as expect
use Rattle.pc_assembly.specs.declared.part.Part.{Part}
use Rattle.pc_assembly.specs.declared.part.Part.TheVariants as part
use Rattle.pc_assembly.specs.declared.line.Side.{Side}
use Rattle.pc_assembly.specs.declared.line.Side.TheVariants as side
use Rattle.pc_assembly.specs.declared.line.Stage.{Stage}
use Rattle.pc_assembly.specs.declared.line.Stage.TheVariants as stage
use Rattle.pc_assembly.specs.declared.line.Content.{Content}
use Rattle.pc_assembly.specs.declared.line.Content.TheVariants as content
use Rattle.pc_assembly.specs.Bytes.{after_run}
use Rattle.pc_assembly.specs.Words.{◌>>=◌, ◌>>◌, complain, unblank, is_next, is_alone, is_mark, is_end}
use Rattle.pc_assembly.specs.Words.{word_here, word_at, mark_at, number_at, number_is, end_at}
use Rattle.pc_assembly.specs.Names.{Names, most_row, name_here, row_named, is_named}
use Rattle.pc_assembly.specs.Operands.{array_here, literal_here}
use Rattle.pc_assembly.specs.Parts.{most_number, part_here}
use Rattle.pc_assembly.specs.Limits.{memory_at}
use Rattle.pc_assembly.specs.Notes.{note_here}

-- what a line tells, and what is due after it
abbrev pub ReadLine : Type 0
ReadLine = Stage × Content

-- ---- data

-- whether an element's word may follow where this element's is due, in arrays of these lengths: it is this one, or the first of a
-- later array
abbrev pub is_in_turn : List ℕ → (due_array due_element : ℕ) → (array element : ℕ) → Bool
is_in_turn lengths due_array due_element array element =
    (nat_eq array due_array && nat_eq element due_element || nat_lt due_array array && nat_eq element 0)
    && nat_lt element (slice_index lengths array)

-- that element
abbrev pub in_turn : List ℕ → (due_array due_element : ℕ) → (array element : ℕ) → List ℕ → List ℕ → Result (List ℕ) Complaint
in_turn lengths due_array due_element array element bytes rest =
    if is_in_turn lengths due_array due_element array element then Ok rest else complain bytes expect.Element

-- a word of an array's data, `a0[0] = 5`
unfoldable pub word_line : List ℕ → (due_array due_element : ℕ) → List ℕ → Result ReadLine Complaint
word_line lengths due_array due_element bytes = do
  array ← array_here bytes
  opened ← mark_at mark.OpenBracket array.1
  element ← number_at most_number expect.Element opened
  rest ← in_turn lengths due_array due_element array.0 element.0 bytes element.1
  closed ← mark_at mark.CloseBracket rest
  equals ← mark_at mark.Equals closed
  value ← literal_here expect.Literal (unblank equals)
  end_at value.1
  Ok (stage.Data array.0 (element.0 + 1), content.Word array.0 value.0)

-- ---- the first line of a row

-- `2 of 8`: how many there are of how many there may be, which are ignored
unfoldable pub used_at : List ℕ → Result (List ℕ) Complaint
used_at bytes = do
  some ← number_at most_number expect.Number bytes
  of ← word_at word.Of some.1
  all ← number_at most_number expect.Number of
  Ok all.1

-- what the row has of what it may have
unfoldable pub usage_at : List ℕ → Result (List ℕ) Complaint
usage_at bytes = do
  ops ← used_at bytes
  items ← word_at word.Items ops
  comma ← mark_at mark.Comma items
  tests ← used_at comma
  named ← word_at word.Tests tests
  second ← mark_at mark.Comma named
  mem ← used_at second
  memory_at mem

-- that, unless the line ends before
abbrev pub usage_or_end : List ℕ → Result (List ℕ) Complaint
usage_or_end bytes = if is_end bytes then Ok bytes else usage_at bytes

-- after the number of a row: nothing, or a colon and what it has of what it may have
unfoldable pub usage_here : List ℕ → Result (List ℕ) Complaint
usage_here bytes = if is_mark mark.Colon bytes then mark_at mark.Colon bytes >>= (λ rest. usage_or_end (unblank rest)) else Ok bytes

-- `row 2`, and what the row has
unfoldable pub numbered_at : ℕ → List ℕ → Result (List ℕ) Complaint
numbered_at due bytes = do
  number ← number_is most_row due expect.RowNumber (unblank (after_run class.Letter bytes))
  usage_here (unblank number)

-- whether this row has a name, and not one before it
abbrev pub is_row : ℕ → Option ℕ → Bool
is_row due None = false
is_row due (Some row) = nat_eq row due

-- a name that no row before this one has
abbrev pub name_is_new : Names → ℕ → List ℕ → List ℕ → List ℕ → Result (List ℕ) Complaint
name_is_new names due name bytes rest = if is_row due (row_named names name) then Ok rest else complain bytes expect.NewName

-- a name and a colon, and what the row has
unfoldable pub named_here : Names → ℕ → List ℕ → Result (List ℕ) Complaint
named_here names due bytes = do
  name ← name_here bytes
  colon ← mark_at mark.Colon name.1
  rest ← name_is_new names due name.0 bytes colon
  usage_or_end (unblank rest)

-- the row with this number, by it or by a name; after the one with the greatest number only a note may stand
unfoldable pub row_here : Names → ℕ → List ℕ → Result (List ℕ) Complaint
row_here names due bytes =
    if nat_lt most_row due then complain bytes (expect.Word word.Loop)
    else (if is_next word.Row bytes then numbered_at due bytes else named_here names due bytes)

-- the first line of the row with this number. The rows that lead to it stand behind a `;`, and so in a comment
unfoldable pub row_line : Names → ℕ → List ℕ → Result ReadLine Complaint
row_line names due bytes = do
  rest ← row_here names due bytes
  end_at rest
  Ok (stage.Part side.Neither 0 (due + 1), content.Row)

-- ---- the other lines of a row

-- the word that begins the side of a test
abbrev pub side_here : Side → List ℕ → Result (List ℕ) Complaint
side_here side.Neither bytes = Ok bytes
side_here side.Yes bytes = word_here (expect.Word word.Yes) word.Yes bytes
side_here side.No bytes = word_here (expect.Word word.No) word.No bytes

-- what is due after a leaf: the no side of the last test that is without it, or else the row has ended
abbrev pub stage_after_leaf : (sides next : ℕ) → Stage
stage_after_leaf zero next = stage.Row next
stage_after_leaf (suc sides) next = stage.Part side.No sides next

-- what is due after a part: after an item the same side goes on, and after a test its yes side begins
abbrev pub stage_after : List ℕ → (sides next : ℕ) → Part → Result Stage Complaint
stage_after bytes sides next (part.Item item) = Ok (stage.Part side.Neither sides next)
stage_after bytes sides next (part.Test on) =
    if nat_lt sides 255 then Ok (stage.Part side.Yes (sides + 1) next) else complain bytes expect.NoTest
stage_after bytes sides next (part.Leaf leaf) = Ok (stage_after_leaf sides next)

-- a part of a row, after the blanks and bars of its line
unfoldable pub part_line : Names → Side → (sides next : ℕ) → List ℕ → Result ReadLine Complaint
part_line names due sides next bytes = do
  side ← side_here due bytes
  part ← part_here names (unblank side)
  end_at part.1
  after ← stage_after bytes sides next part.0
  Ok (after, content.Part part.0)

-- ---- notes

-- a note, after so many rows and notes
unfoldable pub note_line : (rows notes : ℕ) → List ℕ → Result ReadLine Complaint
note_line rows notes bytes = do
  note ← note_here bytes
  end_at note.1
  if nat_lt notes 65535 then Ok (stage.Note rows (notes + 1), content.Note note.0) else complain bytes expect.TextEnd

-- ---- a line

-- in front of the rows, a word of the data or row 0
abbrev pub data_line : Names → List ℕ → (array element : ℕ) → List ℕ → Result ReadLine Complaint
data_line names lengths array element bytes =
    if is_next word.A bytes then word_line lengths array element bytes else row_line names 0 bytes

-- whether a note begins here: with the word `loop`, which is no name of a row
abbrev pub is_note : List ℕ → Bool
is_note bytes = is_alone word.Loop bytes && not (is_named bytes)

-- behind a row, a note or the next row
abbrev pub next_line : Names → ℕ → List ℕ → Result ReadLine Complaint
next_line names next bytes = if is_note bytes then note_line next 0 bytes else row_line names next bytes

-- a line that begins here, by the names of the rows, the lengths of the arrays and what is due
unfoldable pub line_here : Names → List ℕ → Stage → List ℕ → Result ReadLine Complaint
line_here names lengths (stage.Data array element) bytes = data_line names lengths array element bytes
line_here names lengths (stage.Part side sides next) bytes = part_line names side sides next bytes
line_here names lengths (stage.Row next) bytes = next_line names next bytes
line_here names lengths (stage.Note rows notes) bytes = note_line rows notes bytes
