-- Names of rows, which a text by hand may have in place of their numbers.
use Rattle.std.specs.Prelude.{ℕ, suc, Bool, false, not, if◌then◌else◌, ◌&&◌, ◌||◌, nat_lt, bytes_eq}
use Rattle.std.specs.Prelude.{List, [], ◌∷◌, ◌++◌, Option, is_some, Result, Ok}
use Rattle.std.specs.List.{list_any}
use Rattle.std.specs.Map.{lookup}
use Rattle.pc_assembly.specs.declared.bytes.Class.TheVariants as class
use Rattle.pc_assembly.specs.declared.spelling.Word.{Word}
use Rattle.pc_assembly.specs.declared.spelling.Word.TheVariants as word
use Rattle.pc_assembly.specs.declared.spelling.Mark.TheVariants as mark
use Rattle.pc_assembly.specs.declared.error.Complaint.{Complaint}
use Rattle.pc_assembly.specs.declared.error.Expected.TheVariants as expect
use Rattle.pc_assembly.specs.Bytes.{is_letter, run, after_run}
use Rattle.pc_assembly.specs.Words.{complain, unblank, is_next, is_mark}

-- ---- what a name is

-- whether a letter stands at the beginning
abbrev pub is_letter_next : List ℕ → Bool
is_letter_next [] = false
is_letter_next (byte ∷ bytes) = is_letter byte

-- the words with which no name begins: those of a register, an array and a row's number, and those that begin a line of a row's tree
abbrev pub taken : List Word
taken =
    word.R ∷ word.A ∷ word.Row ∷ word.If ∷ word.Yes ∷ word.No ∷ word.Goto ∷ word.Stop ∷ word.Trap ∷ word.Print ∷ []

-- whether a name stands here: it begins with a letter, and the letters up to the first digit are none of those words
unfoldable pub is_name : List ℕ → Bool
is_name bytes = is_letter_next bytes && not (list_any (λ word. is_next word bytes) taken)

-- a name: as many letters and digits as stand there
unfoldable pub name_here : List ℕ → Result (List ℕ × List ℕ) Complaint
name_here bytes = if is_name bytes then Ok (run class.Name bytes, after_run class.Name bytes) else complain bytes expect.RowOrName

-- ---- which row has a name

-- names, each with its row
abbrev pub Names : Type 0
Names = List (List ℕ × ℕ)

-- the row that has this name, if one has it
abbrev pub row_named : Names → List ℕ → Option ℕ
row_named names name = lookup (bytes_eq name) names

-- names and that of a row after them; of several rows with one name the first has it
abbrev pub with_name : Names → List ℕ → ℕ → Names
with_name names name row = if is_some (row_named names name) then names else names ++ (name, row) ∷ []

-- ---- the names of all rows

-- whether a name and a colon stand here, as at the beginning of a row
unfoldable pub is_named : List ℕ → Bool
is_named bytes = is_mark mark.Colon (unblank (after_run class.Name bytes)) && is_name bytes

-- names and the one that a line gives, if it begins the row with this number by a name
unfoldable pub names_after : Names → ℕ → List ℕ → Names
names_after names row bytes = if is_named bytes then with_name names (run class.Name bytes) row else names

-- how many rows have begun after a line: it begins a row by its number or by a name
unfoldable pub rows_after : ℕ → List ℕ → ℕ
rows_after rows bytes = if is_next word.Row bytes || is_named bytes then suc rows else rows

-- the greatest number of a row: each row has a byte, and an object at most 16,777,216
abbrev pub most_row : ℕ
most_row = 16777215

-- names and those that lines give after this many rows, up to the row with the greatest number
unfoldable pub names_from : Names → ℕ → List (List ℕ) → Names
names_from names rows [] = names
names_from names rows (line ∷ lines) =
    if nat_lt most_row rows then names
    else names_from (names_after names rows (after_run class.Indent line)) (rows_after rows (after_run class.Indent line)) lines

-- the names that lines give
abbrev pub names_of : List (List ℕ) → Names
names_of lines = names_from [] 0 lines
