-- A line that gives a name begins a row, wherever it stands in a listing that is read.
use Rattle.std.proofs.Common.{ℕ, ◌+◌, ◌≡◌, Bool, true, false, ◌&&◌, arith}
use Rattle.std.proofs.Common.{List, [], ◌∷◌, Result, Ok, Err, refl, sym, ap}
use Rattle.std.proofs.lemmas.Bool.Decides.{nat_tests}
use Rattle.pc_assembly.specs.declared.bytes.Class.TheVariants as class
use Rattle.pc_assembly.specs.declared.spelling.Word.TheVariants as word
use Rattle.pc_assembly.specs.declared.spelling.Mark.TheVariants as mark
use Rattle.pc_assembly.specs.declared.error.Complaint.{Complaint}
use Rattle.pc_assembly.specs.declared.error.Expected.TheVariants as expect
use Rattle.pc_assembly.specs.declared.line.Side.{Side}
use Rattle.pc_assembly.specs.declared.line.Side.TheVariants as side
use Rattle.pc_assembly.specs.declared.line.Stage.{Stage}
use Rattle.pc_assembly.specs.declared.line.Stage.TheVariants as stage
use Rattle.pc_assembly.specs.declared.line.Content.{Content}
use Rattle.pc_assembly.specs.declared.line.Content.TheVariants as content
use Rattle.pc_assembly.specs.Bytes.{after_run}
use Rattle.pc_assembly.specs.Words.{◌>>=◌, ◌>>◌, complain, unblank, is_alone, is_mark, number_here, end_at}
use Rattle.pc_assembly.specs.Names.{Names, is_name, is_named}
use Rattle.pc_assembly.specs.Parts.{most_number, leaf_here, part_here}
use Rattle.pc_assembly.specs.Notes.{note_here}
use Rattle.pc_assembly.specs.Lines.{ReadLine, row_here, row_line, part_line, note_line, line_here}
use Rattle.pc_assembly.proofs.NameLaws.{first_of, second_of, name_is_free, unblank_name}

-- what a line was read as
abbrev read_as : Stage → Content → Result ReadLine Complaint
read_as next told = Ok (next, told)

-- what was read tells that a row begins
TellsRow : Result ReadLine Complaint → Type 0
TellsRow read = (next : Stage) (told : Content) → read ≡ read_as next told → told ≡ content.Row

-- what is refused tells nothing
abbrev is_refused : Result ReadLine Complaint → Bool
is_refused (Ok read) = false
is_refused (Err complaint) = true

refused : (read : Result ReadLine Complaint) → is_refused read ≡ true → TellsRow read
unfolding TellsRow
refused (Ok read) h next told is = cc
refused (Err complaint) h next told is = cc

-- what a line tells, if it is read
abbrev content_of : Result ReadLine Complaint → Content
content_of (Ok read) = read.1
content_of (Err complaint) = content.Row

-- ---- the first line of a row

row_tells : (names : Names) (due : ℕ) (bytes : List ℕ) → TellsRow (row_line names due bytes)
unfolding TellsRow row_line
row_tells names due bytes next told h = by (row_here names due bytes) h
  where
    at_end : (stage : Stage) (ended : Result (Unit {0}) Complaint) → (ended >> read_as stage content.Row) ≡ read_as next told → told ≡ content.Row
    at_end stage (Ok x) h = sym (ap content_of h)
    at_end stage (Err complaint) h = cc

    by : (here : Result (List ℕ) Complaint)
        → (here >>= λ rest. end_at rest >> read_as (stage.Part side.Neither 0 (due + 1)) content.Row) ≡ read_as next told → told ≡ content.Row
    by (Ok rest) h = at_end (stage.Part side.Neither 0 (due + 1)) (end_at rest) h
    by (Err complaint) h = cc

-- ---- what such a line is not

-- a part of a row
no_part : (names : Names) (bytes : List ℕ) → is_name bytes ≡ true → part_here names bytes ≡ complain bytes expect.Part
unfolding part_here leaf_here
no_part names bytes h =
    let free = name_is_free bytes h in
    rw (free.register, free.array, free.print, free.test, free.to, free.stop, free.trap) refl

part_tells : (names : Names) (due : Side) (sides next : ℕ) (bytes : List ℕ) → is_name bytes ≡ true → TellsRow (part_line names due sides next bytes)
unfolding TellsRow part_line
part_tells names side.Neither sides next bytes h =
    refused (part_line names side.Neither sides next bytes) (rw (unblank_name bytes h, no_part names bytes h) refl)
part_tells names side.Yes sides next bytes h =
    let free = name_is_free bytes h in
    refused (part_line names side.Yes sides next bytes) (rw free.yes_side refl)
part_tells names side.No sides next bytes h =
    let free = name_is_free bytes h in
    refused (part_line names side.No sides next bytes) (rw free.no_side refl)

-- a note
no_number : (bytes : List ℕ) → is_mark mark.Colon bytes ≡ true → number_here most_number expect.Number bytes ≡ complain bytes expect.Number
no_number [] h = cc
no_number (byte ∷ bytes) h =
    let colon : byte ≡ 58 = grind (arith, nat_tests, h) in
    rw colon refl

note_tells : (rows notes : ℕ) (bytes : List ℕ) → is_named bytes ≡ true → TellsRow (note_line rows notes bytes)
unfolding TellsRow note_line note_here is_named
note_tells rows notes bytes h = by (is_alone word.Loop bytes) refl
  where
    by : (alone : Bool) → is_alone word.Loop bytes ≡ alone → TellsRow (note_line rows notes bytes)
    by true e = refused (note_line rows notes bytes)
        (rw (e, no_number (unblank (after_run class.Name bytes)) (first_of _ (is_name bytes) h)) refl)
    by false e = refused (note_line rows notes bytes) (rw e refl)

-- ---- any line

is_no_note : (alone : Bool) → alone && false ≡ false
is_no_note true = refl
is_no_note false = refl

named_name : (bytes : List ℕ) → is_named bytes ≡ true → is_name bytes ≡ true
unfolding is_named
named_name bytes h = second_of _ (is_name bytes) h

pub named_line_tells : (names : Names) (lengths : List ℕ) (due next : Stage) (bytes : List ℕ) (told : Content) → is_named bytes ≡ true
    → line_here names lengths due bytes ≡ Ok (next, told) → told ≡ content.Row
unfolding TellsRow line_here
named_line_tells names lengths (stage.Data array element) next bytes told h read =
    let free = name_is_free bytes (named_name bytes h) in
    row_tells names 0 bytes next told (rw free.array at read)
named_line_tells names lengths (stage.Part due sides after) next bytes told h read =
    part_tells names due sides after bytes (named_name bytes h) next told read
named_line_tells names lengths (stage.Row row) next bytes told h read =
    row_tells names row bytes next told (rw (h, is_no_note (is_alone word.Loop bytes)) at read)
named_line_tells names lengths (stage.Note rows notes) next bytes told h read = note_tells rows notes bytes h next told read
