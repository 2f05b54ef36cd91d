-- The reading of a note, `loop 7: plain, rows 257 of 256`.
use Rattle.std.specs.Prelude.{ℕ, if◌then◌else◌, List, Result, Ok}
use Rattle.pc_object.specs.declared.object.Note.{Note}
use Rattle.pc_assembly.specs.declared.bytes.Class.TheVariants as class
use Rattle.pc_assembly.specs.declared.spelling.Word.TheVariants as word
use Rattle.pc_assembly.specs.declared.spelling.Mark.TheVariants as mark
use Rattle.pc_assembly.specs.declared.error.Complaint.{Complaint}
use Rattle.pc_assembly.specs.declared.error.Expected.TheVariants as expect
use Rattle.pc_assembly.specs.Bytes.{after_run}
use Rattle.pc_assembly.specs.Words.{◌>>=◌, complain, unblank, is_next, is_alone, word_at, mark_at, number_at}
use Rattle.pc_assembly.specs.Parts.{most_number}

-- a choice, by the word that stands here
abbrev pub chosen : ℕ → List ℕ → Result (ℕ × List ℕ) Complaint
chosen choice bytes = Ok (choice, after_run class.Letter bytes)

-- why a loop is packed
unfoldable pub packed_reason : List ℕ → Result (ℕ × List ℕ) Complaint
packed_reason bytes =
    if is_next word.Rows bytes then chosen 1 bytes
    else (if is_next word.Live bytes then chosen 2 bytes
    else (if is_next word.Bytes bytes then chosen 3 bytes
    else (if is_next word.Window bytes then chosen 4 bytes
    else complain bytes expect.Reason)))

-- why a loop is plain
unfoldable pub plain_reason : List ℕ → Result (ℕ × List ℕ) Complaint
plain_reason bytes =
    if is_next word.Rows bytes then chosen 5 bytes
    else (if is_next word.Live bytes then chosen 6 bytes
    else (if is_next word.Bytes bytes then chosen 7 bytes
    else complain bytes expect.Reason))

-- of a loop that is pipelined
unfoldable pub pipelined_reason : List ℕ → Result (ℕ × List ℕ) Complaint
pipelined_reason bytes = if is_next word.Rows bytes then chosen 0 bytes else complain bytes expect.Reason

-- a form stands here, and after a comma what decided it
abbrev pub formed : (List ℕ → Result (ℕ × List ℕ) Complaint) → List ℕ → Result (ℕ × List ℕ) Complaint
formed reason bytes = do
  comma ← mark_at mark.Comma (after_run class.Letter bytes)
  reason (unblank comma)

-- the form of a loop and what decided it
unfoldable pub choice_here : List ℕ → Result (ℕ × List ℕ) Complaint
choice_here bytes =
    if is_next word.Pipelined bytes then formed pipelined_reason bytes
    else (if is_next word.Packed bytes then formed packed_reason bytes
    else (if is_next word.Plain bytes then formed plain_reason bytes
    else complain bytes expect.Form))

-- the word `loop`, with no number right after it, since `loop2` may be a name of a row
abbrev pub loop_here : List ℕ → Result (List ℕ) Complaint
loop_here bytes = if is_alone word.Loop bytes then Ok (after_run class.Name bytes) else complain bytes (expect.Word word.Loop)

-- a note
unfoldable pub note_here : List ℕ → Result (Note × List ℕ) Complaint
note_here bytes = do
  loop ← loop_here bytes
  line ← number_at most_number expect.Number loop
  colon ← mark_at mark.Colon line.1
  choice ← choice_here (unblank colon)
  number ← number_at most_number expect.Number choice.1
  of ← word_at word.Of number.1
  limit ← number_at most_number expect.Number of
  Ok (record { choice = choice.0; line = line.0; number = number.0; limit = limit.0 }, limit.1)
