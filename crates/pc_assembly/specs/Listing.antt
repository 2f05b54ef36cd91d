-- The reading of a whole listing: its first line, and then line by line, up to the first that is wrong.
use Rattle.std.specs.Prelude.{ℕ, suc, if◌then◌else◌, List, [], ◌∷◌, ◌++◌, length, Result, Ok, Err}
use Rattle.pc_assembly.specs.declared.bytes.Class.TheVariants as class
use Rattle.pc_assembly.specs.declared.spelling.Word.TheVariants as word
use Rattle.pc_assembly.specs.declared.error.Complaint.{Complaint}
use Rattle.pc_assembly.specs.declared.error.Expected.{Expected}
use Rattle.pc_assembly.specs.declared.error.Expected.TheVariants as expect
use Rattle.pc_assembly.specs.declared.error.ListingError.{ListingError}
use Rattle.pc_assembly.specs.declared.error.ListingError.TheVariants.{Unexpected}
use Rattle.pc_assembly.specs.declared.line.Line.{Line}
use Rattle.pc_assembly.specs.declared.line.Side.{Side}
use Rattle.pc_assembly.specs.declared.line.Side.TheVariants as side
use Rattle.pc_assembly.specs.declared.line.Stage.{Stage}
use Rattle.pc_assembly.specs.declared.line.Stage.TheVariants as stage
use Rattle.pc_assembly.specs.declared.line.Totals.{Totals}
use Rattle.pc_assembly.specs.Bytes.{after_run}
use Rattle.pc_assembly.specs.Words.{unblank, is_end}
use Rattle.pc_assembly.specs.Limits.{Header, header_at}
use Rattle.pc_assembly.specs.Names.{Names}
use Rattle.pc_assembly.specs.Lines.{ReadLine, line_here}
use Rattle.pc_assembly.specs.Text.{place_of, line_start}

-- one reading after another: the first error wins
infixl 10 ◌>>=◌
abbrev pub ◌>>=◌ : {A B : Type 0} → Result A ListingError → (A → Result B ListingError) → Result B ListingError
(Ok x) >>= f = f x
(Err error) >>= f = Err error

-- what the reading of the line with this number gave, with the place of its complaint
abbrev pub in_line : {A : Type 0} → ℕ → List ℕ → Result A Complaint → Result A ListingError
in_line number line (Ok x) = Ok x
in_line number line (Err complaint) = Err (Unexpected (place_of number line complaint.left) complaint.expected)

-- ---- the first line

-- after a line with nothing but blanks and a comment, the lines from the next one on
unfoldable pub first_line : ℕ → List (List ℕ) → Result (Header × ℕ × List (List ℕ)) ListingError
first_line number [] = Err (Unexpected (line_start number) (expect.Word word.Limits))
first_line number (line ∷ lines) =
    if is_end (unblank line) then first_line (suc number) lines
    else in_line number line (header_at line) >>= λ header. Ok (header, number, lines)

-- ---- the other lines

-- the lines that were read, and what is due after them
pub record Draft : Type 0 where
  pub lines : List Line
  pub stage : Stage

-- nothing was read, and the first word of the first array is due, or row 0
abbrev pub no_lines : Draft
no_lines = record { lines = []; stage = stage.Data 0 0 }

-- with one line more, whose first word stands where so many of its bytes are left
abbrev pub draft_with : Draft → ℕ → List ℕ → ReadLine → Draft
draft_with draft number line read = record {
  lines = draft.lines ++ record { at = place_of number line (length (after_run class.Indent line)); content = read.1 } ∷ [];
  stage = read.0;
}

-- after a line, by the names of the rows and the lengths of the arrays; one with nothing but blanks, bars and a comment tells nothing
unfoldable pub line_read : Names → List ℕ → Draft → ℕ → List ℕ → Result Draft ListingError
line_read names lengths draft number line =
    if is_end (after_run class.Indent line) then Ok draft
    else in_line number line (line_here names lengths draft.stage (after_run class.Indent line))
    >>= λ read. Ok (draft_with draft number line read)

-- after lines, numbered from `number` on, with the number of the line after them
unfoldable pub lines_read : Names → List ℕ → Draft → ℕ → List (List ℕ) → Result (Draft × ℕ) ListingError
lines_read names lengths draft number [] = Ok (draft, number)
lines_read names lengths draft number (line ∷ lines) =
    line_read names lengths draft number line >>= λ next. lines_read names lengths next (suc number) lines

-- ---- the end

-- with what a line of a row begins that is due
abbrev pub due_at : Side → Expected
due_at side.Neither = expect.Part
due_at side.Yes = expect.Word word.Yes
due_at side.No = expect.Word word.No

-- the end of the text, in front of the line with this number: no row may be open, and there is one at least
abbrev pub ended : ℕ → Stage → Result Totals ListingError
ended number (stage.Data array element) = Err (Unexpected (line_start number) expect.RowOrName)
ended number (stage.Part side sides next) = Err (Unexpected (line_start number) (due_at side))
ended number (stage.Row next) = Ok (record { rows = next; notes = 0 })
ended number (stage.Note rows notes) = Ok (record { rows = rows; notes = notes })

-- the lines from the second on, and how many rows and notes there are
unfoldable pub body_read : Names → List ℕ → ℕ → List (List ℕ) → Result (List Line × Totals) ListingError
body_read names lengths number lines = do
  read ← lines_read names lengths no_lines number lines
  totals ← ended read.1 read.0.stage
  Ok (read.0.lines, totals)
