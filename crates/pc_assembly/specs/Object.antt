-- What a text is read as: the object that its listing stands for, or the first thing that is wrong with it.
use Rattle.std.specs.Prelude.{ℕ, suc, ◌++◌, if◌then◌else◌, nat_lt, List, length, Option, Some, None, Result, Ok, Err}
use Rattle.pc_word.specs.MachineLimits.{most_object}
use Rattle.pc_object.specs.declared.refusal.ObjectError.{ObjectError}
use Rattle.pc_object.specs.declared.refusal.ObjectError.TheVariants as refusal
use Rattle.pc_object.specs.ObjectText.{CodeWithNotes}
use Rattle.pc_object.specs.Reading.{object_reading}
use Rattle.pc_assembly.specs.declared.error.ListingError.{ListingError}
use Rattle.pc_assembly.specs.declared.error.ListingError.TheVariants.{Unexpected, Refused, TooLong, Memory}
use Rattle.pc_assembly.specs.declared.line.Line.{Line}
use Rattle.pc_assembly.specs.declared.line.Totals.{Totals}
use Rattle.pc_assembly.specs.Limits.{Header}
use Rattle.pc_assembly.specs.Text.{lines_of}
use Rattle.pc_assembly.specs.Names.{names_of}
use Rattle.pc_assembly.specs.Listing.{◌>>=◌, first_line, body_read}
use Rattle.pc_assembly.specs.Assembled.{header_bytes, rows_bytes, notes_bytes, data_offset, place_at}

-- the offset that a refusal of bytes names; bytes with another beginning are refused at their first one
abbrev pub offset_of : ObjectError → ℕ
offset_of refusal.BadMagic = 0
offset_of (refusal.Truncated offset) = offset
offset_of (refusal.BadField offset flaw) = offset
offset_of (refusal.Trailing offset) = offset
offset_of refusal.Memory = 0

-- the answer to a listing by that to the bytes which it stands for: a refusal is told with its place
abbrev pub told : (number data_at rows_at : ℕ) → List Line → Result CodeWithNotes ObjectError → Result CodeWithNotes ListingError
told number data_at rows_at lines (Ok object) = Ok object
told number data_at rows_at lines (Err why) = Err (Refused (place_at number data_at rows_at (offset_of why) lines) why)

-- the object of these bytes, which are not too many
abbrev pub loaded : (number data_at rows_at : ℕ) → List Line → List ℕ → Result CodeWithNotes ListingError
loaded number data_at rows_at lines bytes =
    if nat_lt most_object (length bytes) then Err TooLong else told number data_at rows_at lines (object_reading bytes)

-- the object of a first line, which has this number, and the lines after it
unfoldable pub assembled : ℕ → Header → List Line → Totals → Result CodeWithNotes ListingError
assembled number header lines totals =
    loaded number (data_offset (length header.arrays)) (length (header_bytes header lines totals.rows)) lines
    (header_bytes header lines totals.rows ++ (rows_bytes lines ++ notes_bytes lines totals.notes))

-- what a text is read as
unfoldable pub listing_reading : List ℕ → Result CodeWithNotes ListingError
listing_reading text = do
  first ← first_line 1 (lines_of text)
  body ← body_read (names_of first.2) first.0.arrays (suc first.1) first.2
  assembled first.1 first.0 body.0 body.1

-- what an error is due to, if not to want of memory: each tells itself
abbrev pub listing_cause : ListingError → Option ListingError
listing_cause (Unexpected at expected) = Some (Unexpected at expected)
listing_cause (Refused at why) = Some (Refused at why)
listing_cause TooLong = Some TooLong
listing_cause Memory = None
