-- The lines of a text, and places in it.
use Rattle.std.specs.Prelude.{ℕ, ◌+◌, ◌-◌, if◌then◌else◌, List, [], ◌∷◌, length}
use Rattle.pc_word.specs.Line.{is_line_feed}
use Rattle.pc_assembly.specs.declared.error.Place.{Place}

-- lines, the first of which has one more byte in front
abbrev pub with_byte : ℕ → List (List ℕ) → List (List ℕ)
with_byte byte [] = (byte ∷ []) ∷ []
with_byte byte (line ∷ lines) = (byte ∷ line) ∷ lines

-- the lines of a text, each of which ends at a line feed or with the text
unfoldable pub lines_of : List ℕ → List (List ℕ)
lines_of [] = []
lines_of (byte ∷ bytes) = if is_line_feed byte then [] ∷ lines_of bytes else with_byte byte (lines_of bytes)

-- the place in the line with this number at which so many bytes of it are left
abbrev pub place_of : ℕ → List ℕ → ℕ → Place
place_of number line left = record { line = number; column = length line - left + 1 }

-- the first column of a line
abbrev pub line_start : ℕ → Place
line_start number = record { line = number; column = 1 }
