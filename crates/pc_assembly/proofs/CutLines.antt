-- A text is its first line, and the lines after that one's line feed.
use Rattle.std.proofs.Common.{ℕ, ◌+◌, ◌<◌, ◌≡◌, Bool, true, false, not, cond, arith}
use Rattle.std.proofs.Common.{List, [], ◌∷◌, length, take, drop, refl, ◌∙◌}
use Rattle.std.proofs.Math.Numerals.{one-add}
use Rattle.std.specs.List.{prefix_len}
use Rattle.pc_word.specs.Line.{is_line_feed}
use Rattle.pc_assembly.specs.declared.bytes.Class.TheVariants as class
use Rattle.pc_assembly.specs.Bytes.{is_in, run, after_run}
use Rattle.pc_assembly.specs.Text.{with_byte, lines_of}

-- how many bytes stand before the first line feed
front_length : List ℕ → ℕ
front_length bytes = prefix_len (is_in class.InLine) bytes

-- a text of one byte
alone : (t : Bool) (byte : ℕ) → cond t ([] ∷ lines_of []) (with_byte byte (lines_of []))
    ≡ take (cond (not t) (1 + 0) 0) (byte ∷ []) ∷ lines_of (drop 1 (drop (cond (not t) (1 + 0) 0) (byte ∷ [])))
unfolding lines_of
alone true byte = refl
alone false byte = refl

-- a byte in front of a text whose first line is known
longer : (t : Bool) (byte : ℕ) (bytes : List ℕ)
    → lines_of bytes ≡ take (front_length bytes) bytes ∷ lines_of (drop 1 (drop (front_length bytes) bytes))
    → cond t ([] ∷ lines_of bytes) (with_byte byte (lines_of bytes))
    ≡ take (cond (not t) (1 + front_length bytes) 0) (byte ∷ bytes)
    ∷ lines_of (drop 1 (drop (cond (not t) (1 + front_length bytes) 0) (byte ∷ bytes)))
longer true byte bytes e = refl
longer false byte bytes e = rw (e, one-add (front_length bytes)) refl

-- a text with a byte at least
lines_cut : (byte : ℕ) (bytes : List ℕ)
    → lines_of (byte ∷ bytes) ≡ run class.InLine (byte ∷ bytes) ∷ lines_of (drop 1 (after_run class.InLine (byte ∷ bytes)))
unfolding lines_of front_length
lines_cut byte [] = alone (is_line_feed byte) byte
lines_cut byte (next ∷ bytes) = longer (is_line_feed byte) byte (next ∷ bytes) (lines_cut next bytes)

-- the first line, and the lines after its line feed
pub cut_at : (text line rest : List ℕ) → 0 < length text → line ≡ run class.InLine text → rest ≡ after_run class.InLine text
    → lines_of text ≡ line ∷ lines_of (drop 1 rest)
cut_at [] line rest some first after = absurd (omega (arith, some))
cut_at (byte ∷ bytes) line rest some first after = lines_cut byte bytes ∙ rw (first, after) refl

-- the first line, where it is the whole text
pub cut_ends : (text line rest : List ℕ) → 0 < length text
    → line ≡ run class.InLine text → rest ≡ after_run class.InLine text → length rest < 1
    → lines_of text ≡ line ∷ lines_of rest
cut_ends text line [] some first after few = cut_at text line [] some first after
cut_ends text line (byte ∷ rest) some first after few = absurd (omega (arith, few))
