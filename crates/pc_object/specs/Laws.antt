-- Laws of the format, of every object and all bytes. Each is the contract of a function of laws.rt, which does nothing.
use Rattle.std.specs.Prelude.{◌≡◌, ℕ, ◌+◌, ◌*◌, ◌<◌, ◌≤◌, ◌↔◌, List, ◌∷◌, ◌++◌, length, take, slice_get, slice_index, Some, Ok, Err}
use Rattle.pc_word.specs.MachineLimits.{most_ops, most_tests, most_object}
use Rattle.pc_machine.specs.declared.code.Flaw.{Flaw}
use Rattle.pc_machine.specs.declared.check.Bounds.{Bounds}
use Rattle.pc_machine.specs.Flaws.{no_counts, nothing_above, flaws_of}
use Rattle.pc_object.specs.declared.refusal.ObjectError.TheVariants.{Truncated, BadField, Trailing}
use Rattle.pc_object.specs.ObjectText.{CodeWithNotes, object_text, IsObject}
use Rattle.pc_object.specs.Numbers.{HasWords, HasCounts}
use Rattle.pc_object.specs.Reading.{object_reading, row_at, deepest}
use Rattle.pc_object.specs.declared.object.Note.{Note}
use Rattle.pc_object.specs.ObjectText.{operand_text, item_text, leaf_text, row_text, version_of, header_text, notes_text}
use Rattle.pc_object.specs.Sizes.{operand_bytes, item_bytes, test_bytes, goto_bytes, end_bytes, trap_bytes, header_bytes, length_bytes, initial_bytes, count_bytes, note_bytes}
use Rattle.pc_word.specs.declared.item.Item.{Item}
use Rattle.pc_word.specs.declared.item.Operand.{Operand}
use Rattle.pc_word.specs.declared.item.TrapKind.{TrapKind}
use Rattle.pc_word.specs.Row.{Either}
use Rattle.pc_machine.specs.declared.tree.Leaf.TheVariants.{Goto, Stop, Trap}
use Rattle.pc_machine.specs.MachineCode.{CodeRow, RowCode}

-- each text is the text of one object
abbrev pub OneTextOneObject : Type 0
OneTextOneObject = (a b : CodeWithNotes) → IsObject a → IsObject b → HasWords a → HasWords b → object_text a ≡ object_text b → a ≡ b

-- bytes are read as an object exactly where they are its text
abbrev pub ReadsExactlyTexts : Type 0
ReadsExactlyTexts = (bytes : List ℕ) (object : CodeWithNotes) → ((i : ℕ) → slice_index bytes i < 256) → length bytes ≤ most_object
    → (object_reading bytes ≡ Ok object) ↔ (IsObject object × HasWords object × (bytes ≡ object_text object))

-- what follows an object's text is refused at its first byte
abbrev pub LongerIsTrailing : Type 0
LongerIsTrailing = (object : CodeWithNotes) (byte : ℕ) (more : List ℕ) → IsObject object → HasWords object
    → object_reading (object_text object ++ byte ∷ more) ≡ Err (Trailing (length (object_text object)))

-- each proper beginning of an object's text is read as truncated, with its length
abbrev pub ShorterIsTruncated : Type 0
ShorterIsTruncated = (object : CodeWithNotes) (k : ℕ) → IsObject object → HasWords object → k < length (object_text object)
    → object_reading (take k (object_text object)) ≡ Err (Truncated k)

-- the text of a code that is not well formed, whose numbers have a text of their own, is refused for the flaw that stands first
abbrev pub FlawedIsBadField : Type 0
FlawedIsBadField = (object : CodeWithNotes) (flaw : Flaw) → HasWords object → HasCounts object.code → slice_get (flaws_of object.code) 0 ≡ Some flaw
    → (offset : ℕ) × (object_reading (object_text object) ≡ Err (BadField offset flaw))

-- a reader that may go deeper than the one in use reads no row otherwise, since the limits stop both before
abbrev pub DepthDecidesNothing : Type 0
DepthDecidesNothing = (bounds : Bounds) (depth : ℕ) (bytes : List ℕ) → bounds.limits.ops ≤ most_ops → bounds.limits.tests ≤ most_tests
    → ((i : ℕ) → slice_index bytes i < 256) → deepest ≤ depth
    → row_at bounds depth no_counts nothing_above bytes ≡ row_at bounds deepest no_counts nothing_above bytes

-- each part of an object's text has as many bytes as is said of it
pub record SizesAreLengths : Type 0 where
  pub operand : (o : Operand) → length (operand_text o) ≡ operand_bytes o
  pub item : (x : Item) → length (item_text x) ≡ item_bytes x
  pub test : (on : Operand) (p q : CodeRow) → length (row_text (Either on p q)) ≡ test_bytes on + (length (row_text p) + length (row_text q))
  pub goto : (row : ℕ) → length (leaf_text (Goto row)) ≡ goto_bytes
  pub end : length (leaf_text Stop) ≡ end_bytes
  pub trap : (kind : TrapKind) (line : ℕ) → length (leaf_text (Trap kind line)) ≡ trap_bytes
  pub header : (code : RowCode) → length (header_text code) ≡ header_bytes (version_of code) + length_bytes * length code.arrays + initial_bytes (version_of code) code.initial
  pub notes : (ns : List Note) → length (notes_text ns) ≡ count_bytes + note_bytes * length ns
