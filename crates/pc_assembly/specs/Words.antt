-- The reading of words, marks, numbers and the ends of lines. A reader takes the bytes of a line that are left, and gives a value and
-- the bytes after it. One whose name ends in `_here` begins at its first byte, one whose name ends in `_at` passes blanks before.
use Rattle.std.specs.Prelude.{ℕ, ◌+◌, ◌-◌, ◌*◌, Bool, true, false, if◌then◌else◌, ◌==◌, ◌||◌, nat_eq, nat_lt, codes, bytes_eq}
use Rattle.std.specs.Prelude.{List, [], ◌∷◌, length, Option, Some, None, Result, Ok, Err}
use Rattle.std.specs.List.{starts_with}
use Rattle.pc_assembly.specs.declared.bytes.Class.TheVariants as class
use Rattle.pc_assembly.specs.declared.spelling.Word.{Word as ListingWord}
use Rattle.pc_assembly.specs.declared.spelling.Mark.{Mark as ListingMark}
use Rattle.pc_assembly.specs.declared.error.Complaint.{Complaint}
use Rattle.pc_assembly.specs.declared.error.Expected.{Expected}
use Rattle.pc_assembly.specs.declared.error.Expected.TheVariants.{Word, Mark, LineEnd}
use Rattle.pc_assembly.specs.Bytes.{run, after_run}
use Rattle.pc_assembly.specs.Spelling.{word_spelling, mark_byte}

-- one reading after another: the first complaint wins
infixl 10 ◌>>=◌
abbrev pub ◌>>=◌ : {A B : Type 0} → Result A Complaint → (A → Result B Complaint) → Result B Complaint
(Ok x) >>= f = f x
(Err complaint) >>= f = Err complaint

-- the same, where the first gives nothing
infixl 10 ◌>>◌
abbrev pub ◌>>◌ : {A B : Type 0} → Result A Complaint → Result B Complaint → Result B Complaint
first >> second = first >>= λ _. second

-- something else was expected where these bytes begin
abbrev pub complain : {A : Type 0} → List ℕ → Expected → Result A Complaint
complain bytes expected = Err (record { left = length bytes; expected = expected })

-- the bytes after blanks
abbrev pub unblank : List ℕ → List ℕ
unblank bytes = after_run class.Blank bytes

-- ---- words and marks

-- whether the letters at the beginning are this word
abbrev pub is_next : ListingWord → List ℕ → Bool
is_next word bytes = bytes_eq (word_spelling word) (run class.Letter bytes)

-- whether the letters and digits at the beginning are this word
abbrev pub is_alone : ListingWord → List ℕ → Bool
is_alone word bytes = bytes_eq (word_spelling word) (run class.Name bytes)

-- this word
abbrev pub word_here : Expected → ListingWord → List ℕ → Result (List ℕ) Complaint
word_here expected word bytes = if is_next word bytes then Ok (after_run class.Letter bytes) else complain bytes expected

-- the same after blanks
abbrev pub word_at : ListingWord → List ℕ → Result (List ℕ) Complaint
word_at word bytes = word_here (Word word) word (unblank bytes)

-- whether the first byte is this mark
abbrev pub is_mark : ListingMark → List ℕ → Bool
is_mark mark [] = false
is_mark mark (byte ∷ bytes) = byte == mark_byte mark

-- this mark
abbrev pub mark_here : ListingMark → List ℕ → Result (List ℕ) Complaint
mark_here mark [] = complain [] (Mark mark)
mark_here mark (byte ∷ bytes) = if byte == mark_byte mark then Ok bytes else complain (byte ∷ bytes) (Mark mark)

-- the same after blanks
abbrev pub mark_at : ListingMark → List ℕ → Result (List ℕ) Complaint
mark_at mark bytes = mark_here mark (unblank bytes)

-- ---- the end of a line

-- whether nothing is left of the line but a comment, which `;` or `//` begins
abbrev pub is_end : List ℕ → Bool
is_end [] = true
is_end (byte ∷ bytes) = byte == 59 || starts_with nat_eq (byte ∷ bytes) (codes "//")

-- the end of the line, after blanks
abbrev pub end_at : List ℕ → Result (Unit {0}) Complaint
end_at bytes = if is_end (unblank bytes) then Ok tt else complain (unblank bytes) LineEnd

-- ---- numbers

-- the number that digits spell after others that spell a value, if it is not above the most
abbrev pub digits_value : ℕ → ℕ → List ℕ → Option ℕ
digits_value most value [] = Some value
digits_value most value (digit ∷ digits) =
    if nat_lt most (value * 10 + (digit - 48)) then None else digits_value most (value * 10 + (digit - 48)) digits

-- the number that one or more digits spell, if it is not above the most
abbrev pub numeral_value : ℕ → List ℕ → Option ℕ
numeral_value most [] = None
numeral_value most (digit ∷ digits) = digits_value most 0 (digit ∷ digits)

-- a number that stands where these bytes begin and is followed by the others, or the complaint that there is none
abbrev pub number_or : List ℕ → Expected → Option ℕ → List ℕ → Result (ℕ × List ℕ) Complaint
number_or bytes expected None rest = complain bytes expected
number_or bytes expected (Some value) rest = Ok (value, rest)

-- a number that is not above the most
abbrev pub number_here : ℕ → Expected → List ℕ → Result (ℕ × List ℕ) Complaint
number_here most expected bytes = number_or bytes expected (numeral_value most (run class.Digit bytes)) (after_run class.Digit bytes)

-- the same after blanks
abbrev pub number_at : ℕ → Expected → List ℕ → Result (ℕ × List ℕ) Complaint
number_at most expected bytes = number_here most expected (unblank bytes)

-- this number, which is not above the most
unfoldable pub number_is : (most due : ℕ) → Expected → List ℕ → Result (List ℕ) Complaint
number_is most due expected bytes = do
  number ← number_here most expected bytes
  if nat_eq number.0 due then Ok number.1 else complain bytes expected
