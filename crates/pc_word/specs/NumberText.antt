-- The text of numbers: how a program's output shows them, and how its input is read.
use Rattle.std.specs.Prelude.{◌≡◌, ℕ, suc, ◌^◌, ℤ, pos, negsuc, Bool, true, not, ◌&&◌, ◌||◌, ◌==◌, nat_lt, if◌then◌else◌, List, [], ◌∷◌, ◌++◌, length, Option, Some, None, Result, Ok, Err}
use Rattle.std.specs.List.{flat_map}
use Rattle.std.specs.Fmt.{signed_decimal}
use Rattle.std.specs.Str.{all_ascii_digits}
use Rattle.std.specs.Str.Parse.{without_leading_sign, signed_digits_value}
use Rattle.pc_word.specs.declared.number_text.NumbersError.{NumbersError}
use Rattle.pc_word.specs.declared.number_text.NumbersError.TheVariants.{NotNumber, Memory}

-- the line of a number: its decimal digits, with `-` before them where it is negative, and a line feed
abbrev pub line_of : ℤ → List ℕ
line_of number = signed_decimal number ++ 10 ∷ []

-- the text of numbers: the line of each
abbrev pub text_of : List ℤ → List ℕ
text_of numbers = flat_map line_of numbers

-- what stands between the words of a text: spaces, tabs, carriage returns and line feeds
abbrev pub is_separator : ℕ → Bool
is_separator byte = byte == 32 || byte == 9 || byte == 13 || byte == 10

-- the bytes of a text before its first blank
abbrev pub first_word : List ℕ → List ℕ
first_word [] = []
first_word (byte ∷ bytes) = if is_separator byte then [] else byte ∷ first_word bytes

-- one decimal digit or more, and nothing else
abbrev pub is_numeral : List ℕ → Bool
is_numeral bytes = nat_lt 0 (length bytes) && all_ascii_digits bytes

-- a number from -2147483648 to 2147483647
abbrev pub is_word : ℤ → Bool
is_word (pos n) = nat_lt n (2 ^ 31)
is_word (negsuc n) = nat_lt n (2 ^ 31)

-- the number that a word of a text spells: a `+`, a `-` or no sign, and a decimal numeral
abbrev pub number_of : List ℕ → Option ℤ
number_of bytes =
    if is_numeral (without_leading_sign bytes) && is_word (signed_digits_value 10 bytes)
    then Some (signed_digits_value 10 bytes) else None

-- the numbers of a text that begins with a word at this place, or the place of its first word that spells none
abbrev pub with_number : ℕ → Option ℤ → Result (List ℤ) ℕ → Result (List ℤ) ℕ
with_number place None rest = Err place
with_number place (Some number) (Ok numbers) = Ok (number ∷ numbers)
with_number place (Some number) (Err later) = Err later

-- the numbers of what is left of a text from this place on: a word begins at each byte that is no blank and has a blank or nothing before it
abbrev pub numbers_from : ℕ → Bool → List ℕ → Result (List ℤ) ℕ
numbers_from place after_blank [] = Ok []
numbers_from place after_blank (byte ∷ bytes) =
    if after_blank && not (is_separator byte)
    then with_number place (number_of (first_word (byte ∷ bytes))) (numbers_from (suc place) (is_separator byte) bytes)
    else numbers_from (suc place) (is_separator byte) bytes

-- the numbers that the words of a text spell, or the offset of the first byte of the first word that spells none
unfoldable pub numbers_in : List ℕ → Result (List ℤ) ℕ
numbers_in bytes = numbers_from 0 true bytes

-- the text is refused for the word at this offset, or there is no memory
abbrev pub IsNumbersRefusal : List ℕ → NumbersError → Type 0
IsNumbersRefusal bytes (NotNumber offset) = numbers_in bytes ≡ Err offset
IsNumbersRefusal bytes Memory = Unit {0}
