-- How far a number reaches, and what it stands for.
use Rattle.std.specs.Prelude.{ℕ, suc, ◌+◌, ◌-◌, ◌*◌, Bool, ◌==◌, ◌&&◌, ◌||◌, nat_le, nat_lt, nat_eq, List, [], ◌∷◌, Option, Some, None, if◌then◌else◌, codes, drop, length}
use Rattle.std.specs.List.{starts_with}
use Rattle.pc_lexer.specs.Bytes.{is_digit, is_word_byte}

-- `e`, `E`, `p`, `P`: a sign directly after one of these belongs to a number (C17 6.4.8)
abbrev pub is_exponent : ℕ → Bool
is_exponent b = b == 101 || b == 69 || b == 112 || b == 80

-- `+`, `-`
abbrev pub is_sign : ℕ → Bool
is_sign b = b == 43 || b == 45

-- how many bytes of these belong to a number that began before them;
-- exponent says whether the byte before them is an exponent's letter
unfoldable pub number_length : Bool → List ℕ → ℕ
number_length exponent [] = 0
number_length exponent (b ∷ bytes) =
    if is_word_byte b || exponent && is_sign b then suc (number_length (is_exponent b) bytes) else 0

-- the greatest `int`, 0x7FFFFFFF
abbrev pub int_max : ℕ
int_max = 2147483647

-- what a byte counts as a digit of a base up to 16; 16 for one that is no such digit
abbrev pub digit_value : ℕ → ℕ
digit_value b =
    if is_digit b then b - 48
    else (if nat_le 97 b && nat_le b 102 then b - 87
    else (if nat_le 65 b && nat_le b 70 then b - 55
    else 16))

-- the number that digits spell after others that spell n; None where a byte is no digit of the base
unfoldable pub digits_value : ℕ → ℕ → List ℕ → Option ℕ
digits_value base n [] = Some n
digits_value base n (b ∷ bytes) =
    if nat_lt (digit_value b) base then digits_value base (n * base + digit_value b) bytes else None

-- a number that is an `int`
abbrev pub as_int : Option ℕ → Option ℕ
as_int None = None
as_int (Some n) = if nat_le n int_max then Some n else None

-- the `int` that one or more digits of a base spell
abbrev pub int_of_digits : ℕ → List ℕ → Option ℕ
int_of_digits base [] = None
int_of_digits base (b ∷ bytes) = as_int (digits_value base 0 (b ∷ bytes))

-- What a number's spelling stands for, as C17 6.4.4.1 has it without suffixes: hexadecimal after `0x` or `0X`,
-- octal after another `0` that is not alone, else decimal. None where it is misspelt or no `int`.
unfoldable pub number_value : List ℕ → Option ℕ
number_value spelling =
    if starts_with nat_eq spelling (codes "0x") || starts_with nat_eq spelling (codes "0X") then int_of_digits 16 (drop 2 spelling)
    else (if starts_with nat_eq spelling (codes "0") && nat_lt 1 (length spelling) then int_of_digits 8 (drop 1 spelling)
    else int_of_digits 10 spelling)
