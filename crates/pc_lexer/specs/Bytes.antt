-- Classes of bytes, by their ASCII codes.
use Rattle.std.specs.Prelude.{ℕ, Bool, ◌==◌, ◌&&◌, ◌||◌, nat_le, List, count_by}
use Rattle.pc_word.specs.Line.{is_line_feed}

-- tab, line feed, vertical tab, form feed, carriage return, space
abbrev pub is_blank : ℕ → Bool
is_blank b = nat_le 9 b && nat_le b 13 || b == 32

-- `A` to `Z`, `a` to `z`, `_`
abbrev pub is_letter : ℕ → Bool
is_letter b = nat_le 65 b && nat_le b 90 || nat_le 97 b && nat_le b 122 || b == 95

-- `0` to `9`
abbrev pub is_digit : ℕ → Bool
is_digit b = nat_le 48 b && nat_le b 57

-- what a word goes on with
abbrev pub is_word_byte : ℕ → Bool
is_word_byte b = is_letter b || is_digit b

-- how many lines end in these bytes
abbrev pub line_feeds : List ℕ → ℕ
line_feeds bytes = count_by is_line_feed bytes
