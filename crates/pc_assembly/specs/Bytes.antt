-- Classes of bytes, by their ASCII codes, and runs of bytes of one class.
use Rattle.std.specs.Prelude.{ℕ, Bool, not, ◌==◌, ◌&&◌, ◌||◌, nat_le, List, take, drop}
use Rattle.std.specs.List.{prefix_len}
use Rattle.pc_word.specs.Line.{is_line_feed}
use Rattle.pc_assembly.specs.declared.bytes.Class.{Class}
use Rattle.pc_assembly.specs.declared.bytes.Class.TheVariants.{Blank, Indent, Letter, Digit, Name, Sign, InLine}

-- space, tab, carriage return
abbrev pub is_blank : ℕ → Bool
is_blank byte = byte == 32 || byte == 9 || byte == 13

-- `A` to `Z`, `a` to `z`, `_`
abbrev pub is_letter : ℕ → Bool
is_letter byte = nat_le 65 byte && nat_le byte 90 || nat_le 97 byte && nat_le byte 122 || byte == 95

-- `0` to `9`
abbrev pub is_digit : ℕ → Bool
is_digit byte = nat_le 48 byte && nat_le byte 57

-- `+ - * / % < > & | ^ = !`
abbrev pub is_sign : ℕ → Bool
is_sign byte =
    byte == 43 || byte == 45 || byte == 42 || byte == 47 || byte == 37 || byte == 60
    || byte == 62 || byte == 38 || byte == 124 || byte == 94 || byte == 61 || byte == 33

-- whether a byte is of a class; an indent is of blanks and bars, a name of letters and digits, and what is in a line is no line feed
abbrev pub is_in : Class → ℕ → Bool
is_in Blank byte = is_blank byte
is_in Indent byte = is_blank byte || byte == 124
is_in Letter byte = is_letter byte
is_in Digit byte = is_digit byte
is_in Name byte = is_letter byte || is_digit byte
is_in Sign byte = is_sign byte
is_in InLine byte = not (is_line_feed byte)

-- the bytes of a class that stand at the beginning
abbrev pub run : Class → List ℕ → List ℕ
run class bytes = take (prefix_len (is_in class) bytes) bytes

-- what stands after them
abbrev pub after_run : Class → List ℕ → List ℕ
after_run class bytes = drop (prefix_len (is_in class) bytes) bytes
