-- The interval of what an operator gives of the numbers of two intervals.
use Rattle.std.specs.Prelude.{ℤ, pos, ◌+ℤ◌, ◌-ℤ◌, ◌*ℤ◌, Bool, ◌&&◌, ◌||◌, if◌then◌else◌, int_lt, int_le}
use Rattle.pc_word.specs.declared.item.OpCode.{OpCode}
use Rattle.pc_word.specs.declared.item.OpCode.TheVariants.{Add, Sub, Mul, Div, Rem, Shr, And, Less, LessEq, Equal, Unequal, Below}
use Rattle.pc_ranges.specs.declared.interval.Interval.{Interval}
use Rattle.pc_ranges.specs.Interval.{least, greatest, all_words, is_bounded}

-- whether a number is a word
abbrev pub is_word : ℤ → Bool
is_word z = int_le least z && int_le z greatest

-- from one number to another, if both are words; what is no word wraps, and may be any
abbrev pub span : (low high : ℤ) → Interval
span low high = if is_word low && is_word high then record { low = low; high = high } else all_words

-- whether each number of an interval is less than each of another one
abbrev pub is_less : Interval → Interval → Bool
is_less a b = int_lt a.high b.low && (int_lt a.high greatest && int_lt least b.low)

-- whether it is at most as great
abbrev pub is_at_most : Interval → Interval → Bool
is_at_most a b = int_le a.high b.low && (int_lt a.high greatest && int_lt least b.low)

-- whether no number of an interval is negative
abbrev pub is_from_zero : Interval → Bool
is_from_zero interval = int_le (pos 0) interval.low

-- what a comparison gives that surely holds, or surely does not
abbrev pub truth : (surely never : Bool) → Interval
truth surely never =
    if surely then record { low = pos 1; high = pos 1 }
    else (if never then record { low = pos 0; high = pos 0 } else record { low = pos 0; high = pos 1 })

-- sums and differences that cannot wrap
abbrev pub sum : Interval → Interval → Interval
sum a b = if is_bounded a && is_bounded b then span (a.low +ℤ b.low) (a.high +ℤ b.high) else all_words

abbrev pub difference : Interval → Interval → Interval
difference a b = if is_bounded a && is_bounded b then span (a.low -ℤ b.high) (a.high -ℤ b.low) else all_words

-- from 0 to a number
abbrev pub up_to : ℤ → Interval
up_to high = record { low = pos 0; high = high }

-- whether the numbers of an interval are words from 0 up
abbrev pub is_small : Interval → Bool
is_small interval = is_from_zero interval && is_bounded interval

-- products of such numbers that cannot wrap
abbrev pub product : Interval → Interval → Interval
product a b = if is_small a && is_small b then span (a.low *ℤ b.low) (a.high *ℤ b.high) else all_words

-- quotients, remainders and shifts to the right of numbers from 0 up
abbrev pub quotient : Interval → Interval → Interval
quotient a b = if is_small a && is_from_zero b then up_to a.high else all_words

abbrev pub is_positive : Interval → Bool
is_positive interval = int_lt (pos 0) interval.low && (int_lt (pos 0) interval.high && int_lt interval.high greatest)

abbrev pub remainder : Interval → Interval → Interval
remainder a b = if is_from_zero a && is_positive b then up_to (b.high -ℤ pos 1) else all_words

abbrev pub shifted : Interval → Interval
shifted a = if is_from_zero a then up_to a.high else all_words

-- the bits that such a number has with any other
abbrev pub masked : Interval → Interval → Interval
masked a b = if is_small a then up_to a.high else (if is_small b then up_to b.high else all_words)

-- what each operator gives; of those that are not listed, all words
abbrev pub over : OpCode → Interval → Interval → Interval
over Add a b = sum a b
over Sub a b = difference a b
over Mul a b = product a b
over Div a b = quotient a b
over Rem a b = remainder a b
over Shr a b = shifted a
over And a b = masked a b
over Less a b = truth (is_less a b) (is_at_most b a)
over LessEq a b = truth (is_at_most a b) (is_less b a)
over Equal a b = truth (is_at_most a b && is_at_most b a) (is_less a b || is_less b a)
over Unequal a b = truth (is_less a b || is_less b a) (is_at_most a b && is_at_most b a)
over Below a b = truth (is_from_zero a && is_less a b) (is_from_zero b && is_at_most b a)
over op a b = all_words
