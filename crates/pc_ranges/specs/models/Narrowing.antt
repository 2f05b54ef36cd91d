-- Intervals that are narrowed by a test.
use Rattle.std.specs.Prelude.{ℤ, pos, negsuc, ◌+ℤ◌, ◌-ℤ◌, Bool, true, false, ◌&&◌, if◌then◌else◌, Option, Some, None, int_lt}
use Rattle.std.specs.Int.{int_max, int_min}
use Rattle.std.specs.Ordering.{int_eq}
use Rattle.pc_word.specs.declared.item.OpCode.{OpCode}
use Rattle.pc_word.specs.declared.item.OpCode.TheVariants.{Less, LessEq, Equal, Unequal, Below}
use Rattle.pc_ranges.specs.declared.interval.Interval.{Interval}
use Rattle.pc_ranges.specs.Interval.{least, greatest, all_words}
use Rattle.pc_ranges.specs.Over.{is_from_zero}

-- the interval between two words, if there are two
abbrev pub span_if : Option ℤ → Option ℤ → Interval
span_if (Some low) (Some high) = record { low = low; high = high }
span_if (Some low) None = all_words
span_if None high = all_words

-- the numbers of both intervals
abbrev pub meet : Interval → Interval → Interval
meet a b = record { low = int_max a.low b.low; high = int_min a.high b.high }

-- the numbers that are at most as great as some number of an interval
abbrev pub at_most : Interval → Interval
at_most b = record { low = least; high = b.high }

abbrev pub at_least : Interval → Interval
at_least b = record { low = b.low; high = greatest }

-- those that are less
abbrev pub below : Interval → Interval
below b = record { low = least; high = if int_lt least b.high && int_lt b.high greatest then b.high -ℤ pos 1 else greatest }

abbrev pub above : Interval → Interval
above b = record { low = if int_lt least b.low && int_lt b.low greatest then b.low +ℤ pos 1 else least; high = greatest }

-- the numbers from 0 up
abbrev pub from_zero : Interval
from_zero = record { low = pos 0; high = greatest }

-- the left operand of a comparison that holds, or does not
abbrev pub narrowed_left : OpCode → Bool → Interval → Interval → Interval
narrowed_left Less true a b = meet a (below b)
narrowed_left Less false a b = meet a (at_least b)
narrowed_left LessEq true a b = meet a (at_most b)
narrowed_left LessEq false a b = meet a (above b)
narrowed_left Equal true a b = meet a b
narrowed_left Unequal false a b = meet a b
narrowed_left Below true a b = if is_from_zero b then meet (meet a (below b)) from_zero else a
narrowed_left op side a b = a

-- the right one
abbrev pub narrowed_right : OpCode → Bool → Interval → Interval → Interval
narrowed_right Less true a b = meet b (above a)
narrowed_right Less false a b = meet b (at_most a)
narrowed_right LessEq true a b = meet b (at_least a)
narrowed_right LessEq false a b = meet b (below a)
narrowed_right Equal true a b = meet b a
narrowed_right Unequal false a b = meet b a
narrowed_right op side a b = b

-- an operand that is tested: it loses 0, or is 0
abbrev pub tested : Bool → Interval → Interval
tested true a = record { low = if int_eq a.low (pos 0) then pos 1 else a.low; high = if int_eq a.high (pos 0) then negsuc 0 else a.high }
tested false a = meet a (record { low = pos 0; high = pos 0 })
