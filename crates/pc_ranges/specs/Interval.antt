-- Intervals of words, by which numbers are bounded.
use Rattle.std.specs.Prelude.{ℕ, ℤ, pos, negsuc, ◌<ℤ◌, ◌≤ℤ◌, Bool, ◌&&◌, ◌||◌, List, Option, Some, None, int_lt, slice_get}
use Rattle.std.specs.Ordering.{int_eq}
use Rattle.pc_word.specs.declared.item.Operand.{Operand}
use Rattle.pc_word.specs.declared.item.Operand.TheVariants.{Name, Lit}
use Rattle.pc_ranges.specs.declared.interval.Interval.{Interval}

-- the least and the greatest word
abbrev pub least : ℤ
least = negsuc 2147483647

abbrev pub greatest : ℤ
greatest = pos 2147483647

-- A number lies in an interval. The least word does not bound it from below, nor the greatest one from above, since input
-- numbers are whole numbers of any size.
pub record LiesIn (interval : Interval) (z : ℤ) : Type 0 where
  pub low : least <ℤ interval.low → interval.low ≤ℤ z
  pub high : interval.high <ℤ greatest → z ≤ℤ interval.high

-- the interval in which every number lies
abbrev pub all_words : Interval
all_words = record { low = least; high = greatest }

-- the interval of a literal
abbrev pub exactly : ℤ → Interval
exactly word = record { low = word; high = word }

-- whether both ends of an interval bound
abbrev pub is_bounded : Interval → Bool
is_bounded interval = int_lt least interval.low && int_lt interval.high greatest

-- whether one number alone lies in it
abbrev pub is_single : Interval → Bool
is_single interval = is_bounded interval && int_eq interval.low interval.high

-- whether 0 alone lies in it
abbrev pub is_zero : Interval → Bool
is_zero interval = int_eq interval.low (pos 0) && int_eq interval.high (pos 0)

-- whether 0 does not lie in it
abbrev pub lacks_zero : Interval → Bool
lacks_zero interval = int_lt (pos 0) interval.low || int_lt interval.high (pos 0)

-- ---- of variables

-- the interval of a variable: all words where none is listed
abbrev pub interval_if : Option Interval → Interval
interval_if (Some interval) = interval
interval_if None = all_words

abbrev pub interval_of : List Interval → ℕ → Interval
interval_of intervals variable = interval_if (slice_get intervals variable)

-- the interval of an operand
abbrev pub operand_interval : List Interval → Operand → Interval
operand_interval intervals (Name variable) = interval_of intervals variable
operand_interval intervals (Lit word) = exactly word
