-- The operands of a comparison lie in the intervals that are narrowed by it.
use Rattle.std.proofs.Common.{◌≡◌, zero, suc, Bool, true, false, not, ◌&&◌, refl, arith, sym}
use Rattle.std.specs.Prelude.{ℤ, pos, negsuc, ◌+ℤ◌, ◌-ℤ◌, ◌<ℤ◌, ◌≤ℤ◌, cond, if◌then◌else◌, int_lt, int_le}
use Rattle.std.specs.Ordering.{int_eq}
use Rattle.std.proofs.lemmas.Int.{ints}
use Rattle.pc_word.specs.declared.item.OpCode.{OpCode}
use Rattle.pc_word.specs.declared.item.OpCode.TheVariants.{Add, Sub, Mul, Div, Rem, Shl, Shr, And, Or, Xor, Less, LessEq, Equal, Unequal, Below}
use Rattle.pc_word.specs.Word.{word_of_test, holds, word_less, word_less_eq, word_equal, word_unequal, word_below, word_apply}
use Rattle.pc_word.proofs.Truth.{and_true}
use Rattle.pc_ranges.specs.declared.interval.Interval.{Interval}
use Rattle.pc_ranges.specs.Interval.{least, greatest, LiesIn}
use Rattle.pc_ranges.specs.Over.{is_from_zero}
use Rattle.pc_ranges.specs.models.Narrowing.{meet, at_most, at_least, below, above, from_zero, narrowed_left, narrowed_right, tested}
use Rattle.pc_ranges.proofs.Intervals.{lt_of, le_of, not_lt, not_le, eq_of}

-- ---- intervals

-- the greater of two lower ends, of which each bounds where it is more than the least word
low_of : (b : Bool) (x y z : ℤ) → (least <ℤ x → x ≤ℤ z) → (least <ℤ y → y ≤ℤ z) → least <ℤ cond b x y → cond b x y ≤ℤ z
low_of true x y z h k = h
low_of false x y z h k = k

high_of : (b : Bool) (x y z : ℤ) → (x <ℤ greatest → z ≤ℤ x) → (y <ℤ greatest → z ≤ℤ y) → cond b x y <ℤ greatest → z ≤ℤ cond b x y
high_of true x y z h k = h
high_of false x y z h k = k

pub meets : (a b : Interval) (z : ℤ) → LiesIn a z → LiesIn b z → LiesIn (meet a b) z
meets a b z in_a in_b = record {
  low = low_of (int_lt b.low a.low) a.low b.low z in_a.low in_b.low;
  high = high_of (int_lt b.high a.high) b.high a.high z in_b.high in_a.high;
}

no_low : (z : ℤ) → least <ℤ least → least ≤ℤ z
no_low z h = absurd (omega (arith, ints))

no_high : (z : ℤ) → greatest <ℤ greatest → z ≤ℤ greatest
no_high z h = absurd (omega (arith, ints))

in_at_most : (b : Interval) (x y : ℤ) → x ≤ℤ y → LiesIn b y → LiesIn (at_most b) x
in_at_most b x y le lies = record { low = no_low x; high = λ h. let top = lies.high h in omega (arith, ints) }

in_at_least : (b : Interval) (x y : ℤ) → y ≤ℤ x → LiesIn b y → LiesIn (at_least b) x
in_at_least b x y le lies = record { low = λ h. let bottom = lies.low h in omega (arith, ints); high = no_high x }

end_below : (b : Bool) (high x y : ℤ) → (b ≡ true → high <ℤ greatest) → x <ℤ y → (high <ℤ greatest → y ≤ℤ high)
    → (if b then high -ℤ pos 1 else greatest) <ℤ greatest → x ≤ℤ (if b then high -ℤ pos 1 else greatest)
end_below true high x y ends lt top h = let bound = top (ends refl) in omega (arith, ints)
end_below false high x y ends lt top h = absurd (omega (arith, ints))

in_below : (b : Interval) (x y : ℤ) → x <ℤ y → LiesIn b y → LiesIn (below b) x
in_below b x y lt lies = record {
  low = no_low x;
  high = end_below (int_lt least b.high && int_lt b.high greatest) b.high x y
      (λ e. lt_of b.high greatest (and_true (int_lt least b.high) (int_lt b.high greatest) e).1) lt lies.high;
}

end_above : (b : Bool) (low x y : ℤ) → (b ≡ true → least <ℤ low) → y <ℤ x → (least <ℤ low → low ≤ℤ y)
    → least <ℤ (if b then low +ℤ pos 1 else least) → (if b then low +ℤ pos 1 else least) ≤ℤ x
end_above true low x y ends lt bottom h = let bound = bottom (ends refl) in omega (arith, ints)
end_above false low x y ends lt bottom h = absurd (omega (arith, ints))

in_above : (b : Interval) (x y : ℤ) → y <ℤ x → LiesIn b y → LiesIn (above b) x
in_above b x y lt lies = record {
  low = end_above (int_lt least b.low && int_lt b.low greatest) b.low x y
      (λ e. lt_of least b.low (and_true (int_lt least b.low) (int_lt b.low greatest) e).0) lt lies.low;
  high = no_high x;
}

in_from_zero : (x : ℤ) → pos 0 ≤ℤ x → LiesIn from_zero x
in_from_zero x h = record { low = λ l. h; high = no_high x }

-- ---- what a comparison that holds says, or one that does not

told : (b side : Bool) → holds (word_of_test b) ≡ side → b ≡ side
told true true e = refl
told true false e = absurd (cc)
told false true e = absurd (cc)
told false false e = refl

untold : (b side : Bool) → holds (word_of_test (not b)) ≡ side → b ≡ not side
untold true true e = absurd (cc)
untold true false e = refl
untold false true e = refl
untold false false e = absurd (cc)

-- an unsigned comparison with a number from 0 up holds of a number from 0 up that is less
below_says : (x y : ℤ) → pos 0 ≤ℤ y → holds (word_below x y) ≡ true → (pos 0 ≤ℤ x) × (x <ℤ y)
unfolding word_below
below_says (pos x) (pos y) h e = (omega (arith, ints), lt_of (pos x) (pos y) (told (int_lt (pos x) (pos y)) true e))
below_says (pos x) (negsuc y) h e = absurd (omega (arith, ints))
below_says (negsuc x) (pos y) h e = absurd (cc)
below_says (negsuc x) (negsuc y) h e = absurd (omega (arith, ints))

-- ---- narrowing

below_left : (c : Bool) (a b : Interval) (x y : ℤ) → is_from_zero b ≡ c → holds (word_below x y) ≡ true → LiesIn a x → LiesIn b y
    → LiesIn (if c then meet (meet a (below b)) from_zero else a) x
below_left true a b x y e h in_a in_b =
    let above = le_of (pos 0) b.low e in
    let bounds : least <ℤ b.low = omega (arith, ints) in
    let low = in_b.low bounds in
    let both = below_says x y (omega (arith, ints)) h in
    meets (meet a (below b)) from_zero x (meets a (below b) x in_a (in_below b x y both.1 in_b)) (in_from_zero x both.0)
below_left false a b x y e h in_a in_b = in_a

pub left_lies : (op : OpCode) (side : Bool) (a b : Interval) (x y : ℤ) → holds (word_apply op x y) ≡ side → LiesIn a x → LiesIn b y
    → LiesIn (narrowed_left op side a b) x
unfolding word_less word_less_eq word_equal word_unequal
left_lies Add side a b x y e in_a in_b = in_a
left_lies Sub side a b x y e in_a in_b = in_a
left_lies Mul side a b x y e in_a in_b = in_a
left_lies Div side a b x y e in_a in_b = in_a
left_lies Rem side a b x y e in_a in_b = in_a
left_lies Shl side a b x y e in_a in_b = in_a
left_lies Shr side a b x y e in_a in_b = in_a
left_lies And side a b x y e in_a in_b = in_a
left_lies Or side a b x y e in_a in_b = in_a
left_lies Xor side a b x y e in_a in_b = in_a
left_lies Less true a b x y e in_a in_b = meets a (below b) x in_a (in_below b x y (lt_of x y (told (int_lt x y) true e)) in_b)
left_lies Less false a b x y e in_a in_b = meets a (at_least b) x in_a (in_at_least b x y (not_lt x y (told (int_lt x y) false e)) in_b)
left_lies LessEq true a b x y e in_a in_b = meets a (at_most b) x in_a (in_at_most b x y (le_of x y (told (int_le x y) true e)) in_b)
left_lies LessEq false a b x y e in_a in_b = meets a (above b) x in_a (in_above b x y (not_le x y (told (int_le x y) false e)) in_b)
left_lies Equal true a b x y e in_a in_b = meets a b x in_a (rw (eq_of x y (told (int_eq x y) true e)) in_b)
left_lies Equal false a b x y e in_a in_b = in_a
left_lies Unequal true a b x y e in_a in_b = in_a
left_lies Unequal false a b x y e in_a in_b = meets a b x in_a (rw (eq_of x y (untold (int_eq x y) false e)) in_b)
left_lies Below true a b x y e in_a in_b = below_left (is_from_zero b) a b x y refl e in_a in_b
left_lies Below false a b x y e in_a in_b = in_a

pub right_lies : (op : OpCode) (side : Bool) (a b : Interval) (x y : ℤ) → holds (word_apply op x y) ≡ side → LiesIn a x → LiesIn b y
    → LiesIn (narrowed_right op side a b) y
unfolding word_less word_less_eq word_equal word_unequal
right_lies Add side a b x y e in_a in_b = in_b
right_lies Sub side a b x y e in_a in_b = in_b
right_lies Mul side a b x y e in_a in_b = in_b
right_lies Div side a b x y e in_a in_b = in_b
right_lies Rem side a b x y e in_a in_b = in_b
right_lies Shl side a b x y e in_a in_b = in_b
right_lies Shr side a b x y e in_a in_b = in_b
right_lies And side a b x y e in_a in_b = in_b
right_lies Or side a b x y e in_a in_b = in_b
right_lies Xor side a b x y e in_a in_b = in_b
right_lies Less true a b x y e in_a in_b = meets b (above a) y in_b (in_above a y x (lt_of x y (told (int_lt x y) true e)) in_a)
right_lies Less false a b x y e in_a in_b = meets b (at_most a) y in_b (in_at_most a y x (not_lt x y (told (int_lt x y) false e)) in_a)
right_lies LessEq true a b x y e in_a in_b = meets b (at_least a) y in_b (in_at_least a y x (le_of x y (told (int_le x y) true e)) in_a)
right_lies LessEq false a b x y e in_a in_b = meets b (below a) y in_b (in_below a y x (not_le x y (told (int_le x y) false e)) in_a)
right_lies Equal true a b x y e in_a in_b = meets b a y in_b (rw (sym (eq_of x y (told (int_eq x y) true e))) in_a)
right_lies Equal false a b x y e in_a in_b = in_b
right_lies Unequal true a b x y e in_a in_b = in_b
right_lies Unequal false a b x y e in_a in_b = meets b a y in_b (rw (sym (eq_of x y (untold (int_eq x y) false e))) in_a)
right_lies Below side a b x y e in_a in_b = in_b

-- ---- what is tested

zero_only : (z : ℤ) → holds z ≡ false → z ≡ pos 0
zero_only (pos zero) e = refl
zero_only (pos (suc n)) e = absurd (cc)
zero_only (negsuc n) e = absurd (cc)

not_zero : (z : ℤ) → holds z ≡ true → z ≡ pos 0 → ⊥
not_zero (pos zero) e same = absurd (cc)
not_zero (pos (suc n)) e same = absurd (cc)
not_zero (negsuc n) e same = absurd (cc)

low_loses : (b : Bool) (low z : ℤ) → (b ≡ true → low ≡ pos 0) → (z ≡ pos 0 → ⊥) → (least <ℤ low → low ≤ℤ z) → least <ℤ (if b then pos 1 else low)
    → (if b then pos 1 else low) ≤ℤ z
low_loses true low z zero_low apart bound h =
    let at = zero_low refl in
    let below : least <ℤ low = rw at (omega (arith, ints)) in
    let from = rw at at (bound below) in
    above_zero z from apart
  where
    above_zero : (z : ℤ) → pos 0 ≤ℤ z → (z ≡ pos 0 → ⊥) → pos 1 ≤ℤ z
    above_zero (pos zero) h k = absurd (k refl)
    above_zero (pos (suc n)) h k = omega (arith, ints)
    above_zero (negsuc n) h k = absurd (omega (arith, ints))
low_loses false low z zero_low apart bound h = bound h

high_loses : (b : Bool) (high z : ℤ) → (b ≡ true → high ≡ pos 0) → (z ≡ pos 0 → ⊥) → (high <ℤ greatest → z ≤ℤ high) → (if b then negsuc 0 else high) <ℤ greatest
    → z ≤ℤ (if b then negsuc 0 else high)
high_loses true high z zero_high apart bound h =
    let at = zero_high refl in
    let above : high <ℤ greatest = rw at (omega (arith, ints)) in
    let to = rw at at (bound above) in
    below_zero z to apart
  where
    below_zero : (z : ℤ) → z ≤ℤ pos 0 → (z ≡ pos 0 → ⊥) → z ≤ℤ negsuc 0
    below_zero (pos zero) h k = absurd (k refl)
    below_zero (pos (suc n)) h k = absurd (omega (arith, ints))
    below_zero (negsuc n) h k = omega (arith, ints)
high_loses false high z zero_high apart bound h = bound h

pub tested_lies : (side : Bool) (a : Interval) (z : ℤ) → holds z ≡ side → LiesIn a z → LiesIn (tested side a) z
tested_lies true a z e lies = record {
  low = low_loses (int_eq a.low (pos 0)) a.low z (eq_of a.low (pos 0)) (not_zero z e) lies.low;
  high = high_loses (int_eq a.high (pos 0)) a.high z (eq_of a.high (pos 0)) (not_zero z e) lies.high;
}
tested_lies false a z e lies = meets a (record { low = pos 0; high = pos 0 }) z lies (at_zero z (zero_only z e))
  where
    at_zero : (z : ℤ) → z ≡ pos 0 → LiesIn (record { low = pos 0; high = pos 0 }) z
    at_zero z same = record { low = λ h. rw same (omega (arith, ints)); high = λ h. rw same (omega (arith, ints)) }
