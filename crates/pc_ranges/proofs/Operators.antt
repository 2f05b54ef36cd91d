-- What operators give of numbers lies in what they give of intervals.
use Rattle.std.proofs.Common.{◌≡◌, to_z, ℕ, zero, suc, ◌/◌, ◌%◌, ◌^◌, ◌<◌, ◌≤◌, Bool, true, false, not, ◌&&◌, ◌||◌, refl, arith, ap, inl, inr}
use Rattle.std.specs.Prelude.{ℤ, pos, negsuc, ◌+ℤ◌, ◌-ℤ◌, ◌*ℤ◌, FitsSigned, bit_and, ◌<ℤ◌, ◌≤ℤ◌, if◌then◌else◌, int_lt, int_le}
use Rattle.std.specs.Int.{w32, cast_unsigned, int_wrap, int_shr}
use Rattle.std.specs.Ordering.{int_eq}
use Rattle.std.proofs.lemmas.Int.{ints, int_wrap_fits, to_z_pos}
use Rattle.std.proofs.lemmas.Nat.{mul-le, and_le_l, and_comm}
use Rattle.std.proofs.Math.Nat.{div-le_self, mod-lt}
use Rattle.pc_word.specs.declared.item.OpCode.{OpCode}
use Rattle.pc_word.specs.declared.item.OpCode.TheVariants.{Add, Sub, Mul, Div, Rem, Shl, Shr, And, Or, Xor, Less, LessEq, Equal, Unequal, Below}
use Rattle.pc_word.specs.Word.{word_of_test, word_add, word_sub, word_mul, word_div, word_rem, word_shr, word_and, word_less, word_less_eq, word_equal, word_unequal, word_below, word_apply}
use Rattle.pc_word.proofs.Truth.{and_true, or_true}
use Rattle.pc_ranges.specs.declared.interval.Interval.{Interval}
use Rattle.pc_ranges.specs.Interval.{least, greatest, LiesIn, all_words, is_bounded}
use Rattle.pc_ranges.specs.Over.{is_word, span, is_less, is_at_most, is_from_zero, truth, up_to, is_small, is_positive, over}
use Rattle.pc_ranges.proofs.Intervals.{lt_of, le_of, of_lt, of_le, of_not_lt, of_not_le, eq_of, of_eq, in_all, between_ends, lies_between, Between, bounded, same_by_order}

-- ---- comparisons of intervals

pub less : (a b : Interval) (x y : ℤ) → is_less a b ≡ true → LiesIn a x → LiesIn b y → x <ℤ y
less a b x y e in_a in_b =
    let first = and_true (int_lt a.high b.low) (int_lt a.high greatest && int_lt least b.low) e in
    let ends = and_true (int_lt a.high greatest) (int_lt least b.low) first.1 in
    let apart = lt_of a.high b.low first.0 in
    let high = in_a.high (lt_of a.high greatest ends.0) in
    let low = in_b.low (lt_of least b.low ends.1) in
    omega (arith, ints)

pub at_most : (a b : Interval) (x y : ℤ) → is_at_most a b ≡ true → LiesIn a x → LiesIn b y → x ≤ℤ y
at_most a b x y e in_a in_b =
    let first = and_true (int_le a.high b.low) (int_lt a.high greatest && int_lt least b.low) e in
    let ends = and_true (int_lt a.high greatest) (int_lt least b.low) first.1 in
    let apart = le_of a.high b.low first.0 in
    let high = in_a.high (lt_of a.high greatest ends.0) in
    let low = in_b.low (lt_of least b.low ends.1) in
    omega (arith, ints)

pub from_zero : (a : Interval) (x : ℤ) → is_from_zero a ≡ true → LiesIn a x → pos 0 ≤ℤ x
from_zero a x e in_a =
    let above = le_of (pos 0) a.low e in
    let bounds : least <ℤ a.low = omega (arith, ints) in
    let low = in_a.low bounds in
    omega (arith, ints)

-- the interval of a comparison, of which it is known when it surely holds and when it never does
pub truth_lies : (surely never b : Bool) → (surely ≡ true → b ≡ true) → (never ≡ true → b ≡ false) → LiesIn (truth surely never) (word_of_test b)
truth_lies true never true h k = lies_between (pos 1) (pos 1) (pos 1) (omega (arith, ints)) (omega (arith, ints))
truth_lies true never false h k = let e = h refl in absurd (cc)
truth_lies false true true h k = let e = k refl in absurd (cc)
truth_lies false true false h k = lies_between (pos 0) (pos 0) (pos 0) (omega (arith, ints)) (omega (arith, ints))
truth_lies false false true h k = lies_between (pos 0) (pos 1) (pos 1) (omega (arith, ints)) (omega (arith, ints))
truth_lies false false false h k = lies_between (pos 0) (pos 1) (pos 0) (omega (arith, ints)) (omega (arith, ints))

of_not_eq : (x y : ℤ) → (x ≡ y → ⊥) → (b : Bool) → int_eq x y ≡ b → b ≡ false
of_not_eq x y apart true e = absurd (apart (eq_of x y e))
of_not_eq x y apart false e = refl

module _ (a b : Interval) (x y : ℤ) (in_a : LiesIn a x) (in_b : LiesIn b y) where
  -- two intervals with the same single number
  same : (is_at_most a b && is_at_most b a) ≡ true → int_eq x y ≡ true
  same e =
      let both = and_true (is_at_most a b) (is_at_most b a) e in
      of_eq x y (same_by_order x y (at_most a b x y both.0 in_a in_b) (at_most b a y x both.1 in_b in_a))

  -- and two with none in both
  apart : (is_less a b || is_less b a) ≡ true → int_eq x y ≡ false
  apart e = of_not_eq x y (elim (or_true (is_less a b) (is_less b a) e) [
    | inl h ↦ let low = less a b x y h in_a in_b in λ (q : x ≡ y). absurd (omega (arith, ints))
    | inr h ↦ let high = less b a y x h in_b in_a in λ (q : x ≡ y). absurd (omega (arith, ints))
  ]) (int_eq x y) refl

-- whether an unsigned comparison holds
unfoldable below_test : ℤ → ℤ → Bool
below_test (pos x) (pos y) = int_lt (pos x) (pos y)
below_test (pos x) (negsuc y) = true
below_test (negsuc x) (pos y) = false
below_test (negsuc x) (negsuc y) = int_lt (negsuc x) (negsuc y)

below_is : (x y : ℤ) → word_below x y ≡ word_of_test (below_test x y)
unfolding word_below below_test
below_is (pos x) (pos y) = refl
below_is (pos x) (negsuc y) = refl
below_is (negsuc x) (pos y) = refl
below_is (negsuc x) (negsuc y) = refl

surely_below : (x y : ℤ) → pos 0 ≤ℤ x → x <ℤ y → below_test x y ≡ true
unfolding below_test
surely_below (pos x) (pos y) h k = of_lt (pos x) (pos y) k
surely_below (pos x) (negsuc y) h k = refl
surely_below (negsuc x) y h k = absurd (omega (arith, ints))

never_below : (x y : ℤ) → pos 0 ≤ℤ y → y ≤ℤ x → below_test x y ≡ false
unfolding below_test
never_below (pos x) (pos y) h k = of_not_lt (pos x) (pos y) k
never_below (pos x) (negsuc y) h k = absurd (omega (arith, ints))
never_below (negsuc x) (pos y) h k = refl
never_below (negsuc x) (negsuc y) h k = absurd (omega (arith, ints))

-- ---- sums

-- a number between two words does not wrap
unwrapped : (low high z : ℤ) → is_word low ≡ true → is_word high ≡ true → low ≤ℤ z → z ≤ℤ high → LiesIn (record { low = low; high = high }) (int_wrap w32 z)
unwrapped low high z e f l h =
    let of_low = and_true (int_le least low) (int_le low greatest) e in
    let of_high = and_true (int_le least high) (int_le high greatest) f in
    let bottom = le_of least low of_low.0 in
    let top = le_of high greatest of_high.1 in
    rw (int_wrap_fits w32 z (between_ends z (omega (arith, ints)) (omega (arith, ints)))) (lies_between low high z l h)

span_lies : (low high z : ℤ) (b : Bool) → (is_word low && is_word high) ≡ b → low ≤ℤ z → z ≤ℤ high
    → LiesIn (if b then (let it : Interval = record { low = low; high = high } in it) else all_words) (int_wrap w32 z)
span_lies low high z true e l h = let both = and_true (is_word low) (is_word high) e in unwrapped low high z both.0 both.1 l h
span_lies low high z false e l h = in_all (int_wrap w32 z)

sum_lies : (a b : Interval) (x y : ℤ) (c : Bool) → (is_bounded a && is_bounded b) ≡ c → LiesIn a x → LiesIn b y
    → LiesIn (if c then span (a.low +ℤ b.low) (a.high +ℤ b.high) else all_words) (word_add x y)
unfolding word_add
sum_lies a b x y true e in_a in_b =
    let both = and_true (is_bounded a) (is_bounded b) e in
    let left = bounded a x both.0 in_a in
    let right = bounded b y both.1 in_b in
    span_lies (a.low +ℤ b.low) (a.high +ℤ b.high) (x +ℤ y) (is_word (a.low +ℤ b.low) && is_word (a.high +ℤ b.high)) refl (omega (arith, ints)) (omega (arith, ints))
sum_lies a b x y false e in_a in_b = in_all (word_add x y)

difference_lies : (a b : Interval) (x y : ℤ) (c : Bool) → (is_bounded a && is_bounded b) ≡ c → LiesIn a x → LiesIn b y
    → LiesIn (if c then span (a.low -ℤ b.high) (a.high -ℤ b.low) else all_words) (word_sub x y)
unfolding word_sub
difference_lies a b x y true e in_a in_b =
    let both = and_true (is_bounded a) (is_bounded b) e in
    let left = bounded a x both.0 in_a in
    let right = bounded b y both.1 in_b in
    span_lies (a.low -ℤ b.high) (a.high -ℤ b.low) (x -ℤ y) (is_word (a.low -ℤ b.high) && is_word (a.high -ℤ b.low)) refl (omega (arith, ints)) (omega (arith, ints))
difference_lies a b x y false e in_a in_b = in_all (word_sub x y)

-- ---- numbers from 0 up

-- a number between 0 and a high end
in_up_to : (high z : ℤ) → pos 0 ≤ℤ z → (high <ℤ greatest → z ≤ℤ high) → LiesIn (up_to high) z
in_up_to high z l h = record { low = λ b. l; high = h }

small : (a : Interval) (x : ℤ) → is_small a ≡ true → LiesIn a x → (pos 0 ≤ℤ x) × Between a x × (pos 0 ≤ℤ a.low) × (a.high <ℤ greatest)
small a x e in_a =
    let both = and_true (is_from_zero a) (is_bounded a) e in
    let ends = and_true (int_lt least a.low) (int_lt a.high greatest) both.1 in
    (from_zero a x both.0 in_a, bounded a x both.1 in_a, le_of (pos 0) a.low both.0, lt_of a.high greatest ends.1)

-- products of numbers from 0 up rise with both
product_rises : (a b x y : ℤ) → pos 0 ≤ℤ a → pos 0 ≤ℤ b → a ≤ℤ x → b ≤ℤ y → (a *ℤ b) ≤ℤ (x *ℤ y)
product_rises (pos a) (pos b) (pos x) (pos y) h k l m =
    let first : a ≤ x = omega (arith, ints) in
    let second : b ≤ y = omega (arith, ints) in
    let rises = mul-le a b x y first second in
    omega (arith, ints, rises)
product_rises (pos a) (pos b) (pos x) (negsuc y) h k l m = absurd (omega (arith, ints))
product_rises (pos a) (pos b) (negsuc x) y h k l m = absurd (omega (arith, ints))
product_rises (pos a) (negsuc b) x y h k l m = absurd (omega (arith, ints))
product_rises (negsuc a) b x y h k l m = absurd (omega (arith, ints))

product_lies : (a b : Interval) (x y : ℤ) (c : Bool) → (is_small a && is_small b) ≡ c → LiesIn a x → LiesIn b y
    → LiesIn (if c then span (a.low *ℤ b.low) (a.high *ℤ b.high) else all_words) (word_mul x y)
unfolding word_mul
product_lies a b x y true e in_a in_b =
    let both = and_true (is_small a) (is_small b) e in
    let left = small a x both.0 in_a in
    let right = small b y both.1 in_b in
    span_lies (a.low *ℤ b.low) (a.high *ℤ b.high) (x *ℤ y) (is_word (a.low *ℤ b.low) && is_word (a.high *ℤ b.high)) refl
    (product_rises a.low b.low x y left.2 right.2 left.1.low right.1.low) (product_rises x y a.high b.high left.0 right.0 left.1.high right.1.high)
product_lies a b x y false e in_a in_b = in_all (word_mul x y)

-- a quotient of numbers from 0 up is at most what is divided
quotient_between : (x y : ℤ) → pos 0 ≤ℤ x → x ≤ℤ greatest → pos 0 ≤ℤ y → (pos 0 ≤ℤ word_div x y) × (word_div x y ≤ℤ x)
unfolding word_div
quotient_between (pos x) (pos zero) h top k = (omega (arith, ints), omega (arith, ints))
quotient_between (pos x) (pos (suc y)) h top k =
    let most = div-le_self x (suc y) in
    let fits : FitsSigned w32 (pos (x / suc y)) = between_ends (pos (x / suc y)) (omega (arith, ints)) (omega (arith, ints)) in
    rw (int_wrap_fits w32 (pos (x / suc y)) fits) (omega (arith, ints), omega (arith, ints, most))
quotient_between (pos x) (negsuc y) h top k = absurd (omega (arith, ints))
quotient_between (negsuc x) y h top k = absurd (omega (arith, ints))

quotient_lies : (a b : Interval) (x y : ℤ) (c : Bool) → (is_small a && is_from_zero b) ≡ c → LiesIn a x → LiesIn b y
    → LiesIn (if c then up_to a.high else all_words) (word_div x y)
quotient_lies a b x y true e in_a in_b =
    let both = and_true (is_small a) (is_from_zero b) e in
    let left = small a x both.0 in_a in
    let high = left.1.high in
    let under = left.3 in
    let between = quotient_between x y left.0 (omega (arith, ints)) (from_zero b y both.1 in_b) in
    let most = between.1 in
    in_up_to a.high (word_div x y) between.0 (λ h. omega (arith, ints))
quotient_lies a b x y false e in_a in_b = in_all (word_div x y)

-- a remainder by a positive number is less than it
remainder_between : (x y : ℤ) → pos 0 ≤ℤ x → pos 0 <ℤ y → (pos 0 ≤ℤ word_rem x y) × (word_rem x y <ℤ y)
unfolding word_rem
remainder_between (pos x) (pos zero) h k = absurd (omega (arith, ints))
remainder_between (pos x) (pos (suc y)) h k =
    let less_than : x % suc y < suc y = mod-lt x (omega arith) in
    (omega (arith, ints), omega (arith, ints, less_than))
remainder_between (pos x) (negsuc y) h k = absurd (omega (arith, ints))
remainder_between (negsuc x) y h k = absurd (omega (arith, ints))

remainder_lies : (a b : Interval) (x y : ℤ) (c : Bool) → (is_from_zero a && is_positive b) ≡ c → LiesIn a x → LiesIn b y
    → LiesIn (if c then up_to (b.high -ℤ pos 1) else all_words) (word_rem x y)
remainder_lies a b x y true e in_a in_b =
    let both = and_true (is_from_zero a) (is_positive b) e in
    let first = and_true (int_lt (pos 0) b.low) (int_lt (pos 0) b.high && int_lt b.high greatest) both.1 in
    let ends = and_true (int_lt (pos 0) b.high) (int_lt b.high greatest) first.1 in
    let above = lt_of (pos 0) b.low first.0 in
    let bounds : least <ℤ b.low = omega (arith, ints) in
    let low = in_b.low bounds in
    let high = in_b.high (lt_of b.high greatest ends.1) in
    let between = remainder_between x y (from_zero a x both.0 in_a) (omega (arith, ints)) in
    let most = between.1 in
    in_up_to (b.high -ℤ pos 1) (word_rem x y) between.0 (λ h. omega (arith, ints))
remainder_lies a b x y false e in_a in_b = in_all (word_rem x y)

shift_between : (x : ℤ) (k : ℕ) → pos 0 ≤ℤ x → (pos 0 ≤ℤ int_shr x k) × (int_shr x k ≤ℤ x)
shift_between (pos x) k h = let most = div-le_self x (2 ^ k) in (omega (arith, ints), omega (arith, ints, most))
shift_between (negsuc x) k h = absurd (omega (arith, ints))

shifted_lies : (a : Interval) (x y : ℤ) (c : Bool) → is_from_zero a ≡ c → LiesIn a x → LiesIn (if c then up_to a.high else all_words) (word_shr x y)
unfolding word_shr
shifted_lies a x y true e in_a =
    let between = shift_between x (cast_unsigned w32 y % 32) (from_zero a x e in_a) in
    let most = between.1 in
    in_up_to a.high (int_shr x (cast_unsigned w32 y % 32)) between.0 (λ h. let top = in_a.high h in omega (arith, ints))
shifted_lies a x y false e in_a = in_all (int_shr x (cast_unsigned w32 y % 32))

-- the bits that a word from 0 up has with another number are such a word, and no greater
bits_between : (m n : ℕ) → pos m ≤ℤ greatest → bit_and m n ≤ m → (pos 0 ≤ℤ to_z w32 (bit_and m n)) × (to_z w32 (bit_and m n) ≤ℤ pos m)
bits_between m n top most =
    let low : bit_and m n < 2 ^ 31 = omega (arith, ints) in
    rw (to_z_pos w32 (bit_and m n) low) (omega (arith, ints), omega (arith, ints, most))

and_left : (x y : ℤ) → pos 0 ≤ℤ x → x ≤ℤ greatest → (pos 0 ≤ℤ word_and x y) × (word_and x y ≤ℤ x)
unfolding word_and
and_left (pos x) y h top = bits_between x (cast_unsigned w32 y) top (and_le_l x (cast_unsigned w32 y))
and_left (negsuc x) y h top = absurd (omega (arith, ints))

and_turned : (x y : ℤ) → word_and x y ≡ word_and y x
unfolding word_and
and_turned x y = ap (to_z w32) (and_comm (cast_unsigned w32 x) (cast_unsigned w32 y))

masked_by : (a : Interval) (x y : ℤ) → is_small a ≡ true → LiesIn a x → LiesIn (up_to a.high) (word_and x y)
masked_by a x y e in_a =
    let left = small a x e in_a in
    let high = left.1.high in
    let under = left.3 in
    let between = and_left x y left.0 (omega (arith, ints)) in
    let most = between.1 in
    in_up_to a.high (word_and x y) between.0 (λ h. omega (arith, ints))

masked_lies : (a b : Interval) (x y : ℤ) (c d : Bool) → is_small a ≡ c → is_small b ≡ d → LiesIn a x → LiesIn b y
    → LiesIn (if c then up_to a.high else (if d then up_to b.high else all_words)) (word_and x y)
masked_lies a b x y true d e f in_a in_b = masked_by a x y e in_a
masked_lies a b x y false true e f in_a in_b = rw (and_turned x y) (masked_by b y x f in_b)
masked_lies a b x y false false e f in_a in_b = in_all (word_and x y)

-- ---- all operators

pub over_lies : (op : OpCode) (a b : Interval) (x y : ℤ) → LiesIn a x → LiesIn b y → LiesIn (over op a b) (word_apply op x y)
unfolding word_less word_less_eq word_equal word_unequal
over_lies Add a b x y in_a in_b = sum_lies a b x y (is_bounded a && is_bounded b) refl in_a in_b
over_lies Sub a b x y in_a in_b = difference_lies a b x y (is_bounded a && is_bounded b) refl in_a in_b
over_lies Mul a b x y in_a in_b = product_lies a b x y (is_small a && is_small b) refl in_a in_b
over_lies Div a b x y in_a in_b = quotient_lies a b x y (is_small a && is_from_zero b) refl in_a in_b
over_lies Rem a b x y in_a in_b = remainder_lies a b x y (is_from_zero a && is_positive b) refl in_a in_b
over_lies Shl a b x y in_a in_b = in_all (word_apply Shl x y)
over_lies Shr a b x y in_a in_b = shifted_lies a x y (is_from_zero a) refl in_a
over_lies And a b x y in_a in_b = masked_lies a b x y (is_small a) (is_small b) refl refl in_a in_b
over_lies Or a b x y in_a in_b = in_all (word_apply Or x y)
over_lies Xor a b x y in_a in_b = in_all (word_apply Xor x y)
over_lies Less a b x y in_a in_b = truth_lies (is_less a b) (is_at_most b a) (int_lt x y)
    (λ e. of_lt x y (less a b x y e in_a in_b)) (λ e. of_not_lt x y (at_most b a y x e in_b in_a))
over_lies LessEq a b x y in_a in_b = truth_lies (is_at_most a b) (is_less b a) (int_le x y)
    (λ e. of_le x y (at_most a b x y e in_a in_b)) (λ e. of_not_le x y (less b a y x e in_b in_a))
over_lies Equal a b x y in_a in_b = truth_lies (is_at_most a b && is_at_most b a) (is_less a b || is_less b a) (int_eq x y)
    (same a b x y in_a in_b) (apart a b x y in_a in_b)
over_lies Unequal a b x y in_a in_b = truth_lies (is_less a b || is_less b a) (is_at_most a b && is_at_most b a) (not (int_eq x y))
    (λ e. ap not (apart a b x y in_a in_b e)) (λ e. ap not (same a b x y in_a in_b e))
over_lies Below a b x y in_a in_b = rw (below_is x y) (truth_lies (is_from_zero a && is_less a b) (is_from_zero b && is_at_most b a) (below_test x y)
    (λ e. let both = and_true (is_from_zero a) (is_less a b) e in surely_below x y (from_zero a x both.0 in_a) (less a b x y both.1 in_a in_b))
    (λ e. let both = and_true (is_from_zero b) (is_at_most b a) e in never_below x y (from_zero b y both.0 in_b) (at_most b a y x both.1 in_b in_a)))
