-- Ends of intervals that are computed with a test of fit.
use Rattle.std.proofs.Common.{◌≡◌, Bool, true, false, refl, Option, Some, None, sym, ◌∙◌}
use Rattle.std.specs.Prelude.{ℤ, ◌+ℤ◌, ◌-ℤ◌, ◌*ℤ◌, ◌&&◌, if◌then◌else◌, SomeIff, FitsSigned, int_le}
use Rattle.std.specs.Int.{w32}
use Rattle.pc_word.proofs.Truth.{and_true, and_made}
use Rattle.pc_ranges.specs.declared.interval.Interval.{Interval}
use Rattle.pc_ranges.specs.Interval.{least, greatest, all_words, is_bounded}
use Rattle.pc_ranges.specs.Over.{is_word, span, is_small, sum, difference, product}
use Rattle.pc_ranges.specs.models.Narrowing.{span_if}
use Rattle.pc_ranges.proofs.Intervals.{le_of, between_ends, word_fits}

-- a word is a number that fits
pub word_is : (z : ℤ) → is_word z ≡ true → FitsSigned w32 z
word_is z e = let both = and_true (int_le least z) (int_le z greatest) e in between_ends z (le_of least z both.0) (le_of z greatest both.1)

chosen : (b : Bool) (low high : ℤ) → b ≡ true → (if b then (let it : Interval = record { low = low; high = high } in it) else all_words) ≡ record { low = low; high = high }
chosen true low high e = refl
chosen false low high e = absurd (cc)

not_chosen : (b : Bool) (low high : ℤ) → (b ≡ true → ⊥) → (if b then (let it : Interval = record { low = low; high = high } in it) else all_words) ≡ all_words
not_chosen true low high e = absurd (e refl)
not_chosen false low high e = refl

pub span_made : (low high : Option ℤ) (z w : ℤ) → SomeIff low (FitsSigned w32 z) z → SomeIff high (FitsSigned w32 w) w → span_if low high ≡ span z w
span_made (Some low) (Some high) z w h k =
    let both : (is_word z && is_word w) ≡ true = word_both z w (word_fits z h.0) (word_fits w k.0) in
    rw (h.1, k.1) (sym (chosen (is_word z && is_word w) z w both))
  where
    word_both : (z w : ℤ) → is_word z ≡ true → is_word w ≡ true → (is_word z && is_word w) ≡ true
    word_both z w e f = rw (e, f)
span_made (Some low) None z w h k = sym (not_chosen (is_word z && is_word w) z w (λ e. k (word_is w (and_true (is_word z) (is_word w) e).1)))
span_made None high z w h k = sym (not_chosen (is_word z && is_word w) z w (λ e. h (word_is z (and_true (is_word z) (is_word w) e).0)))

picked : (b : Bool) (x y : Interval) → b ≡ true → x ≡ (if b then x else y)
picked true x y e = refl
picked false x y e = absurd (cc)

pub sum_made : (a b : Interval) (low high : Option ℤ) → is_bounded a ≡ true → is_bounded b ≡ true → SomeIff low (FitsSigned w32 (a.low +ℤ b.low)) (a.low +ℤ b.low)
    → SomeIff high (FitsSigned w32 (a.high +ℤ b.high)) (a.high +ℤ b.high) → span_if low high ≡ sum a b
sum_made a b low high e f h k =
    span_made low high (a.low +ℤ b.low) (a.high +ℤ b.high) h k
    ∙ picked (is_bounded a && is_bounded b) (span (a.low +ℤ b.low) (a.high +ℤ b.high)) all_words (and_made (is_bounded a) (is_bounded b) e f)

pub product_made : (a b : Interval) (low high : Option ℤ) → is_small a ≡ true → is_small b ≡ true → SomeIff low (FitsSigned w32 (a.low *ℤ b.low)) (a.low *ℤ b.low)
    → SomeIff high (FitsSigned w32 (a.high *ℤ b.high)) (a.high *ℤ b.high) → span_if low high ≡ product a b
product_made a b low high e f h k =
    span_made low high (a.low *ℤ b.low) (a.high *ℤ b.high) h k
    ∙ picked (is_small a && is_small b) (span (a.low *ℤ b.low) (a.high *ℤ b.high)) all_words (and_made (is_small a) (is_small b) e f)

pub difference_made : (a b : Interval) (low high : Option ℤ) → is_bounded a ≡ true → is_bounded b ≡ true → SomeIff low (FitsSigned w32 (a.low -ℤ b.high)) (a.low -ℤ b.high)
    → SomeIff high (FitsSigned w32 (a.high -ℤ b.low)) (a.high -ℤ b.low) → span_if low high ≡ difference a b
difference_made a b low high e f h k =
    span_made low high (a.low -ℤ b.high) (a.high -ℤ b.low) h k
    ∙ picked (is_bounded a && is_bounded b) (span (a.low -ℤ b.high) (a.high -ℤ b.low)) all_words (and_made (is_bounded a) (is_bounded b) e f)
