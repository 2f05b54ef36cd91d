-- Numbers that lie in intervals.
use Rattle.std.proofs.Common.{◌≡◌, zero, suc, true, false, ◌&&◌, refl, arith, ap, inl, inr}
use Rattle.std.specs.Prelude.{ℤ, pos, negsuc, ◌<ℤ◌, ◌≤ℤ◌, int_lt, int_le, FitsSigned}
use Rattle.std.specs.Int.{w32}
use Rattle.std.specs.Ordering.{int_eq}
use Rattle.std.proofs.lemmas.Int.{ints}
use Rattle.std.proofs.lemmas.Bool.Decides.{Decides-int_eq}
use Rattle.pc_word.specs.Word.{holds}
use Rattle.pc_word.proofs.Truth.{and_true, or_true}
use Rattle.pc_ranges.specs.declared.interval.Interval.{Interval}
use Rattle.pc_ranges.specs.Interval.{least, greatest, LiesIn, all_words, exactly, is_bounded, is_single, is_zero, lacks_zero}

-- ---- what comparisons tell

pub lt_of : (a b : ℤ) → int_lt a b ≡ true → a <ℤ b
lt_of a b e = grind (arith, ints)

pub le_of : (a b : ℤ) → int_le a b ≡ true → a ≤ℤ b
le_of a b e = grind (arith, ints)

pub not_lt : (a b : ℤ) → int_lt a b ≡ false → b ≤ℤ a
not_lt a b e = grind (arith, ints)

pub not_le : (a b : ℤ) → int_le a b ≡ false → b <ℤ a
not_le a b e = grind (arith, ints)

pub of_lt : (a b : ℤ) → a <ℤ b → int_lt a b ≡ true
of_lt a b h = grind (arith, ints)

pub of_le : (a b : ℤ) → a ≤ℤ b → int_le a b ≡ true
of_le a b h = grind (arith, ints)

pub of_not_lt : (a b : ℤ) → b ≤ℤ a → int_lt a b ≡ false
of_not_lt a b h = grind (arith, ints)

pub of_not_le : (a b : ℤ) → b <ℤ a → int_le a b ≡ false
of_not_le a b h = grind (arith, ints)

pub eq_of : (a b : ℤ) → int_eq a b ≡ true → a ≡ b
eq_of a b e = (Decides-int_eq a b).0 e

pub of_eq : (a b : ℤ) → a ≡ b → int_eq a b ≡ true
of_eq a b e = (Decides-int_eq a b).1 e

-- numbers that are at most as great as each other are the same
pub same_by_order : (a b : ℤ) → a ≤ℤ b → b ≤ℤ a → a ≡ b
same_by_order a b h k = omega (arith, ints)

-- a number between the ends of words is a word
pub between_ends : (z : ℤ) → least ≤ℤ z → z ≤ℤ greatest → FitsSigned w32 z
between_ends (pos n) l h = record { sfits = omega (arith, ints) }
between_ends (negsuc n) l h = record { sfits = omega (arith, ints) }

pub word_fits : (z : ℤ) → FitsSigned w32 z → (int_le least z && int_le z greatest) ≡ true
word_fits (pos n) fits = let f = fits.sfits in let l : least ≤ℤ pos n = omega (arith, ints) in
    let h : pos n ≤ℤ greatest = omega (arith, ints) in rw (of_le least (pos n) l, of_le (pos n) greatest h) refl
word_fits (negsuc n) fits = let f = fits.sfits in let l : least ≤ℤ negsuc n = omega (arith, ints) in
    let h : negsuc n ≤ℤ greatest = omega (arith, ints) in rw (of_le least (negsuc n) l, of_le (negsuc n) greatest h) refl

-- every number lies in all words
pub in_all : (z : ℤ) → LiesIn all_words z
in_all z = record { low = λ h. absurd (omega (arith, ints)); high = λ h. absurd (omega (arith, ints)) }

-- a literal lies in its interval
pub in_exactly : (z : ℤ) → LiesIn (exactly z) z
in_exactly z = record { low = λ h. omega (arith, ints); high = λ h. omega (arith, ints) }

-- between two numbers
pub lies_between : (low high z : ℤ) → low ≤ℤ z → z ≤ℤ high → LiesIn (record { low = low; high = high }) z
lies_between low high z l h = record { low = λ b. l; high = λ b. h }

-- the ends of an interval that bounds
pub record Between (interval : Interval) (z : ℤ) : Type 0 where
  pub low : interval.low ≤ℤ z
  pub high : z ≤ℤ interval.high

pub bounded : (interval : Interval) (z : ℤ) → is_bounded interval ≡ true → LiesIn interval z → Between interval z
bounded interval z e lies =
    let both = and_true (int_lt least interval.low) (int_lt interval.high greatest) e in
    record { low = lies.low (lt_of least interval.low both.0); high = lies.high (lt_of interval.high greatest both.1) }

-- the only number that lies in an interval
pub single_is : (interval : Interval) (z : ℤ) → is_single interval ≡ true → LiesIn interval z → z ≡ interval.low
single_is interval z e lies =
    let both = and_true (is_bounded interval) (int_eq interval.low interval.high) e in
    let ends = bounded interval z both.0 lies in
    let same = eq_of interval.low interval.high both.1 in
    same_by_order z interval.low (subst_high z same ends.high) ends.low
  where
    subst_high : (z : ℤ) → interval.low ≡ interval.high → z ≤ℤ interval.high → z ≤ℤ interval.low
    subst_high z same h = rw same h

-- ---- tests

holds_above : (z : ℤ) → pos 0 <ℤ z → holds z ≡ true
holds_above (pos zero) h = absurd (omega (arith, ints))
holds_above (pos (suc n)) h = refl
holds_above (negsuc n) h = refl

holds_below : (z : ℤ) → z <ℤ pos 0 → holds z ≡ true
holds_below (pos n) h = absurd (omega (arith, ints))
holds_below (negsuc n) h = refl

-- a number in an interval that lacks 0 holds
pub lacking_holds : (interval : Interval) (z : ℤ) → lacks_zero interval ≡ true → LiesIn interval z → holds z ≡ true
lacking_holds interval z e lies = elim (or_true (int_lt (pos 0) interval.low) (int_lt interval.high (pos 0)) e) [
  | inl low ↦
      let above = lt_of (pos 0) interval.low low in
      let least_below : least <ℤ interval.low = omega (arith, ints) in
      let bound = lies.low least_below in
      holds_above z (omega (arith, ints))
  | inr high ↦
      let below = lt_of interval.high (pos 0) high in
      let below_greatest : interval.high <ℤ greatest = omega (arith, ints) in
      let bound = lies.high below_greatest in
      holds_below z (omega (arith, ints))
]

-- the number in the interval of 0 does not
pub zero_holds_not : (interval : Interval) (z : ℤ) → is_zero interval ≡ true → LiesIn interval z → holds z ≡ false
zero_holds_not interval z e lies =
    let both = and_true (int_eq interval.low (pos 0)) (int_eq interval.high (pos 0)) e in
    let low = eq_of interval.low (pos 0) both.0 in
    let high = eq_of interval.high (pos 0) both.1 in
    let above : interval.low ≤ℤ z = lies.low (rw low (omega (arith, ints))) in
    let below : z ≤ℤ interval.high = lies.high (rw high (omega (arith, ints))) in
    ap holds (same_by_order z (pos 0) (rw high at below) (rw low at above))
