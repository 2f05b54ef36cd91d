-- Sets of registers as bits of two numbers.
use Rattle.std.proofs.Common.{◌≡◌, inl, inr, ℕ, zero, suc, ◌-◌, ◌*◌, ◌%◌, ◌^◌, ◌<◌, ◌≤◌, max, Bool, true, false, not, ◌&&◌, ◌||◌, cond, refl, sym, ◌∙◌, ap, arith, eq-eqb, ne_eqb}
use Rattle.std.proofs.lemmas.Bool.{cases_eq}
use Rattle.std.proofs.lemmas.Bool.Decides.{nat_tests}
use Rattle.std.proofs.lemmas.Nat.Bits.{bit_at_set_same, bit_at_set_other, bit_at_clear_same, bit_at_clear_other, bit_at_or, bit_at-lt, bit_at-zero}
use Rattle.std.specs.Prelude.{nat_eq, nat_lt, bit_and, bit_or}
use Rattle.std.specs.Int.{w128, bit_at, bit_not}
use Rattle.pc_settled.specs.declared.register_set.RegisterSet.{RegisterSet}
use Rattle.pc_settled.specs.models.Sets.{member}

-- ---- one number

-- one bit set
with_bit : (n v x : ℕ) → v < 128 → nat_eq (bit_at (bit_or n (1 * 2 ^ v % 2 ^ 128)) x) 1 ≡ (nat_eq v x || nat_eq (bit_at n x) 1)
with_bit n v x h = elim (cases_eq x v) [
  | inl same ↦
      let is : nat_eq v x ≡ true = eq-eqb v x (sym same) in
      ap (λ (i : ℕ). nat_eq (bit_at (bit_or n (1 * 2 ^ v % 2 ^ 128)) i) 1) same
      ∙ ap (λ (b : ℕ). nat_eq b 1) (bit_at_set_same w128 n v h)
      ∙ ap (λ (b : Bool). b || nat_eq (bit_at n x) 1) (sym is)
  | inr other ↦
      let is : nat_eq v x ≡ false = ne_eqb v x (λ e. other (sym e)) in
      ap (λ (b : ℕ). nat_eq b 1) (bit_at_set_other w128 n v h x other)
      ∙ ap (λ (b : Bool). b || nat_eq (bit_at n x) 1) (sym is)
]

-- one bit cleared
without_bit : (n v x : ℕ) → v < 128 → x < 128
    → nat_eq (bit_at (bit_and n (bit_not w128 (1 * 2 ^ v % 2 ^ 128))) x) 1 ≡ (not (nat_eq v x) && nat_eq (bit_at n x) 1)
without_bit n v x h k = elim (cases_eq x v) [
  | inl same ↦
      let is : nat_eq v x ≡ true = eq-eqb v x (sym same) in
      ap (λ (i : ℕ). nat_eq (bit_at (bit_and n (bit_not w128 (1 * 2 ^ v % 2 ^ 128))) i) 1) same
      ∙ ap (λ (b : ℕ). nat_eq b 1) (bit_at_clear_same w128 n v h)
      ∙ ap (λ (b : Bool). not b && nat_eq (bit_at n x) 1) (sym is)
  | inr other ↦
      let is : nat_eq v x ≡ false = ne_eqb v x (λ e. other (sym e)) in
      ap (λ (b : ℕ). nat_eq b 1) (bit_at_clear_other w128 n v h x k other)
      ∙ ap (λ (b : Bool). not b && nat_eq (bit_at n x) 1) (sym is)
]

-- the greater of two bits is 1 where one of them is
greater_bit : (p q : ℕ) → p < 2 → q < 2 → nat_eq (max p q) 1 ≡ (nat_eq p 1 || nat_eq q 1)
greater_bit zero zero h k = refl
greater_bit zero (suc zero) h k = refl
greater_bit (suc zero) zero h k = refl
greater_bit (suc zero) (suc zero) h k = refl
greater_bit (suc (suc p)) q h k = absurd (omega arith)
greater_bit zero (suc (suc q)) h k = absurd (omega arith)
greater_bit (suc zero) (suc (suc q)) h k = absurd (omega arith)

-- the bits of both
both_bits : (n m x : ℕ) → nat_eq (bit_at (bit_or n m) x) 1 ≡ (nat_eq (bit_at n x) 1 || nat_eq (bit_at m x) 1)
both_bits n m x =
    ap (λ (b : ℕ). nat_eq b 1) (bit_at_or n m x) ∙ greater_bit (bit_at n x) (bit_at m x) (bit_at-lt n x) (bit_at-lt m x)

no_bit : (x : ℕ) → nat_eq (bit_at 0 x) 1 ≡ false
no_bit x = ap (λ (b : ℕ). nat_eq b 1) (bit_at-zero x)

-- ---- numbers that are told apart

apart_above : (v x : ℕ) → v < 128 → nat_lt x 128 ≡ false → nat_eq v x ≡ false
apart_above v x h is = grind (arith, nat_tests)

apart_below : (v x : ℕ) → 128 ≤ v → nat_lt x 128 ≡ true → nat_eq v x ≡ false
apart_below v x h is = grind (arith, nat_tests)

apart_beyond : (v x : ℕ) → 256 ≤ v → x < 256 → nat_eq v x ≡ false
apart_beyond v x h k = grind (arith, nat_tests)

less : (x : ℕ) → nat_lt x 128 ≡ true → x < 128
less x is = grind (arith, nat_tests)

more : (x : ℕ) → nat_lt x 128 ≡ false → 128 ≤ x
more x is = grind (arith, nat_tests)

low_of : (x : ℕ) → x < 128 → nat_lt x 128 ≡ true
low_of x h = grind (arith, nat_tests)

high_of : (x : ℕ) → 128 ≤ x → nat_lt x 128 ≡ false
high_of x h = grind (arith, nat_tests)

-- registers above 127 are the same where their bits of the second number are
same_above : (v x : ℕ) → 128 ≤ v → 128 ≤ x → nat_eq (v - 128) (x - 128) ≡ nat_eq v x
same_above v x h k = elim (cases_eq v x) [
  | inl same ↦ eq-eqb (v - 128) (x - 128) (ap (λ n. n - 128) same) ∙ sym (eq-eqb v x same)
  | inr other ↦ ne_eqb (v - 128) (x - 128) (λ e. other (omega (arith, e, h, k))) ∙ sym (ne_eqb v x other)
]

-- ---- sets

-- nothing is in the set of no register
pub none_is : (x : ℕ) → member (record { low = 0; high = 0 }) x ≡ false
unfolding member
none_is x = at (nat_lt x 128)
  where
    at : (below : Bool) → cond below (nat_eq (bit_at 0 x) 1) (nat_eq (bit_at 0 (x - 128)) 1) ≡ false
    at true = no_bit x
    at false = no_bit (x - 128)

-- a register is in a set where the test of its bit says so
pub low_is : (set : RegisterSet) (x : ℕ) → x < 128 → nat_eq (bit_at set.low x) 1 ≡ member set x
unfolding member
low_is set x h = sym (ap (λ b. cond b (nat_eq (bit_at set.low x) 1) (nat_eq (bit_at set.high (x - 128)) 1)) (low_of x h))

pub high_is : (set : RegisterSet) (x : ℕ) → 128 ≤ x → nat_eq (bit_at set.high (x - 128)) 1 ≡ member set x
unfolding member
high_is set x h = sym (ap (λ b. cond b (nat_eq (bit_at set.low x) 1) (nat_eq (bit_at set.high (x - 128)) 1)) (high_of x h))

-- the registers of both sets
pub both_is : (one other : RegisterSet) (x : ℕ)
    → member (record { low = bit_or one.low other.low; high = bit_or one.high other.high }) x ≡ (member one x || member other x)
unfolding member
both_is one other x = at (nat_lt x 128)
  where
    at : (below : Bool) → cond below (nat_eq (bit_at (bit_or one.low other.low) x) 1) (nat_eq (bit_at (bit_or one.high other.high) (x - 128)) 1)
        ≡ (cond below (nat_eq (bit_at one.low x) 1) (nat_eq (bit_at one.high (x - 128)) 1) || cond below (nat_eq (bit_at other.low x) 1) (nat_eq (bit_at other.high (x - 128)) 1))
    at true = both_bits one.low other.low x
    at false = both_bits one.high other.high (x - 128)

-- a register more
pub with_low_is : (set : RegisterSet) (v x : ℕ) → v < 128
    → member (record { low = bit_or set.low (1 * 2 ^ v % 2 ^ 128); high = set.high }) x ≡ (nat_eq v x || member set x)
unfolding member
with_low_is set v x h = at (nat_lt x 128) refl
  where
    at : (below : Bool) → nat_lt x 128 ≡ below
        → cond below (nat_eq (bit_at (bit_or set.low (1 * 2 ^ v % 2 ^ 128)) x) 1) (nat_eq (bit_at set.high (x - 128)) 1)
        ≡ (nat_eq v x || cond below (nat_eq (bit_at set.low x) 1) (nat_eq (bit_at set.high (x - 128)) 1))
    at true is = with_bit set.low v x h
    at false is = ap (λ b. b || nat_eq (bit_at set.high (x - 128)) 1) (sym (apart_above v x h is))

pub with_high_is : (set : RegisterSet) (v x : ℕ) → 128 ≤ v → v < 256
    → member (record { low = set.low; high = bit_or set.high (1 * 2 ^ (v - 128) % 2 ^ 128) }) x ≡ (nat_eq v x || member set x)
unfolding member
with_high_is set v x h k = at (nat_lt x 128) refl
  where
    at : (below : Bool) → nat_lt x 128 ≡ below
        → cond below (nat_eq (bit_at set.low x) 1) (nat_eq (bit_at (bit_or set.high (1 * 2 ^ (v - 128) % 2 ^ 128)) (x - 128)) 1)
        ≡ (nat_eq v x || cond below (nat_eq (bit_at set.low x) 1) (nat_eq (bit_at set.high (x - 128)) 1))
    at true is = ap (λ b. b || nat_eq (bit_at set.low x) 1) (sym (apart_below v x h is))
    at false is =
        with_bit set.high (v - 128) (x - 128) (omega (arith, h, k)) ∙ ap (λ b. b || nat_eq (bit_at set.high (x - 128)) 1) (same_above v x h (more x is))

-- a register less
pub without_low_is : (set : RegisterSet) (v x : ℕ) → v < 128
    → member (record { low = bit_and set.low (bit_not w128 (1 * 2 ^ v % 2 ^ 128)); high = set.high }) x ≡ (not (nat_eq v x) && member set x)
unfolding member
without_low_is set v x h = at (nat_lt x 128) refl
  where
    at : (below : Bool) → nat_lt x 128 ≡ below
        → cond below (nat_eq (bit_at (bit_and set.low (bit_not w128 (1 * 2 ^ v % 2 ^ 128))) x) 1) (nat_eq (bit_at set.high (x - 128)) 1)
        ≡ (not (nat_eq v x) && cond below (nat_eq (bit_at set.low x) 1) (nat_eq (bit_at set.high (x - 128)) 1))
    at true is = without_bit set.low v x h (less x is)
    at false is = ap (λ b. not b && nat_eq (bit_at set.high (x - 128)) 1) (sym (apart_above v x h is))

pub without_high_is : (set : RegisterSet) (v x : ℕ) → 128 ≤ v → v < 256 → x < 256
    → member (record { low = set.low; high = bit_and set.high (bit_not w128 (1 * 2 ^ (v - 128) % 2 ^ 128)) }) x ≡ (not (nat_eq v x) && member set x)
unfolding member
without_high_is set v x h k l = at (nat_lt x 128) refl
  where
    at : (below : Bool) → nat_lt x 128 ≡ below
        → cond below (nat_eq (bit_at set.low x) 1) (nat_eq (bit_at (bit_and set.high (bit_not w128 (1 * 2 ^ (v - 128) % 2 ^ 128))) (x - 128)) 1)
        ≡ (not (nat_eq v x) && cond below (nat_eq (bit_at set.low x) 1) (nat_eq (bit_at set.high (x - 128)) 1))
    at true is = ap (λ b. not b && nat_eq (bit_at set.low x) 1) (sym (apart_below v x h is))
    at false is =
        without_bit set.high (v - 128) (x - 128) (omega (arith, h, k)) (omega (arith, l)) ∙ ap (λ b. not b && nat_eq (bit_at set.high (x - 128)) 1) (same_above v x h (more x is))

-- nothing more, or less, beyond the last register
pub with_none : (set : RegisterSet) (v x : ℕ) → 256 ≤ v → x < 256 → member set x ≡ (nat_eq v x || member set x)
with_none set v x h k = ap (λ b. b || member set x) (sym (apart_beyond v x h k))

pub without_none : (set : RegisterSet) (v x : ℕ) → 256 ≤ v → x < 256 → member set x ≡ (not (nat_eq v x) && member set x)
without_none set v x h k = ap (λ b. not b && member set x) (sym (apart_beyond v x h k))
