-- Sets of variables as bits of a number.
use Rattle.std.proofs.Common.{◌≡◌, inl, inr, ℕ, zero, suc, ◌*◌, ◌%◌, ◌^◌, ◌<◌, ◌≤◌, max, Bool, true, false, not, ◌&&◌, ◌||◌, refl, sym, ◌∙◌, ap, arith, eq-eqb, ne_eqb}
use Rattle.std.proofs.lemmas.Bool.{cases_eq}
use Rattle.std.proofs.lemmas.Nat.{le_or_l, or_lt}
use Rattle.std.proofs.lemmas.Nat.Bits.{bit_at_set_same, bit_at_set_other, bit_at_clear_same, bit_at_clear_other, bit_at_or, bit_at-lt, bit_at-zero}
use Rattle.std.specs.Prelude.{nat_eq, bit_and, bit_or}
use Rattle.std.specs.Int.{w128, bit_at, bit_not}

-- one bit set
pub with_is : (n v x : ℕ) → v < 128 → nat_eq (bit_at (bit_or n (1 * 2 ^ v % 2 ^ 128)) x) 1 ≡ (nat_eq v x || nat_eq (bit_at n x) 1)
with_is n v x h = elim (cases_eq x v) [
  | inl same ↦
      let is : nat_eq v x ≡ true = eq-eqb v x (sym same) in
      ap (λ (i : ℕ). nat_eq (bit_at (bit_or n (1 * 2 ^ v % 2 ^ 128)) i) 1) same
      ∙ ap (λ (b : ℕ). nat_eq b 1) (bit_at_set_same w128 n v h)
      ∙ ap (λ (b : Bool). b || nat_eq (bit_at n x) 1) (sym is)
  | inr other ↦
      let is : nat_eq v x ≡ false = ne_eqb v x (λ e. other (sym e)) in
      ap (λ (b : ℕ). nat_eq b 1) (bit_at_set_other w128 n v h x other)
      ∙ ap (λ (b : Bool). b || nat_eq (bit_at n x) 1) (sym is)
]

-- one bit cleared
pub without_is : (n v x : ℕ) → v < 128 → x < 128
    → nat_eq (bit_at (bit_and n (bit_not w128 (1 * 2 ^ v % 2 ^ 128))) x) 1 ≡ (not (nat_eq v x) && nat_eq (bit_at n x) 1)
without_is n v x h k = elim (cases_eq x v) [
  | inl same ↦
      let is : nat_eq v x ≡ true = eq-eqb v x (sym same) in
      ap (λ (i : ℕ). nat_eq (bit_at (bit_and n (bit_not w128 (1 * 2 ^ v % 2 ^ 128))) i) 1) same
      ∙ ap (λ (b : ℕ). nat_eq b 1) (bit_at_clear_same w128 n v h)
      ∙ ap (λ (b : Bool). not b && nat_eq (bit_at n x) 1) (sym is)
  | inr other ↦
      let is : nat_eq v x ≡ false = ne_eqb v x (λ e. other (sym e)) in
      ap (λ (b : ℕ). nat_eq b 1) (bit_at_clear_other w128 n v h x k other)
      ∙ ap (λ (b : Bool). not b && nat_eq (bit_at n x) 1) (sym is)
]

-- the greater of two bits is 1 where one of them is
greater_bit : (p q : ℕ) → p < 2 → q < 2 → nat_eq (max p q) 1 ≡ (nat_eq p 1 || nat_eq q 1)
greater_bit zero zero h k = refl
greater_bit zero (suc zero) h k = refl
greater_bit (suc zero) zero h k = refl
greater_bit (suc zero) (suc zero) h k = refl
greater_bit (suc (suc p)) q h k = absurd (omega arith)
greater_bit zero (suc (suc q)) h k = absurd (omega arith)
greater_bit (suc zero) (suc (suc q)) h k = absurd (omega arith)

-- the bits of both
pub union_is : (n m x : ℕ) → nat_eq (bit_at (bit_or n m) x) 1 ≡ (nat_eq (bit_at n x) 1 || nat_eq (bit_at m x) 1)
union_is n m x =
    ap (λ (b : ℕ). nat_eq b 1) (bit_at_or n m x) ∙ greater_bit (bit_at n x) (bit_at m x) (bit_at-lt n x) (bit_at-lt m x)

-- with more bits a number that is not the same is greater
pub union_grows : (n m : ℕ) → not (nat_eq (bit_or n m) n) ≡ true → n < bit_or n m
union_grows n m h = elim (cases_eq (bit_or n m) n) [
  | inl same ↦ let is : nat_eq (bit_or n m) n ≡ true = eq-eqb (bit_or n m) n same in absurd (cc)
  | inr other ↦ omega (arith, le_or_l n m)
]

-- both fit into 128 bits
pub union_fits : (n m : ℕ) → n < 2 ^ 128 → m < 2 ^ 128 → bit_or n m ≤ 2 ^ 128
union_fits n m h k = let fits : bit_or n m < 2 ^ 128 = or_lt 128 n m h k in omega arith

-- nothing is in the set whose number is 0
pub none_in_empty : (x : ℕ) → nat_eq (bit_at 0 x) 1 ≡ false
none_in_empty x = ap (λ (b : ℕ). nat_eq b 1) (bit_at-zero x)
