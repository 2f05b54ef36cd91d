-- Sets of registers as bits of two numbers.
use Rattle.std.proofs.Common.{◌≡◌, inl, inr, ℕ, zero, suc, ◌+◌, ◌-◌, ◌*◌, ◌%◌, ◌^◌, ◌<◌, ◌≤◌, max, min, Bool, true, false, ◌||◌, refl, sym, ◌∙◌, ap}
use Rattle.std.proofs.Common.{arith, eq-eqb, ne_eqb, List, subst}
use Rattle.std.proofs.lemmas.Bool.{cases_eq}
use Rattle.std.proofs.lemmas.Bool.Decides.{nat_tests}
use Rattle.std.proofs.lemmas.Nat.Bits.{bit_at_set_same, bit_at_set_other, bit_at_or, bit_at-lt, bit_at-zero, bit_at-trailing_ones, bit_at_ones}
use Rattle.std.specs.Prelude.{if◌then◌else◌, nat_eq, nat_lt, bit_or}
use Rattle.std.specs.Int.{w128, bit_at, trailing_ones}
use Rattle.pc_word.proofs.Truth.{decide_le}
use Rattle.pc_machine.specs.Registers.{few_registers, most_registers}
use Rattle.pc_assign.specs.Pressure.{most_scratch}
use Rattle.pc_assign.specs.declared.register_set.RegisterSet.{RegisterSet}
use Rattle.pc_assign.specs.models.Choosing.{bit_in, member, AreMost, IsLeastAbsent}
use lib.Count.{count_trailing_zeros}

-- ---- the half that a register is in

yes : (a b : ℕ) → a < b → nat_lt a b ≡ true
yes a b h = grind (arith, nat_tests)

no : (a b : ℕ) → b ≤ a → nat_lt a b ≡ false
no a b h = grind (arith, nat_tests)

-- one of the few registers
pub member_low : (set : RegisterSet) (x : ℕ) → x < few_registers → member set x ≡ bit_in set.low x
member_low set x h = ap (λ (b : Bool). if b then bit_in set.low x else bit_in set.high (x - few_registers)) (yes x few_registers h)

-- another one
pub member_high : (set : RegisterSet) (x : ℕ) → few_registers ≤ x → member set x ≡ bit_in set.high (x - few_registers)
member_high set x h = ap (λ (b : Bool). if b then bit_in set.low x else bit_in set.high (x - few_registers)) (no x few_registers h)

-- ---- a register more

-- one bit set
with_bit : (n v x : ℕ) → v < 128 → bit_in (bit_or n (1 * 2 ^ v % 2 ^ 128)) x ≡ (nat_eq x v || bit_in n x)
with_bit n v x h = elim (cases_eq x v) [
  | inl same ↦
      let is : nat_eq x v ≡ true = eq-eqb x v same in
      ap (λ (i : ℕ). nat_eq (bit_at (bit_or n (1 * 2 ^ v % 2 ^ 128)) i) 1) same
      ∙ ap (λ (b : ℕ). nat_eq b 1) (bit_at_set_same w128 n v h)
      ∙ ap (λ (b : Bool). b || nat_eq (bit_at n x) 1) (sym is)
  | inr other ↦
      let is : nat_eq x v ≡ false = ne_eqb x v other in
      ap (λ (b : ℕ). nat_eq b 1) (bit_at_set_other w128 n v h x other)
      ∙ ap (λ (b : Bool). b || nat_eq (bit_at n x) 1) (sym is)
]

other_number : (x v : ℕ) → x < v → nat_eq x v ≡ false
other_number x v h = grind (arith, nat_tests)

lower_number : (x v : ℕ) → v < x → nat_eq x v ≡ false
lower_number x v h = grind (arith, nat_tests)

shifted : (x v : ℕ) → few_registers ≤ x → few_registers ≤ v → nat_eq (x - few_registers) (v - few_registers) ≡ nat_eq x v
shifted x v h k = elim (cases_eq x v) [
  | inl same ↦ eq-eqb (x - few_registers) (v - few_registers) (ap (λ (n : ℕ). n - few_registers) same) ∙ sym (eq-eqb x v same)
  | inr other ↦ ne_eqb (x - few_registers) (v - few_registers) (λ e. other (omega (arith, e))) ∙ sym (ne_eqb x v other)
]

pub with_low : (set later : RegisterSet) (v x : ℕ) → v < few_registers → later.low ≡ bit_or set.low (1 * 2 ^ v % 2 ^ 128) → later.high ≡ set.high
    → member later x ≡ (nat_eq x v || member set x)
with_low set later v x h low high = elim (decide_le few_registers x) [
  | inl above ↦
      member_high later x above ∙ ap (λ (n : ℕ). bit_in n (x - few_registers)) high ∙ sym (member_high set x above)
      ∙ ap (λ (b : Bool). b || member set x) (sym (lower_number x v (omega (arith, h, above))))
  | inr below ↦
      member_low later x below ∙ ap (λ (n : ℕ). bit_in n x) low ∙ with_bit set.low v x h ∙ ap (λ (b : Bool). nat_eq x v || b) (sym (member_low set x below))
]

pub with_high : (set later : RegisterSet) (v x : ℕ) → few_registers ≤ v → v < most_registers → later.low ≡ set.low
    → later.high ≡ bit_or set.high (1 * 2 ^ (v - few_registers) % 2 ^ 128) → member later x ≡ (nat_eq x v || member set x)
with_high set later v x h top low high = elim (decide_le few_registers x) [
  | inl above ↦
      member_high later x above ∙ ap (λ (n : ℕ). bit_in n (x - few_registers)) high
      ∙ with_bit set.high (v - few_registers) (x - few_registers) (omega (arith, top, h))
      ∙ (λ i. shifted x v above h i || sym (member_high set x above) i)
  | inr below ↦
      member_low later x below ∙ ap (λ (n : ℕ). bit_in n x) low ∙ sym (member_low set x below)
      ∙ ap (λ (b : Bool). b || member set x) (sym (other_number x v (omega (arith, h, below))))
]

-- ---- both sets

-- the greater of two bits is 1 where one of them is
greater_bit : (p q : ℕ) → p < 2 → q < 2 → nat_eq (max p q) 1 ≡ (nat_eq p 1 || nat_eq q 1)
greater_bit zero zero h k = refl
greater_bit zero (suc zero) h k = refl
greater_bit (suc zero) zero h k = refl
greater_bit (suc zero) (suc zero) h k = refl
greater_bit (suc (suc p)) q h k = absurd (omega arith)
greater_bit zero (suc (suc q)) h k = absurd (omega arith)
greater_bit (suc zero) (suc (suc q)) h k = absurd (omega arith)

both_bits : (n m x : ℕ) → bit_in (bit_or n m) x ≡ (bit_in n x || bit_in m x)
both_bits n m x =
    ap (λ (b : ℕ). nat_eq b 1) (bit_at_or n m x) ∙ greater_bit (bit_at n x) (bit_at m x) (bit_at-lt n x) (bit_at-lt m x)

pub union_is : (one two both : RegisterSet) (x : ℕ) → both.low ≡ bit_or one.low two.low → both.high ≡ bit_or one.high two.high
    → member both x ≡ (member one x || member two x)
union_is one two both x low high = elim (decide_le few_registers x) [
  | inl above ↦
      member_high both x above ∙ ap (λ (n : ℕ). bit_in n (x - few_registers)) high ∙ both_bits one.high two.high (x - few_registers)
      ∙ (λ i. sym (member_high one x above) i || sym (member_high two x above) i)
  | inr below ↦
      member_low both x below ∙ ap (λ (n : ℕ). bit_in n x) low ∙ both_bits one.low two.low x
      ∙ (λ i. sym (member_low one x below) i || sym (member_low two x below) i)
]

-- nothing is in the set whose numbers are 0
pub none_in_empty : (set : RegisterSet) (x : ℕ) → set.low ≡ 0 → set.high ≡ 0 → member set x ≡ false
none_in_empty set x low high = elim (decide_le few_registers x) [
  | inl above ↦ member_high set x above ∙ ap (λ (n : ℕ). bit_in n (x - few_registers)) high ∙ ap (λ (b : ℕ). nat_eq b 1) (bit_at-zero (x - few_registers))
  | inr below ↦ member_low set x below ∙ ap (λ (n : ℕ). bit_in n x) low ∙ ap (λ (b : ℕ). nat_eq b 1) (bit_at-zero x)
]

-- ---- the least that is absent

-- all bits of the greatest number are 1
all_ones : trailing_ones w128 (2 ^ 128 - 1) ≡ 128
unfolding count_trailing_zeros
all_ones = refl

-- the bits below the lowest 0 are 1
record LowestZero (n ones : ℕ) : Type 0 where
  pub most : ones ≤ 128
  pub free : ones < 128 → bit_in n ones ≡ false
  pub least : (other : ℕ) → other < ones → bit_in n other ≡ true

lowest_zero : (n ones : ℕ) → n < 2 ^ 128 → ones ≡ trailing_ones w128 n → LowestZero n ones
lowest_zero n ones small is = elim (decide_le (2 ^ 128) (n + 1)) [
  | inl full ↦
      let whole : n ≡ 2 ^ 128 - 1 = omega arith in
      let many : ones ≡ 128 = is ∙ ap (trailing_ones w128) whole ∙ all_ones in
      record {
        most = omega (arith, many);
        free = λ less. absurd (omega (arith, many));
        least = λ other below.
            ap (λ (m : ℕ). nat_eq (bit_at m other) 1) whole ∙ ap (λ (b : ℕ). nat_eq b 1) (bit_at_ones 128 other (omega (arith, many, below)));
      }
  | inr some ↦
      let place = bit_at-trailing_ones w128 n (some) in
      record {
        most = omega (arith, is, place.0);
        free = λ less.
            ap (λ (x : ℕ). nat_eq (bit_at n x) 1) is ∙ ap (λ (b : ℕ). nat_eq b 1) place.1;
        least = λ other below. ap (λ (b : ℕ). nat_eq b 1) (place.2 other (omega (arith, is, below)));
      }
]

pub least_low : (set : RegisterSet) (ones scratch register : ℕ) → set.low < 2 ^ 128 → ones ≡ trailing_ones w128 set.low → ones < few_registers
    → register ≡ min ones scratch → IsLeastAbsent scratch (member set) register
least_low set ones scratch register small is some at =
    let zero = lowest_zero set.low ones small is in
    record {
      most = omega (arith, at);
      free = λ less.
          let same : register ≡ ones = omega (arith, at, less) in
          member_low set register (omega (arith, same, some)) ∙ ap (λ (x : ℕ). bit_in set.low x) same ∙ zero.free some;
      least = λ other below. member_low set other (omega (arith, at, some, below)) ∙ zero.least other (omega (arith, at, below));
    }

pub least_high : (set : RegisterSet) (low ones scratch register : ℕ) → set.low < 2 ^ 128 → set.high < 2 ^ 128 → low ≡ trailing_ones w128 set.low → few_registers ≤ low
    → ones ≡ trailing_ones w128 set.high → scratch < most_registers → register ≡ min (few_registers + ones) scratch → IsLeastAbsent scratch (member set) register
least_high set low ones scratch register small also is full high fits at =
    let first = lowest_zero set.low low small is in
    let zero = lowest_zero set.high ones also high in
    record {
      most = omega (arith, at);
      free = λ less.
          let same : register ≡ few_registers + ones = omega (arith, at, less) in
          let place : register - few_registers ≡ ones = omega (arith, same) in
          member_high set register (omega (arith, same)) ∙ ap (bit_in set.high) place ∙ zero.free (omega (arith, same, less, fits));
      least = λ other below. elim (decide_le few_registers other) [
        | inl above ↦ member_high set other above ∙ zero.least (other - few_registers) (omega (arith, at, below, above))
        | inr under ↦ member_low set other under ∙ first.least other (omega (arith, under, full))
      ];
    }

-- registers below scratch are registers
pub most_at_all : (scratch : ℕ) (registers : List ℕ) → scratch < most_registers → AreMost scratch registers → AreMost most_scratch registers
most_at_all scratch registers fits most at register here = let few = most at register here in omega (arith, few, fits)

-- the same is absent from an equal set
pub absent_seen : (scratch : ℕ) (f g : ℕ → Bool) (register : ℕ) → ((x : ℕ) → f x ≡ g x) → IsLeastAbsent scratch f register → IsLeastAbsent scratch g register
absent_seen scratch f g register same h = subst (λ (set : ℕ → Bool). IsLeastAbsent scratch set register) (λ i x. same x i) h
