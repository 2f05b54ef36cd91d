-- What the operators on words give.
use Rattle.std.proofs.Common.{◌<◌, ◌⊎◌, inl, inr, sym, ◌∙◌, ◌+ℤ◌, ◌*ℤ◌, ◌≡◌, ◌≢◌, ℕ, zero, suc, ◌-◌, ◌%◌, ◌^◌, ◌≤◌, refl, ap, arith, w32, ℤ, pos, neg_ℤ, FitsSigned}
use Rattle.std.specs.Prelude.{negsuc, int_div, unsigned_abs}
use Rattle.std.specs.Int.{int_wrap, int_shl, cast_signed, cast_unsigned}
use Rattle.std.proofs.Math.Nat.{div-le_self}
use Rattle.std.proofs.lemmas.Int.{ints}
use Rattle.std.specs.Prelude.{int_rem, Bool, true, false, int_lt, nat_lt}
use Rattle.std.specs.Int.Signed.{mag_rem, mag_shr}
use Rattle.std.proofs.Math.Facts.{sfits_to_z}
use Rattle.std.proofs.lemmas.Int.{SFits-int_wrap, int_wrap_fits, int_wrap-add_left, int_wrap-mul_left, int_wrap-mul_right, wrapping_mul-bits, to_z-of_z, quot-rem}
use Rattle.std.specs.Int.Bits.{and_lt}
use Rattle.std.proofs.lemmas.Nat.{or_lt, xor_lt, pow_below}
use Rattle.std.proofs.lemmas.Bool.Decides.{nat_tests}
use Rattle.pc_word.specs.declared.item.OpCode.{OpCode}
use Rattle.pc_word.specs.declared.item.OpCode.TheVariants.{Add, Sub, Mul, Div, Rem, Shl, Shr, And, Or, Xor, Less, LessEq, Equal, Unequal, Below}
use Rattle.pc_word.specs.Word.{IsWord, word_of_test, word_add, word_sub, word_mul, word_div, word_rem, word_shl, word_shr, word_and, word_or}
use Rattle.pc_word.specs.Word.{word_xor, word_less, word_less_eq, word_equal, word_unequal, word_below, word_apply}

-- a test by what it tests
test_true : (m n : ℕ) → m < n → nat_lt m n ≡ true
test_true m n h = grind (arith, nat_tests)

test_false : (m n : ℕ) → n ≤ m → nat_lt m n ≡ false
test_false m n h = grind (arith, nat_tests)

test_tells : (m n : ℕ) → ((nat_lt m n ≡ true) × (m < n)) ⊎ ((nat_lt m n ≡ false) × (n ≤ m))
test_tells m n = grind (arith, nat_tests)

same_test : (m n k l : ℕ) → (m < n → k < l) → (n ≤ m → l ≤ k) → nat_lt m n ≡ nat_lt k l
same_test m n k l p q = elim (test_tells m n) [
  | inl h ↦ h.0 ∙ sym (test_true k l (p h.1))
  | inr h ↦ h.0 ∙ sym (test_false k l (q h.1))
]

-- where a number is in size at most 2^31, its bits alone are what is left of it
pub int_wrap_near : (z : ℤ) → unsigned_abs z ≤ 2 ^ 31 → int_wrap w32 z ≡ cast_signed w32 (cast_unsigned w32 z)
unfolding int_wrap
int_wrap_near (pos n) h = ap (λ (k : ℕ). cast_signed w32 k) (let e : n % 2 ^ 32 ≡ n = omega arith in e)
int_wrap_near (negsuc n) h = ap (λ (k : ℕ). cast_signed w32 k) (let e : 2 ^ 32 - 1 - n % 2 ^ 32 ≡ 2 ^ 32 - suc n = omega arith in e)

-- a number and its opposite are equal in size
pub unsigned_abs-neg : (z : ℤ) → unsigned_abs (neg_ℤ z) ≡ unsigned_abs z
unsigned_abs-neg (pos zero) = refl
unsigned_abs-neg (pos (suc n)) = refl
unsigned_abs-neg (negsuc n) = refl

-- a quotient is in size at most what was divided
pub unsigned_abs-int_div : (a b : ℤ) → unsigned_abs (int_div a b) ≤ unsigned_abs a
unsigned_abs-int_div (pos a) (pos b) = div-le_self a b
unsigned_abs-int_div (pos a) (negsuc b) = rw unsigned_abs-neg (div-le_self a (suc b))
unsigned_abs-int_div (negsuc a) (pos b) = rw unsigned_abs-neg (div-le_self (suc a) b)
unsigned_abs-int_div (negsuc a) (negsuc b) = div-le_self (suc a) (suc b)

-- a word is in size at most 2^31
pub unsigned_abs-word : (a : ℤ) → FitsSigned w32 a → unsigned_abs a ≤ 2 ^ 31
unsigned_abs-word (pos n) h = omega (arith, ints)
unsigned_abs-word (negsuc n) h = omega (arith, ints)

-- the quotient of words, by its bits
pub word_div-bits : (a b : ℤ) → FitsSigned w32 a → b ≢ pos 0 → word_div a b ≡ cast_signed w32 (cast_unsigned w32 (int_div a b))
unfolding word_div
word_div-bits a (pos zero) h ne = absurd (ne refl)
word_div-bits a (pos (suc b)) h ne =
    let le : unsigned_abs (int_div a (pos (suc b))) ≤ 2 ^ 31 = omega (arith, unsigned_abs-int_div a (pos (suc b)), unsigned_abs-word a h) in
    int_wrap_near (int_div a (pos (suc b))) le
word_div-bits a (negsuc b) h ne =
    let le : unsigned_abs (int_div a (negsuc b)) ≤ 2 ^ 31 = omega (arith, unsigned_abs-int_div a (negsuc b), unsigned_abs-word a h) in
    int_wrap_near (int_div a (negsuc b)) le

-- the answer of a test is a word
IsWord-of_test : (b : Bool) → IsWord (word_of_test b)
IsWord-of_test true = record { sfits = omega arith }
IsWord-of_test false = record { sfits = omega arith }

-- the bits of a word are a number below 2^32
cast_unsigned-word : (a : ℤ) → IsWord a → cast_unsigned w32 a < 2 ^ 32
cast_unsigned-word (pos n) h = omega (arith, ints)
cast_unsigned-word (negsuc n) h = omega (arith, ints)

-- the bits of a number below 2^32 make a word
IsWord-bits : (n : ℕ) → n < 2 ^ 32 → IsWord (cast_signed w32 n)
IsWord-bits n h = sfits_to_z {w = w32} {n = n} (record { fits = h })

IsWord-div : (a b : ℤ) → IsWord a → IsWord (word_div a b)
unfolding word_div
IsWord-div a (pos zero) h = record { sfits = omega arith }
IsWord-div a (pos (suc b)) h = SFits-int_wrap w32 (int_div a (pos (suc b)))
IsWord-div a (negsuc b) h = SFits-int_wrap w32 (int_div a (negsuc b))

IsWord-int_rem : (a b : ℤ) → IsWord a → IsWord (int_rem a b)
IsWord-int_rem a b h = record { sfits = omega (arith, mag_rem a b, h.sfits) }

IsWord-rem : (a b : ℤ) → IsWord a → IsWord (word_rem a b)
unfolding word_rem
IsWord-rem a (pos zero) h = record { sfits = omega arith }
IsWord-rem a (pos (suc b)) h = IsWord-int_rem a (pos (suc b)) h
IsWord-rem a (negsuc b) h = IsWord-int_rem a (negsuc b) h

IsWord-below : (a b : ℤ) → IsWord (word_below a b)
unfolding word_below
IsWord-below (pos a) (pos b) = IsWord-of_test (int_lt (pos a) (pos b))
IsWord-below (pos a) (negsuc b) = record { sfits = omega arith }
IsWord-below (negsuc a) (pos b) = record { sfits = omega arith }
IsWord-below (negsuc a) (negsuc b) = IsWord-of_test (int_lt (negsuc a) (negsuc b))

-- what is left of a natural number
int_wrap-pos : (n : ℕ) → int_wrap w32 (pos n) ≡ cast_signed w32 (n % 2 ^ 32)
unfolding int_wrap
int_wrap-pos n = refl

-- the left shift of a word, by its bits
pub word_shl-bits : (a b : ℤ) → IsWord a → int_shl w32 a (cast_unsigned w32 b % 32) ≡ word_shl a b
unfolding word_shl
word_shl-bits a b g =
    let k = cast_unsigned w32 b % 32 in
    let less : k < 32 = omega arith in
    let small : 2 ^ k < 2 ^ 32 = pow_below k 32 less in
    let whole : (2 ^ k) % 2 ^ 32 ≡ 2 ^ k = omega arith in
    wrapping_mul-bits w32 (cast_unsigned w32 a) (2 ^ k) (cast_unsigned-word a g) small
    ∙ (λ i. int_wrap w32 (to_z-of_z w32 a g i *ℤ sym (int_wrap-pos (2 ^ k) ∙ ap (λ (n : ℕ). cast_signed w32 n) whole) i))
    ∙ int_wrap-mul_right w32 a (pos (2 ^ k))

-- every operator gives a word
pub IsWord-apply : (op : OpCode) (a b : ℤ) → IsWord a → IsWord b → IsWord (word_apply op a b)
unfolding word_add word_sub word_mul word_shl word_shr word_and word_or word_xor word_less word_less_eq word_equal word_unequal
IsWord-apply Add a b g h = SFits-int_wrap w32 _
IsWord-apply Sub a b g h = SFits-int_wrap w32 _
IsWord-apply Mul a b g h = SFits-int_wrap w32 _
IsWord-apply Div a b g h = IsWord-div a b g
IsWord-apply Rem a b g h = IsWord-rem a b g
IsWord-apply Shl a b g h = SFits-int_wrap w32 _
IsWord-apply Shr a b g h = record { sfits = omega (arith, mag_shr a (2 ^ (cast_unsigned w32 b % 32)), g.sfits) }
IsWord-apply And a b g h = IsWord-bits _ (and_lt 32 (cast_unsigned w32 a) (cast_unsigned w32 b) (cast_unsigned-word a g) (cast_unsigned-word b h))
IsWord-apply Or a b g h = IsWord-bits _ (or_lt 32 (cast_unsigned w32 a) (cast_unsigned w32 b) (cast_unsigned-word a g) (cast_unsigned-word b h))
IsWord-apply Xor a b g h = IsWord-bits _ (xor_lt 32 (cast_unsigned w32 a) (cast_unsigned w32 b) (cast_unsigned-word a g) (cast_unsigned-word b h))
IsWord-apply Less a b g h = IsWord-of_test _
IsWord-apply LessEq a b g h = IsWord-of_test _
IsWord-apply Equal a b g h = IsWord-of_test _
IsWord-apply Unequal a b g h = IsWord-of_test _
IsWord-apply Below a b g h = IsWord-below a b

-- `below` is the order of the numbers modulo 2^32
pub word_below-order : (a b : ℤ) → IsWord a → IsWord b → word_below a b ≡ word_of_test (nat_lt (cast_unsigned w32 a) (cast_unsigned w32 b))
unfolding word_below
word_below-order (pos a) (pos b) g h = refl
word_below-order (pos a) (negsuc b) g h =
    let e : nat_lt a (2 ^ 32 - suc b) ≡ true = test_true a (2 ^ 32 - suc b) (omega (arith, g.sfits, h.sfits)) in
    ap (λ (t : Bool). word_of_test t) (sym e)
word_below-order (negsuc a) (pos b) g h =
    let e : nat_lt (2 ^ 32 - suc a) b ≡ false = test_false (2 ^ 32 - suc a) b (omega (arith, g.sfits, h.sfits)) in
    ap (λ (t : Bool). word_of_test t) (sym e)
word_below-order (negsuc a) (negsuc b) g h =
    ap (λ (t : Bool). word_of_test t) (same_test b a (2 ^ 32 - suc a) (2 ^ 32 - suc b) (λ lt. omega (arith, g.sfits, h.sfits)) (λ le. omega (arith, g.sfits, h.sfits)))

-- a quotient times its divisor, with the remainder, is what was divided
quotient_and_remainder : (a b : ℤ) → IsWord a → int_wrap w32 (int_wrap w32 (int_wrap w32 (int_div a b) *ℤ b) +ℤ int_rem a b) ≡ a
quotient_and_remainder a b h =
    int_wrap-add_left w32 (int_wrap w32 (int_div a b) *ℤ b) (int_rem a b)
    ∙ wrapped_sum (int_wrap w32 (int_div a b) *ℤ b) (int_div a b *ℤ b) (int_rem a b) (int_wrap-mul_left w32 (int_div a b) b)
    ∙ ap (λ (z : ℤ). int_wrap w32 z) (quot-rem a b)
    ∙ int_wrap_fits w32 a h
  where
    wrapped_sum : (x y r : ℤ) → int_wrap w32 x ≡ int_wrap w32 y → int_wrap w32 (x +ℤ r) ≡ int_wrap w32 (y +ℤ r)
    wrapped_sum x y r e = sym (int_wrap-add_left w32 x r) ∙ ap (λ (z : ℤ). int_wrap w32 (z +ℤ r)) e ∙ int_wrap-add_left w32 y r

pub word_div-word_rem : (a b : ℤ) → IsWord a → b ≢ pos 0 → word_add (word_mul (word_div a b) b) (word_rem a b) ≡ a
unfolding word_add word_mul word_div word_rem
word_div-word_rem a (pos zero) h ne = absurd (ne refl)
word_div-word_rem a (pos (suc b)) h ne = quotient_and_remainder a (pos (suc b)) h
word_div-word_rem a (negsuc b) h ne = quotient_and_remainder a (negsuc b) h
