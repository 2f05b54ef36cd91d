-- Whole numbers, and those that are one word: equal modulo 2^32.
use Rattle.std.proofs.Common.{◌≡◌, ℕ, ◌+◌, ◌*◌, ◌^◌, ◌<◌, refl, sym, ◌∙◌, ap, arith}
use Rattle.std.specs.Prelude.{ℤ, pos, negsuc, ◌+ℤ◌, ◌*ℤ◌, neg_ℤ, unsigned_abs}
use Rattle.std.specs.Int.{w32, int_wrap, int_rem_euclid, cast_unsigned}
use Rattle.std.proofs.lemmas.Int.{ints, SFits-int_wrap, int_wrap_fits, int_wrap-add_right, int_wrap-mul_left, int_wrap-mul_right, int_wrap-add_same, of_z-to_z}
use borrow.Author.Differences.{up, down, same_in, same_out, sum_is_lem, product_is}
use lib.IntN.{*ℤ_comm, *ℤ-one}
use Rattle.pc_word.specs.Word.{word_add, word_mul, word_shl}
use Rattle.pc_linear.specs.Form.{◌≈◌}
use Rattle.pc_linear.specs.Combine.{shift_factor}

-- the laws of whole numbers that forms need
pub distribute : (a b c : ℤ) → (a +ℤ b) *ℤ c ≡ (a *ℤ c) +ℤ (b *ℤ c)
distribute a b c =
    let sum : up (a +ℤ b) + down a + down b ≡ up a + up b + down (a +ℤ b) = omega (arith, same_out, sum_is_lem) in
    let above = ap (λ (x : ℕ). x * up c) sum in
    let below = ap (λ (x : ℕ). x * down c) sum in
    omega (arith, same_in, sum_is_lem, product_is)

pub distribute_left : (a b c : ℤ) → c *ℤ (a +ℤ b) ≡ (c *ℤ a) +ℤ (c *ℤ b)
distribute_left a b c = *ℤ_comm c (a +ℤ b) ∙ distribute a b c ∙ (λ d. *ℤ_comm a c d +ℤ *ℤ_comm b c d)

pub times_times : (a b c : ℤ) → (a *ℤ b) *ℤ c ≡ a *ℤ (b *ℤ c)
times_times a b c =
    let ab_up = ap (λ (x : ℕ). x * up c) (product_up a b) in
    let ab_down = ap (λ (x : ℕ). x * down c) (product_up a b) in
    let bc_up = ap (λ (x : ℕ). up a * x) (product_up b c) in
    let bc_down = ap (λ (x : ℕ). down a * x) (product_up b c) in
    omega (arith, same_in, product_is)
  where
    product_up : (a b : ℤ) → up (a *ℤ b) + (up a * down b + down a * up b) ≡ up a * up b + down a * down b + down (a *ℤ b)
    product_up a b = omega (arith, same_out, product_is)

pub one_times : (a : ℤ) → pos 1 *ℤ a ≡ a
unfolding lib.IntN.one
one_times a = *ℤ_comm (pos 1) a ∙ *ℤ-one a

pub minus_one : (a : ℤ) → negsuc 0 *ℤ a ≡ neg_ℤ a
minus_one a = omega (arith, ints)

pub exchange : (a b c : ℤ) → a +ℤ (b +ℤ c) ≡ b +ℤ (a +ℤ c)
exchange a b c = omega (arith, ints)

-- a number and its word
pub wrap_same : (a : ℤ) → int_wrap w32 a ≈ a
wrap_same a = int_wrap_fits w32 (int_wrap w32 a) (SFits-int_wrap w32 a)

pub add_same : (a b c d : ℤ) → a ≈ b → c ≈ d → (a +ℤ c) ≈ (b +ℤ d)
add_same a b c d p q =
    int_wrap-add_same w32 a b c p ∙ sym (int_wrap-add_right w32 b c) ∙ ap (λ (z : ℤ). int_wrap w32 (b +ℤ z)) q ∙ int_wrap-add_right w32 b d

pub times_same : (a b c d : ℤ) → a ≈ b → c ≈ d → (a *ℤ c) ≈ (b *ℤ d)
times_same a b c d p q =
    sym (int_wrap-mul_left w32 a c) ∙ ap (λ (z : ℤ). int_wrap w32 (z *ℤ c)) p ∙ int_wrap-mul_left w32 b c
    ∙ sym (int_wrap-mul_right w32 b c) ∙ ap (λ (z : ℤ). int_wrap w32 (b *ℤ z)) q ∙ int_wrap-mul_right w32 b d

-- 0 is a word
pub wrap_zero : int_wrap w32 (pos 0) ≡ pos 0
unfolding int_wrap
wrap_zero = refl

-- 2^32 and 0 are one word
pub wrap_whole : int_wrap w32 (pos (2 ^ 32)) ≡ int_wrap w32 (pos 0)
unfolding int_wrap
wrap_whole = refl

-- where a number's word is 0, so is its remainder
pub bits_zero : (z : ℤ) → int_wrap w32 z ≡ pos 0 → unsigned_abs (int_rem_euclid z (pos (2 ^ 32))) ≡ 0
unfolding int_wrap
bits_zero z h = sym (of_z-to_z w32 (unsigned_abs (int_rem_euclid z (pos (2 ^ 32)))) (small z)) ∙ ap (λ (y : ℤ). cast_unsigned w32 y) h
  where
    small : (z : ℤ) → unsigned_abs (int_rem_euclid z (pos (2 ^ 32))) < 2 ^ 32
    small (pos n) = omega arith
    small (negsuc n) = omega arith

-- the operators that the code uses on factors
pub word_add-is : (a b : ℤ) → word_add a b ≡ int_wrap w32 (a +ℤ b)
unfolding word_add
word_add-is a b = refl

pub word_mul-is : (a b : ℤ) → word_mul a b ≡ int_wrap w32 (a *ℤ b)
unfolding word_mul
word_mul-is a b = refl

-- 1 shifted is the shift's factor, modulo 2^32
pub word_shl-one : (count : ℤ) → word_shl (pos 1) count ≈ shift_factor count
unfolding word_shl
word_shl-one count = wrap_same (pos 1 *ℤ shift_factor count) ∙ ap (int_wrap w32) (one_times (shift_factor count))

-- a product added to a word
pub word_add_mul : (a n b : ℤ) → word_add a (word_mul n b) ≡ int_wrap w32 (a +ℤ (n *ℤ b))
unfolding word_add word_mul
word_add_mul a n b = int_wrap-add_right w32 a (n *ℤ b)
