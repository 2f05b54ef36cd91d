-- The operators of the language on words: whole numbers from -2147483648 to 2147483647, which wrap modulo 2^32.
use Rattle.std.specs.Prelude.{zero, suc, ℤ, pos, negsuc, ◌+ℤ◌, ◌-ℤ◌, ◌*ℤ◌, ◌%◌, ◌^◌, Bool, true, false, not, int_lt, int_le, int_div, int_rem, FitsSigned}
use Rattle.std.specs.Int.{w32, cast_unsigned, int_wrap, int_shr, int_bit_and, int_bit_or, int_bit_xor}
use Rattle.std.specs.Ordering.{int_eq}
use Rattle.pc_word.specs.declared.item.OpCode.{OpCode}
use Rattle.pc_word.specs.declared.item.OpCode.TheVariants.{Add, Sub, Mul, Div, Rem, Shl, Shr, And, Or, Xor, Less, LessEq, Equal, Unequal, Below}

-- a number from -2147483648 to 2147483647
abbrev pub IsWord : ℤ → Type 0
IsWord z = FitsSigned w32 z

-- 1 where a test holds, and else 0
abbrev pub word_of_test : Bool → ℤ
word_of_test true = pos 1
word_of_test false = pos 0

-- a condition holds where its value is not 0
abbrev pub holds : ℤ → Bool
holds (pos zero) = false
holds (pos (suc n)) = true
holds (negsuc n) = true

-- the sum, wrapped
unfoldable pub word_add : ℤ → ℤ → ℤ
word_add a b = int_wrap w32 (a +ℤ b)

-- the difference, wrapped
unfoldable pub word_sub : ℤ → ℤ → ℤ
word_sub a b = int_wrap w32 (a -ℤ b)

-- the product, wrapped
unfoldable pub word_mul : ℤ → ℤ → ℤ
word_mul a b = int_wrap w32 (a *ℤ b)

-- the quotient towards zero, wrapped, since -2147483648 / -1 is no word; 0 where the divisor is 0
unfoldable pub word_div : ℤ → ℤ → ℤ
word_div a (pos zero) = pos 0
word_div a (pos (suc b)) = int_wrap w32 (int_div a (pos (suc b)))
word_div a (negsuc b) = int_wrap w32 (int_div a (negsuc b))

-- the remainder, with the dividend's sign; 0 where the divisor is 0
unfoldable pub word_rem : ℤ → ℤ → ℤ
word_rem a (pos zero) = pos 0
word_rem a (pos (suc b)) = int_rem a (pos (suc b))
word_rem a (negsuc b) = int_rem a (negsuc b)

-- the left shift by the count modulo 32, wrapped: so many times doubled
unfoldable pub word_shl : ℤ → ℤ → ℤ
word_shl a b = int_wrap w32 (a *ℤ pos (2 ^ (cast_unsigned w32 b % 32)))

-- the right shift by the count modulo 32, which copies the sign
unfoldable pub word_shr : ℤ → ℤ → ℤ
word_shr a b = int_shr a (cast_unsigned w32 b % 32)

-- bit by bit, in two's complement
unfoldable pub word_and : ℤ → ℤ → ℤ
word_and a b = int_bit_and w32 a b

unfoldable pub word_or : ℤ → ℤ → ℤ
word_or a b = int_bit_or w32 a b

unfoldable pub word_xor : ℤ → ℤ → ℤ
word_xor a b = int_bit_xor w32 a b

-- comparisons, which give 1 or 0
unfoldable pub word_less : ℤ → ℤ → ℤ
word_less a b = word_of_test (int_lt a b)

unfoldable pub word_less_eq : ℤ → ℤ → ℤ
word_less_eq a b = word_of_test (int_le a b)

unfoldable pub word_equal : ℤ → ℤ → ℤ
word_equal a b = word_of_test (int_eq a b)

unfoldable pub word_unequal : ℤ → ℤ → ℤ
word_unequal a b = word_of_test (not (int_eq a b))

-- whether a is less than b as numbers from 0 to 4294967295 modulo 2^32: there a negative word is above each other
unfoldable pub word_below : ℤ → ℤ → ℤ
word_below (pos a) (pos b) = word_of_test (int_lt (pos a) (pos b))
word_below (pos a) (negsuc b) = pos 1
word_below (negsuc a) (pos b) = pos 0
word_below (negsuc a) (negsuc b) = word_of_test (int_lt (negsuc a) (negsuc b))

-- the operator that a code names
abbrev pub word_apply : OpCode → ℤ → ℤ → ℤ
word_apply Add a b = word_add a b
word_apply Sub a b = word_sub a b
word_apply Mul a b = word_mul a b
word_apply Div a b = word_div a b
word_apply Rem a b = word_rem a b
word_apply Shl a b = word_shl a b
word_apply Shr a b = word_shr a b
word_apply And a b = word_and a b
word_apply Or a b = word_or a b
word_apply Xor a b = word_xor a b
word_apply Less a b = word_less a b
word_apply LessEq a b = word_less_eq a b
word_apply Equal a b = word_equal a b
word_apply Unequal a b = word_unequal a b
word_apply Below a b = word_below a b
