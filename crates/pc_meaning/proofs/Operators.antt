-- The operators to which the language's operators and tests are lowered give their values.
use Rattle.std.proofs.Common.{◌≡◌, ℕ, zero, suc, Bool, true, false, Some, None, refl, sym, ap}
use Rattle.std.specs.Prelude.{ℤ, pos, negsuc, ◌≢◌, nat_lt, not, if◌then◌else◌, is_some}
use Rattle.std.specs.Ordering.{int_eq}
use Rattle.std.proofs.lemmas.Bool.Decides.{Decides-int_eq}
use Rattle.pc_word.specs.Word.{word_of_test, holds, word_below, word_unequal}
use Rattle.pc_word.specs.Items.{place_in}
use Rattle.pc_syntax.specs.declared.operator.UnaryOp.{UnaryOp}
use Rattle.pc_syntax.specs.declared.operator.UnaryOp.TheVariants.{Minus, Flip, Not}
use Rattle.pc_syntax.specs.declared.operator.BinaryOp.{BinaryOp}
use Rattle.pc_syntax.specs.declared.operator.BinaryOp.TheVariants.{Add, Sub, Mul, Div, Rem, Shl, Shr, Less, LessEq, Greater, GreaterEq, Equal, Unequal, BitAnd, BitXor, BitOr}
use Rattle.pc_meaning.specs.Expression.{prefix_value, binary_value}
use Rattle.pc_meaning.specs.Lowered.{lowered_prefix, lowered_binary}

-- a unary operator
pub prefix_value-lowered : (op : UnaryOp) (a : ℤ) → prefix_value op a ≡ lowered_prefix op a
prefix_value-lowered Minus a = refl
prefix_value-lowered Flip a = refl
prefix_value-lowered Not a = refl

-- a binary operator
pub binary_value-lowered : (op : BinaryOp) (a b : ℤ) → binary_value op a b ≡ lowered_binary op a b
binary_value-lowered Add a b = refl
binary_value-lowered Sub a b = refl
binary_value-lowered Mul a b = refl
binary_value-lowered Div a b = refl
binary_value-lowered Rem a b = refl
binary_value-lowered Shl a b = refl
binary_value-lowered Shr a b = refl
binary_value-lowered Less a b = refl
binary_value-lowered LessEq a b = refl
binary_value-lowered Greater a b = refl
binary_value-lowered GreaterEq a b = refl
binary_value-lowered Equal a b = refl
binary_value-lowered Unequal a b = refl
binary_value-lowered BitAnd a b = refl
binary_value-lowered BitXor a b = refl
binary_value-lowered BitOr a b = refl

-- a test is 1 exactly where the place is there
inside-test : (b : Bool) (index : ℕ) → word_of_test b ≡ word_of_test (is_some (if b then Some index else None))
inside-test true index = refl
inside-test false index = refl

-- a bound test
pub place_in-below : (length : ℕ) (index : ℤ) → word_below index (pos length) ≡ word_of_test (is_some (place_in length index))
unfolding word_below
place_in-below length (pos index) = inside-test (nat_lt index length) index
place_in-below length (negsuc index) = refl

-- a number that is not 0 is unequal to it
unequal-test : (value : ℤ) (b : Bool) → int_eq value (pos 0) ≡ b → (b ≡ true → ⊥) → word_unequal value (pos 0) ≡ pos 1
unfolding word_unequal
unequal-test value true e absent = absurd (absent refl)
unequal-test value false e absent = ap (λ (b : Bool). word_of_test (not b)) e

-- the same, of every number but 0
unequal : (value : ℤ) → value ≢ pos 0 → word_unequal value (pos 0) ≡ pos 1
unequal value other =
    unequal-test value (int_eq value (pos 0)) refl (λ e. other ((Decides-int_eq value (pos 0)).0 e))

-- whether a value holds
pub holds-unequal : (value : ℤ) → word_of_test (holds value) ≡ word_unequal value (pos 0)
unfolding word_unequal
holds-unequal (pos zero) = refl
holds-unequal (pos (suc n)) = sym (unequal (pos (suc n)) (λ e. cc))
holds-unequal (negsuc n) = sym (unequal (negsuc n) (λ e. cc))
