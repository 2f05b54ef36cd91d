-- What an expression gives: a value, or a trap, and the state after it (C17 6.5). Operands are evaluated from
-- left to right, where C leaves the order open.
use Rattle.std.specs.Prelude.{ℕ, ℤ, pos, negsuc, Bool, true, false, List, [], ◌∷◌, Option, Some, None, slice_index}
use Rattle.pc_word.specs.declared.item.TrapKind.{TrapKind}
use Rattle.pc_word.specs.declared.item.TrapKind.TheVariants.{DivideByZero, OutOfBounds, EndOfInput}
use Rattle.pc_word.specs.Word.{word_of_test, holds, word_add, word_sub, word_mul, word_div, word_rem, word_shl, word_shr, word_and, word_or}
use Rattle.pc_word.specs.Word.{word_xor, word_less, word_less_eq, word_equal, word_unequal}
use Rattle.pc_word.specs.Items.{place_in}
use Rattle.pc_syntax.specs.declared.operator.UnaryOp.{UnaryOp}
use Rattle.pc_syntax.specs.declared.operator.UnaryOp.TheVariants.{Minus, Flip, Not}
use Rattle.pc_syntax.specs.declared.operator.BinaryOp.{BinaryOp}
use Rattle.pc_syntax.specs.declared.operator.BinaryOp.TheVariants.{Add, Sub, Mul, Div, Rem, Shl, Shr, Less, LessEq, Greater, GreaterEq, Equal, Unequal, BitAnd, BitXor, BitOr}
use Rattle.pc_syntax.specs.Source.{SourceExpression, Literal, Variable, Input, Indexed, Prefixed, Combined, Conjunction, Disjunction, Conditional}
use Rattle.pc_meaning.specs.ProgramState.{ProgramState, set_left}

-- what an expression comes to
pub data Evaluated : Type 0 where
  -- its value
  Given : (value : ℤ) → (state : ProgramState) → Evaluated
  -- a trap, with its line in the source
  Caught : (kind : TrapKind) → (line : ℕ) → (state : ProgramState) → Evaluated

-- the state after an expression
abbrev pub state_given : Evaluated → ProgramState
state_given (Given value s) = s
state_given (Caught kind line s) = s

-- what is done with a value; a trap stays
abbrev pub with_value : Evaluated → (ℤ → ProgramState → Evaluated) → Evaluated
with_value (Given value s) next = next value s
with_value (Caught kind line s) next = Caught kind line s

-- the one where a test came out true, and else the other
abbrev pub where_true : {X : Type 0} → Bool → (ProgramState → X) → (ProgramState → X) → ProgramState → X
where_true true one other s = one s
where_true false one other s = other s

-- the one where a condition's value is not 0, and else the other
abbrev pub side : {X : Type 0} → ℤ → (ProgramState → X) → (ProgramState → X) → ProgramState → X
side value one other s = where_true (holds value) one other s

-- ---- operators

-- a unary operator (C17 6.5.3.3)
abbrev pub prefix_value : UnaryOp → ℤ → ℤ
prefix_value Minus a = word_sub (pos 0) a
prefix_value Flip a = word_xor a (negsuc 0)
prefix_value Not a = word_equal a (pos 0)

-- a binary operator (C17 6.5.5 to 6.5.12)
abbrev pub binary_value : BinaryOp → ℤ → ℤ → ℤ
binary_value Add a b = word_add a b
binary_value Sub a b = word_sub a b
binary_value Mul a b = word_mul a b
binary_value Div a b = word_div a b
binary_value Rem a b = word_rem a b
binary_value Shl a b = word_shl a b
binary_value Shr a b = word_shr a b
binary_value Less a b = word_less a b
binary_value LessEq a b = word_less_eq a b
binary_value Greater a b = word_less b a
binary_value GreaterEq a b = word_less_eq b a
binary_value Equal a b = word_equal a b
binary_value Unequal a b = word_unequal a b
binary_value BitAnd a b = word_and a b
binary_value BitXor a b = word_xor a b
binary_value BitOr a b = word_or a b

-- whether an operator has a divisor
abbrev pub divides : BinaryOp → Bool
divides Div = true
divides Rem = true
divides _ = false

-- where there is a divisor, a divisor 0 is a trap at the operator's line
abbrev pub with_divisor : Bool → ℕ → ℤ → ℤ → ProgramState → Evaluated
with_divisor true line divisor value s = side divisor (Given value) (Caught DivideByZero line) s
with_divisor false line divisor value s = Given value s

-- an operator on its two values
abbrev pub operate : BinaryOp → ℕ → ℤ → ℤ → ProgramState → Evaluated
operate op line a b s = with_divisor (divides op) line b (binary_value op a b) s

-- ---- elements and input

-- what is done at a place, or where the index was outside
abbrev pub at_place : {X : Type 0} → Option ℕ → (ProgramState → X) → (ℕ → ProgramState → X) → ProgramState → X
at_place None outside next s = outside s
at_place (Some place) outside next s = next place s

-- the element at a place
abbrev pub loaded : ℕ → ℕ → ProgramState → Evaluated
loaded array place s = Given (s.cells array place) s

-- the element that an index names; an index outside the array is a trap at the bracket's line
abbrev pub element : List ℕ → ℕ → ℕ → ℤ → ProgramState → Evaluated
element lengths array line index s =
    at_place (place_in (slice_index lengths array) index) (Caught OutOfBounds line) (loaded array) s

-- the next number of the input; where none is left, that is a trap at the line of `read`
abbrev pub read_from : List ℤ → ℕ → ProgramState → Evaluated
read_from [] line s = Caught EndOfInput line s
read_from (value ∷ rest) line s = Given value (set_left rest s)

-- ---- expressions

-- whether a value holds, as 0 or 1
abbrev pub truth : ℤ → ProgramState → Evaluated
truth value s = Given (word_of_test (holds value)) s

-- an expression in a state, in a program with arrays of these lengths
abbrev pub eval : List ℕ → SourceExpression → ProgramState → Evaluated
eval lengths (Literal value) s = Given value s
eval lengths (Variable scalar line) s = Given (s.scalars scalar) s
eval lengths (Input line) s = read_from s.input line s
eval lengths (Indexed array line at index) s = with_value (eval lengths index s) (element lengths array at)
eval lengths (Prefixed op operand) s = with_value (eval lengths operand s) (λ a. Given (prefix_value op a))
eval lengths (Combined op at left right) s =
    with_value (eval lengths left s) (λ a s. with_value (eval lengths right s) (operate op at a))
-- C17 6.5.13: the right operand only where the left one is not 0
eval lengths (Conjunction left right) s =
    with_value (eval lengths left s) (λ a. side a (λ s. with_value (eval lengths right s) truth) (Given (pos 0)))
-- C17 6.5.14: the right operand only where the left one is 0
eval lengths (Disjunction left right) s =
    with_value (eval lengths left s) (λ a. side a (Given (pos 1)) (λ s. with_value (eval lengths right s) truth))
-- C17 6.5.15: only the one operand that the condition chooses
eval lengths (Conditional test one other) s =
    with_value (eval lengths test s) (λ a. side a (eval lengths one) (eval lengths other))
