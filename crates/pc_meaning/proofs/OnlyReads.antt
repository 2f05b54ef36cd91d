-- Expressions change nothing but the input.
use Rattle.std.proofs.Common.{◌≡◌, ℕ, Bool, true, false, List, [], ◌∷◌, Option, Some, None, refl, sym, ap, ◌∙◌}
use Rattle.std.specs.Prelude.{ℤ, pos, slice_index}
use Rattle.pc_word.specs.declared.item.TrapKind.TheVariants.{DivideByZero, OutOfBounds}
use Rattle.pc_word.specs.Word.{holds}
use Rattle.pc_word.specs.Items.{place_in}
use Rattle.pc_syntax.specs.declared.operator.BinaryOp.{BinaryOp}
use Rattle.pc_syntax.specs.Source.{SourceExpression, Literal, Variable, Input, Indexed, Prefixed, Combined, Conjunction, Disjunction, Conditional}
use Rattle.pc_meaning.specs.ProgramState.{ProgramState, set_left}
use Rattle.pc_meaning.specs.Expression.{Evaluated, Given, Caught, state_given, with_value, where_true, side, prefix_value, binary_value, divides}
use Rattle.pc_meaning.specs.Expression.{with_divisor, operate, at_place, loaded, element, read_from, truth, eval}

-- what changes nothing but the input
pub record OnlyReads (f : ProgramState → Evaluated) : Type 0 where
  pub same : (s : ProgramState) → state_given (f s) ≡ set_left (state_given (f s)).input s

-- what changes nothing at all
unchanged : (f : ProgramState → Evaluated) → ((s : ProgramState) → state_given (f s) ≡ s) → OnlyReads f
unchanged f same = record { same = λ s. same s ∙ ap (λ (t : ProgramState). set_left t.input s) (sym (same s)) }

-- a value
Given-reads : (value : ℤ) → OnlyReads (Given value)
Given-reads value = unchanged (Given value) (λ s. refl)

-- what follows a value
with_value-same : (s : ProgramState) (x : Evaluated) (next : ℤ → ProgramState → Evaluated) → ((v : ℤ) → OnlyReads (next v)) →
    state_given x ≡ set_left (state_given x).input s →
    state_given (with_value x next) ≡ set_left (state_given (with_value x next)).input s
with_value-same s (Given v t) next q same =
    (q v).same t ∙ ap (set_left (state_given (next v t)).input) same
with_value-same s (Caught kind line t) next q same = same

-- a value, and what follows it
with_value-reads : (f : ProgramState → Evaluated) (next : ℤ → ProgramState → Evaluated) → OnlyReads f → ((v : ℤ) → OnlyReads (next v)) →
    OnlyReads (λ s. with_value (f s) next)
with_value-reads f next p q = record { same = λ s. with_value-same s (f s) next q (p.same s) }

-- the two sides of a test
where_true-reads : (b : Bool) (f g : ProgramState → Evaluated) → OnlyReads f → OnlyReads g → OnlyReads (where_true b f g)
where_true-reads true f g p q = p
where_true-reads false f g p q = q

-- the two sides of a condition
side-reads : (v : ℤ) (f g : ProgramState → Evaluated) → OnlyReads f → OnlyReads g → OnlyReads (side v f g)
side-reads v f g p q = where_true-reads (holds v) f g p q

-- what is done at a place, or where the index was outside
at_place-reads : (place : Option ℕ) (outside : ProgramState → Evaluated) (next : ℕ → ProgramState → Evaluated) → OnlyReads outside →
    ((i : ℕ) → OnlyReads (next i)) → OnlyReads (at_place place outside next)
at_place-reads None outside next p q = p
at_place-reads (Some i) outside next p q = q i

-- the test of a divisor
with_divisor-reads : (b : Bool) (line : ℕ) (divisor value : ℤ) → OnlyReads (with_divisor b line divisor value)
with_divisor-reads true line divisor value =
    side-reads divisor (Given value) (Caught DivideByZero line) (Given-reads value) (unchanged (Caught DivideByZero line) (λ s. refl))
with_divisor-reads false line divisor value = Given-reads value

-- a binary operator on its two values
operate-reads : (op : BinaryOp) (line : ℕ) (a b : ℤ) → OnlyReads (operate op line a b)
operate-reads op line a b = with_divisor-reads (divides op) line b (binary_value op a b)

-- an element
element-reads : (lengths : List ℕ) (array line : ℕ) (index : ℤ) → OnlyReads (element lengths array line index)
element-reads lengths array line index =
    at_place-reads (place_in (slice_index lengths array) index) (Caught OutOfBounds line) (loaded array)
    (unchanged (Caught OutOfBounds line) (λ s. refl)) (λ i. unchanged (loaded array i) (λ s. refl))

-- a read takes a number of the input
read_from-same : (input : List ℤ) (line : ℕ) (s : ProgramState) →
    state_given (read_from input line s) ≡ set_left (state_given (read_from input line s)).input s
read_from-same [] line s = refl
read_from-same (value ∷ rest) line s = refl

-- the right operand of `&&` and `||`
right-reads : (f : ProgramState → Evaluated) → OnlyReads f → OnlyReads (λ s. with_value (f s) truth)
right-reads f p = with_value-reads f truth p (λ v. unchanged (truth v) (λ s. refl))

-- every expression
eval-reads : (lengths : List ℕ) (e : SourceExpression) → OnlyReads (eval lengths e)
eval-reads lengths (Literal value) = Given-reads value
eval-reads lengths (Variable scalar line) = unchanged (eval lengths (Variable scalar line)) (λ s. refl)
eval-reads lengths (Input line) = record { same = λ s. read_from-same s.input line s }
eval-reads lengths (Indexed array line at index) =
    with_value-reads (eval lengths index) (element lengths array at) (eval-reads lengths index) (element-reads lengths array at)
eval-reads lengths (Prefixed op operand) =
    with_value-reads (eval lengths operand) (λ a. Given (prefix_value op a)) (eval-reads lengths operand) (λ a. Given-reads (prefix_value op a))
eval-reads lengths (Combined op at left right) =
    with_value-reads (eval lengths left) (λ a s. with_value (eval lengths right s) (operate op at a)) (eval-reads lengths left)
    (λ a. with_value-reads (eval lengths right) (operate op at a) (eval-reads lengths right) (operate-reads op at a))
eval-reads lengths (Conjunction left right) =
    with_value-reads (eval lengths left) (λ a. side a (λ s. with_value (eval lengths right s) truth) (Given (pos 0))) (eval-reads lengths left)
    (λ a. side-reads a (λ s. with_value (eval lengths right s) truth) (Given (pos 0)) (right-reads (eval lengths right) (eval-reads lengths right)) (Given-reads (pos 0)))
eval-reads lengths (Disjunction left right) =
    with_value-reads (eval lengths left) (λ a. side a (Given (pos 1)) (λ s. with_value (eval lengths right s) truth)) (eval-reads lengths left)
    (λ a. side-reads a (Given (pos 1)) (λ s. with_value (eval lengths right s) truth) (Given-reads (pos 1)) (right-reads (eval lengths right) (eval-reads lengths right)))
eval-reads lengths (Conditional test one other) =
    with_value-reads (eval lengths test) (λ a. side a (eval lengths one) (eval lengths other)) (eval-reads lengths test)
    (λ a. side-reads a (eval lengths one) (eval lengths other) (eval-reads lengths one) (eval-reads lengths other))

-- an expression changes nothing but the input
pub eval-only_reads : (lengths : List ℕ) (e : SourceExpression) (s : ProgramState) →
    state_given (eval lengths e s) ≡ set_left (state_given (eval lengths e s)).input s
eval-only_reads lengths e s = (eval-reads lengths e).same s

-- it leaves the scalars as they are
pub eval-scalars : (lengths : List ℕ) (e : SourceExpression) (s : ProgramState) → (state_given (eval lengths e s)).scalars ≡ s.scalars
eval-scalars lengths e s = ap (λ (t : ProgramState). t.scalars) (eval-only_reads lengths e s)

-- and the elements
pub eval-cells : (lengths : List ℕ) (e : SourceExpression) (s : ProgramState) → (state_given (eval lengths e s)).cells ≡ s.cells
eval-cells lengths e s = ap (λ (t : ProgramState). t.cells) (eval-only_reads lengths e s)
