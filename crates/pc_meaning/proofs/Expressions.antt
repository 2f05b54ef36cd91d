-- Expressions print nothing, and neither look at the turns that are left nor change them.
use Rattle.std.proofs.Common.{◌≡◌, ℕ, ◌+◌, Bool, true, false, List, [], ◌∷◌, Option, Some, None, refl, ◌∙◌, ap}
use Rattle.std.specs.Prelude.{ℤ, pos, slice_index}
use Rattle.pc_word.specs.declared.item.TrapKind.TheVariants.{DivideByZero, OutOfBounds}
use Rattle.pc_word.specs.Word.{holds}
use Rattle.pc_word.specs.Items.{place_in}
use Rattle.pc_syntax.specs.declared.operator.BinaryOp.{BinaryOp}
use Rattle.pc_syntax.specs.Source.{SourceExpression, Literal, Variable, Input, Indexed, Prefixed, Combined, Conjunction, Disjunction, Conditional}
use Rattle.pc_meaning.specs.ProgramState.{ProgramState, set_turns}
use Rattle.pc_meaning.specs.Expression.{Evaluated, Given, Caught, state_given, with_value, where_true, side, prefix_value, binary_value, divides}
use Rattle.pc_meaning.specs.Expression.{with_divisor, operate, at_place, loaded, element, read_from, truth, eval}

-- the state with so many turns more
abbrev pub with_more : ℕ → ProgramState → ProgramState
with_more k s = set_turns (s.turns + k) s

-- the same value or trap, in the state with so many turns more
abbrev pub shifted : ℕ → Evaluated → Evaluated
shifted k (Given value s) = Given value (with_more k s)
shifted k (Caught kind line s) = Caught kind line (with_more k s)

-- what prints nothing, starts no turn, and gives the same however many turns are left
pub record Quiet (f : ProgramState → Evaluated) : Type 0 where
  pub prints_nothing : (s : ProgramState) → (state_given (f s)).printed ≡ s.printed
  pub keeps_turns : (s : ProgramState) → (state_given (f s)).turns ≡ s.turns
  pub shifts : (k : ℕ) (s : ProgramState) → f (with_more k s) ≡ shifted k (f s)

-- a value
pub Given-quiet : (value : ℤ) → Quiet (Given value)
Given-quiet value = record { prints_nothing = λ s. refl; keeps_turns = λ s. refl; shifts = λ k s. refl }

-- ---- what is done with a value

-- what follows a value prints nothing
with_value-prints : (x : Evaluated) (next : ℤ → ProgramState → Evaluated) → ((v : ℤ) → Quiet (next v)) → (state_given (with_value x next)).printed ≡ (state_given x).printed
with_value-prints (Given v s) next q = (q v).prints_nothing s
with_value-prints (Caught kind line s) next q = refl

-- what follows a value starts no turn
with_value-turns : (x : Evaluated) (next : ℤ → ProgramState → Evaluated) → ((v : ℤ) → Quiet (next v)) → (state_given (with_value x next)).turns ≡ (state_given x).turns
with_value-turns (Given v s) next q = (q v).keeps_turns s
with_value-turns (Caught kind line s) next q = refl

-- what follows a value is the same however many turns are left
with_value-shifts : (k : ℕ) (x : Evaluated) (next : ℤ → ProgramState → Evaluated) → ((v : ℤ) → Quiet (next v)) → with_value (shifted k x) next ≡ shifted k (with_value x next)
with_value-shifts k (Given v s) next q = (q v).shifts k s
with_value-shifts k (Caught kind line s) next q = refl

-- a value, and what follows it
pub with_value-quiet : (f : ProgramState → Evaluated) (next : ℤ → ProgramState → Evaluated) → Quiet f → ((v : ℤ) → Quiet (next v)) → Quiet (λ s. with_value (f s) next)
with_value-quiet f next p q = record {
  prints_nothing = λ s. with_value-prints (f s) next q ∙ p.prints_nothing s;
  keeps_turns = λ s. with_value-turns (f s) next q ∙ p.keeps_turns s;
  shifts = λ k s. ap (λ (x : Evaluated). with_value x next) (p.shifts k s) ∙ with_value-shifts k (f s) next q;
}

-- ---- choices

-- the two sides of a test
where_true-quiet : (b : Bool) (f g : ProgramState → Evaluated) → Quiet f → Quiet g → Quiet (where_true b f g)
where_true-quiet true f g p q = p
where_true-quiet false f g p q = q

-- the two sides of a condition
pub side-quiet : (v : ℤ) (f g : ProgramState → Evaluated) → Quiet f → Quiet g → Quiet (side v f g)
side-quiet v f g p q = where_true-quiet (holds v) f g p q

-- what is done at a place, or where the index was outside
at_place-quiet : (place : Option ℕ) (outside : ProgramState → Evaluated) (next : ℕ → ProgramState → Evaluated) → Quiet outside → ((i : ℕ) → Quiet (next i)) → Quiet (at_place place outside next)
at_place-quiet None outside next p q = p
at_place-quiet (Some i) outside next p q = q i

-- ---- operators, elements and input

-- the test of a divisor
with_divisor-quiet : (b : Bool) (line : ℕ) (divisor value : ℤ) → Quiet (with_divisor b line divisor value)
with_divisor-quiet true line divisor value =
    side-quiet divisor (Given value) (Caught DivideByZero line) (Given-quiet value) (record { prints_nothing = λ s. refl; keeps_turns = λ s. refl; shifts = λ k s. refl })
with_divisor-quiet false line divisor value = Given-quiet value

-- a binary operator on its two values
pub operate-quiet : (op : BinaryOp) (line : ℕ) (a b : ℤ) → Quiet (operate op line a b)
operate-quiet op line a b = with_divisor-quiet (divides op) line b (binary_value op a b)

-- an element
element-quiet : (lengths : List ℕ) (array line : ℕ) (index : ℤ) → Quiet (element lengths array line index)
element-quiet lengths array line index =
    at_place-quiet (place_in (slice_index lengths array) index) (Caught OutOfBounds line) (loaded array)
    (record { prints_nothing = λ s. refl; keeps_turns = λ s. refl; shifts = λ k s. refl }) (λ i. record { prints_nothing = λ s. refl; keeps_turns = λ s. refl; shifts = λ k s. refl })

-- a read prints nothing
read_from-prints : (input : List ℤ) (line : ℕ) (s : ProgramState) → (state_given (read_from input line s)).printed ≡ s.printed
read_from-prints [] line s = refl
read_from-prints (v ∷ rest) line s = refl

-- a read starts no turn
read_from-turns : (input : List ℤ) (line : ℕ) (s : ProgramState) → (state_given (read_from input line s)).turns ≡ s.turns
read_from-turns [] line s = refl
read_from-turns (v ∷ rest) line s = refl

-- a read is the same however many turns are left
read_from-shifts : (input : List ℤ) (line k : ℕ) (s : ProgramState) → read_from input line (with_more k s) ≡ shifted k (read_from input line s)
read_from-shifts [] line k s = refl
read_from-shifts (v ∷ rest) line k s = refl

-- whether a value holds
truth-quiet : (v : ℤ) → Quiet (truth v)
truth-quiet v = record { prints_nothing = λ s. refl; keeps_turns = λ s. refl; shifts = λ k s. refl }

-- ---- expressions

-- the right operand of `&&` and `||`
right-quiet : (f : ProgramState → Evaluated) → Quiet f → Quiet (λ s. with_value (f s) truth)
right-quiet f p = with_value-quiet f truth p truth-quiet

-- every expression
pub eval-quiet : (lengths : List ℕ) (e : SourceExpression) → Quiet (eval lengths e)
eval-quiet lengths (Literal value) = Given-quiet value
eval-quiet lengths (Variable scalar line) = record { prints_nothing = λ s. refl; keeps_turns = λ s. refl; shifts = λ k s. refl }
eval-quiet lengths (Input line) = record { prints_nothing = λ s. read_from-prints s.input line s; keeps_turns = λ s. read_from-turns s.input line s; shifts = λ k s. read_from-shifts s.input line k s }
eval-quiet lengths (Indexed array line at index) =
    with_value-quiet (eval lengths index) (element lengths array at) (eval-quiet lengths index) (element-quiet lengths array at)
eval-quiet lengths (Prefixed op operand) =
    with_value-quiet (eval lengths operand) (λ a. Given (prefix_value op a)) (eval-quiet lengths operand) (λ a. Given-quiet (prefix_value op a))
eval-quiet lengths (Combined op at left right) =
    with_value-quiet (eval lengths left) (λ a s. with_value (eval lengths right s) (operate op at a)) (eval-quiet lengths left)
    (λ a. with_value-quiet (eval lengths right) (operate op at a) (eval-quiet lengths right) (operate-quiet op at a))
eval-quiet lengths (Conjunction left right) =
    with_value-quiet (eval lengths left) (λ a. side a (λ s. with_value (eval lengths right s) truth) (Given (pos 0))) (eval-quiet lengths left)
    (λ a. side-quiet a (λ s. with_value (eval lengths right s) truth) (Given (pos 0)) (right-quiet (eval lengths right) (eval-quiet lengths right)) (Given-quiet (pos 0)))
eval-quiet lengths (Disjunction left right) =
    with_value-quiet (eval lengths left) (λ a. side a (Given (pos 1)) (λ s. with_value (eval lengths right s) truth)) (eval-quiet lengths left)
    (λ a. side-quiet a (Given (pos 1)) (λ s. with_value (eval lengths right s) truth) (Given-quiet (pos 1)) (right-quiet (eval lengths right) (eval-quiet lengths right)))
eval-quiet lengths (Conditional test one other) =
    with_value-quiet (eval lengths test) (λ a. side a (eval lengths one) (eval lengths other)) (eval-quiet lengths test)
    (λ a. side-quiet a (eval lengths one) (eval lengths other) (eval-quiet lengths one) (eval-quiet lengths other))
