-- An expression with other symbols, among other names, gives the same value.
use Rattle.std.proofs.Common.{◌≡◌, ℕ, Bool, true, false, List, [], ◌∷◌, ◌++◌, Option, Some, None, refl, sym, ap, ◌∙◌}
use Rattle.std.specs.Prelude.{ℤ, pos, slice_index}
use Rattle.pc_word.specs.declared.item.TrapKind.TheVariants.{DivideByZero, OutOfBounds}
use Rattle.pc_word.specs.Word.{holds}
use Rattle.pc_word.specs.Items.{place_in}
use Rattle.pc_word.proofs.Truth.{and_true}
use Rattle.pc_syntax.specs.declared.operator.BinaryOp.{BinaryOp}
use Rattle.pc_syntax.specs.Source.{SourceExpression, Literal, Variable, Input, Indexed, Prefixed, Combined, Conjunction, Disjunction, Conditional}
use Rattle.pc_check.specs.Names.{Names, found}
use Rattle.pc_check.specs.Faults.{scalar_use, array_use, expression_faults}
use Rattle.pc_check.specs.Resolution.{slot_number, resolved_expression}
use Rattle.pc_meaning.specs.ProgramState.{ProgramState}
use Rattle.pc_meaning.specs.Expression.{Evaluated, Given, Caught, state_given, with_value, where_true, side, prefix_value, binary_value, divides}
use Rattle.pc_meaning.specs.Expression.{with_divisor, operate, at_place, loaded, element, read_from, truth, eval}
use Rattle.pc_meaning.proofs.OnlyReads.{eval-scalars}
use Rattle.pc_calls.specs.CallRun.{with_scalars}
use Rattle.pc_calls.specs.Inline.{renamed}
use Rattle.pc_syntax.specs.Proper.{uses_only}
use Rattle.pc_calls.proofs.Matching.{Relation, recast, SameValue}

-- ---- faults in a row

pub none_front : {X : Type 0} (xs ys : List X) → xs ++ ys ≡ [] → xs ≡ []
none_front [] ys none = refl
none_front (x ∷ xs) ys none = absurd (cc)

pub none_rest : {X : Type 0} (xs ys : List X) → xs ++ ys ≡ [] → ys ≡ []
none_rest [] ys none = none
none_rest (x ∷ xs) ys none = absurd (cc)

-- ---- what is read

-- each name that is allowed and used without a fault among the names `m` of the whole program, under its symbol there, is the
-- same scalar or array as among the names `n` of the frame
pub record Reads (allowed : ℕ → Bool) (r : ℕ → ℕ) (n m : Names) (g f : ℕ → ℤ) : Type 0 where
  pub scalar : (x line : ℕ) → allowed x ≡ true → scalar_use (found m (r x)) line ≡ [] → f (slot_number m (r x)) ≡ g (slot_number n x)
  pub array : (x line : ℕ) → allowed x ≡ true → array_use (found m (r x)) line ≡ [] → slot_number m (r x) ≡ slot_number n x

-- ---- parts

with_value-recast : (g f : ℕ → ℤ) (x : Evaluated) (F G : ℤ → ProgramState → Evaluated) → (state_given x).scalars ≡ g →
    ((v : ℤ) (s : ProgramState) → s.scalars ≡ g → G v (with_scalars f s) ≡ recast f (F v s)) → with_value (recast f x) G ≡ recast f (with_value x F)
with_value-recast g f (Given v s) F G kept next = next v s kept
with_value-recast g f (Caught kind line s) F G kept next = refl

where_true-recast : (b : Bool) (f : ℕ → ℤ) (F G F' G' : ProgramState → Evaluated) (s : ProgramState) → G (with_scalars f s) ≡ recast f (F s) → G' (with_scalars f s) ≡ recast f (F' s) →
    where_true b G G' (with_scalars f s) ≡ recast f (where_true b F F' s)
where_true-recast true f F G F' G' s p q = p
where_true-recast false f F G F' G' s p q = q

with_divisor-recast : (b : Bool) (line : ℕ) (divisor value : ℤ) (f : ℕ → ℤ) (s : ProgramState) → with_divisor b line divisor value (with_scalars f s) ≡ recast f (with_divisor b line divisor value s)
with_divisor-recast true line divisor value f s =
    where_true-recast (holds divisor) f (Given value) (Given value) (Caught DivideByZero line) (Caught DivideByZero line) s refl refl
with_divisor-recast false line divisor value f s = refl

pub operate-recast : (op : BinaryOp) (line : ℕ) (a b : ℤ) (f : ℕ → ℤ) (s : ProgramState) → operate op line a b (with_scalars f s) ≡ recast f (operate op line a b s)
operate-recast op line a b f s = with_divisor-recast (divides op) line b (binary_value op a b) f s

at_place-recast : (place : Option ℕ) (line array : ℕ) (f : ℕ → ℤ) (s : ProgramState) →
    at_place place (Caught OutOfBounds line) (loaded array) (with_scalars f s) ≡ recast f (at_place place (Caught OutOfBounds line) (loaded array) s)
at_place-recast None line array f s = refl
at_place-recast (Some i) line array f s = refl

element-recast : (lengths : List ℕ) (array line : ℕ) (index : ℤ) (f : ℕ → ℤ) (s : ProgramState) → element lengths array line index (with_scalars f s) ≡ recast f (element lengths array line index s)
element-recast lengths array line index f s = at_place-recast (place_in (slice_index lengths array) index) line array f s

read_from-recast : (input : List ℤ) (line : ℕ) (f : ℕ → ℤ) (s : ProgramState) → read_from input line (with_scalars f s) ≡ recast f (read_from input line s)
read_from-recast [] line f s = refl
read_from-recast (v ∷ rest) line f s = refl

-- ---- expressions

module _ (lengths : List ℕ) (allowed : ℕ → Bool) (r : ℕ → ℕ) (n m : Names) (g f : ℕ → ℤ) (reads : Reads allowed r n m g f) where
  -- an expression among the names of the frame, and of the whole program
  one : SourceExpression → ProgramState → Evaluated
  one e s = eval lengths (resolved_expression n e) s

  other : SourceExpression → ProgramState → Evaluated
  other e s = eval lengths (resolved_expression m (renamed r e)) s

  Same : SourceExpression → Type 0
  Same e = (s : ProgramState) → s.scalars ≡ g → eval lengths (resolved_expression m (renamed r e)) (with_scalars f s) ≡ recast f (eval lengths (resolved_expression n e) s)

  -- a value, and what follows
  follow : (e : SourceExpression) (F G : ℤ → ProgramState → Evaluated) → Same e →
      ((v : ℤ) (s : ProgramState) → s.scalars ≡ g → G v (with_scalars f s) ≡ recast f (F v s)) → (s : ProgramState) → s.scalars ≡ g →
      with_value (eval lengths (resolved_expression m (renamed r e)) (with_scalars f s)) G ≡ recast f (with_value (eval lengths (resolved_expression n e) s) F)
  unfolding Same
  follow e F G same next s is =
      ap (λ (x : Evaluated). with_value x G) (same s is)
      ∙ with_value-recast g f (eval lengths (resolved_expression n e) s) F G (eval-scalars lengths (resolved_expression n e) s ∙ is) next

  pub eval-recast : (e : SourceExpression) → uses_only allowed e ≡ true → expression_faults m (renamed r e) ≡ [] → (s : ProgramState) → s.scalars ≡ g →
      eval lengths (resolved_expression m (renamed r e)) (with_scalars f s) ≡ recast f (eval lengths (resolved_expression n e) s)
  unfolding uses_only renamed expression_faults resolved_expression Same
  eval-recast (Literal value) fits none s is = refl
  eval-recast (Variable symbol line) fits none s is =
      ap (λ (v : ℤ). Given v (with_scalars f s)) (reads.scalar symbol line fits none ∙ ap (λ (h : ℕ → ℤ). h (slot_number n symbol)) (sym is))
  eval-recast (Input line) fits none s is = read_from-recast s.input line f s
  eval-recast (Indexed symbol line at index) fits none s is =
      let fine = and_true _ _ fits in
      let same = reads.array symbol line fine.0 (none_front _ (expression_faults m (renamed r index)) none) in
      ap (λ (a : ℕ). with_value (eval lengths (resolved_expression m (renamed r index)) (with_scalars f s)) (element lengths a at)) same
      ∙ follow index (element lengths (slot_number n symbol) at) (element lengths (slot_number n symbol) at)
      (eval-recast index fine.1 (none_rest (array_use (found m (r symbol)) line) _ none))
      (λ v t kept. element-recast lengths (slot_number n symbol) at v f t) s is
  eval-recast (Prefixed op operand) fits none s is =
      follow operand (λ a. Given (prefix_value op a)) (λ a. Given (prefix_value op a)) (eval-recast operand fits none) (λ v t kept. refl) s is
  eval-recast (Combined op at left right) fits none s is =
      let fine = and_true _ _ fits in
      follow left (λ a s. with_value (eval lengths (resolved_expression n right) s) (operate op at a))
      (λ a s. with_value (eval lengths (resolved_expression m (renamed r right)) s) (operate op at a))
      (eval-recast left fine.0 (none_front _ (expression_faults m (renamed r right)) none))
      (λ a t kept. follow right (operate op at a) (operate op at a) (eval-recast right fine.1 (none_rest (expression_faults m (renamed r left)) _ none))
      (λ b u still. operate-recast op at a b f u) t kept) s is
  eval-recast (Conjunction left right) fits none s is =
      let fine = and_true _ _ fits in
      follow left (λ a. side a (λ s. with_value (eval lengths (resolved_expression n right) s) truth) (Given (pos 0)))
      (λ a. side a (λ s. with_value (eval lengths (resolved_expression m (renamed r right)) s) truth) (Given (pos 0)))
      (eval-recast left fine.0 (none_front _ (expression_faults m (renamed r right)) none))
      (λ a t kept. where_true-recast (holds a) f (λ s. with_value (eval lengths (resolved_expression n right) s) truth)
      (λ s. with_value (eval lengths (resolved_expression m (renamed r right)) s) truth) (Given (pos 0)) (Given (pos 0)) t
      (follow right truth truth (eval-recast right fine.1 (none_rest (expression_faults m (renamed r left)) _ none)) (λ b u still. refl) t kept) refl) s is
  eval-recast (Disjunction left right) fits none s is =
      let fine = and_true _ _ fits in
      follow left (λ a. side a (Given (pos 1)) (λ s. with_value (eval lengths (resolved_expression n right) s) truth))
      (λ a. side a (Given (pos 1)) (λ s. with_value (eval lengths (resolved_expression m (renamed r right)) s) truth))
      (eval-recast left fine.0 (none_front _ (expression_faults m (renamed r right)) none))
      (λ a t kept. where_true-recast (holds a) f (Given (pos 1)) (Given (pos 1)) (λ s. with_value (eval lengths (resolved_expression n right) s) truth)
      (λ s. with_value (eval lengths (resolved_expression m (renamed r right)) s) truth) t refl
      (follow right truth truth (eval-recast right fine.1 (none_rest (expression_faults m (renamed r left)) _ none)) (λ b u still. refl) t kept)) s is
  eval-recast (Conditional test yes' no') fits none s is =
      let fine = and_true _ _ fits in
      let both = and_true _ _ fine.1 in
      let rest = none_rest (expression_faults m (renamed r test)) _ none in
      follow test (λ a. side a (eval lengths (resolved_expression n yes')) (eval lengths (resolved_expression n no')))
      (λ a. side a (eval lengths (resolved_expression m (renamed r yes'))) (eval lengths (resolved_expression m (renamed r no'))))
      (eval-recast test fine.0 (none_front _ _ none))
      (λ a t kept. where_true-recast (holds a) f (eval lengths (resolved_expression n yes')) (eval lengths (resolved_expression m (renamed r yes')))
      (eval lengths (resolved_expression n no')) (eval lengths (resolved_expression m (renamed r no'))) t
      (eval-recast yes' both.0 (none_front _ (expression_faults m (renamed r no')) rest) t kept)
      (eval-recast no' both.1 (none_rest (expression_faults m (renamed r yes')) _ rest) t kept)) s is

-- an expression gives the same value wherever what is known tells what is read
pub expression-same : (lengths : List ℕ) (allowed : ℕ → Bool) (r : ℕ → ℕ) (n m : Names) (R : Relation) (e : SourceExpression) → ((g f : ℕ → ℤ) → R g f → Reads allowed r n m g f) →
    uses_only allowed e ≡ true → expression_faults m (renamed r e) ≡ [] → SameValue R (eval lengths (resolved_expression n e)) (eval lengths (resolved_expression m (renamed r e)))
expression-same lengths allowed r n m R e reads fits none = record {
  same = λ a f s. eval-recast lengths allowed r n m a.scalars f (reads a.scalars f s) e fits none a refl;
  keeps = λ a. eval-scalars lengths (resolved_expression n e) a;
}
