-- What a trace counts: a print for each number that is printed, and a read for each that is taken from the input.
use Rattle.std.proofs.Common.{◌≡◌, ℕ, zero, suc, ◌+◌, zero-add, Bool, true, false, List, [], ◌∷◌, ◌++◌, length, Option, Some, None, refl, ◌∙◌, ap, arith, length-append}
use Rattle.std.specs.Prelude.{ℤ, pos, slice_index}
use Rattle.std.specs.List.{count_by}
use Rattle.std.proofs.lemmas.List.Sums.{sum_by-append}
use Rattle.pc_word.specs.declared.item.TrapKind.TheVariants.{DivideByZero, OutOfBounds}
use Rattle.pc_word.specs.declared.item.OpCode.TheVariants as codes
use Rattle.pc_word.specs.Word.{holds}
use Rattle.pc_word.specs.Items.{place_in}
use Rattle.pc_syntax.specs.declared.operator.BinaryOp.{BinaryOp}
use Rattle.pc_syntax.specs.Source.{ResolvedProgram, SourceExpression, Literal, Variable, Input, Indexed, Prefixed, Combined, Conjunction}
use Rattle.pc_syntax.specs.Source.{Disjunction, Conditional, SourceStatement, SourceList, OptionalStatement, Scope, ScalarDeclaration}
use Rattle.pc_syntax.specs.Source.{ArrayDeclaration, Assignment, Printing, Evaluation, Branch, WhileLoop, DoLoop, ForLoop, BreakOut, ContinueOn}
use Rattle.pc_syntax.specs.Source.{ReturnFrom, Nothing, Absent, Present, No_more, More}
use Rattle.pc_meaning.specs.ProgramState.{ProgramState, source_start, set_turns, add_printed}
use Rattle.pc_meaning.specs.Expression.{Evaluated, Given, Caught, with_value, where_true, side, prefix_value, binary_value, divides, with_divisor}
use Rattle.pc_meaning.specs.Expression.{operate, at_place, loaded, element, read_from, truth, eval, state_given}
use Rattle.pc_meaning.specs.Statement.{Completion, GoesOn, Breaks, Continues, Returns, Traps, Spent, state_at_end, do_with, then_do, after_body}
use Rattle.pc_meaning.specs.Statement.{assign, store, with_place, update, assignment, declare, turn_from, turn_of, round_of, loop, loop_from}
use Rattle.pc_meaning.specs.Statement.{execute, execute_optional, execute_list}
use Rattle.pc_meaning.specs.Lowered.{prefix_code, binary_code}
use Rattle.pc_meaning.specs.SourceRun.{outcome_of, source_run}
use Rattle.pc_meaning.specs.Trace.{Kind, Binary_node, Copy_node, Load_node, Store_node, Print_node, Test_node, is_print, is_read, traced, traced_on}
use Rattle.pc_meaning.specs.Trace.{traced_body, tested, passes_nothing, passes, read_trace, place_trace, divisor_trace, operation_trace, trace}
use Rattle.pc_meaning.specs.Trace.{update_trace, assignment_trace, declaration_trace, turn_trace_from, turn_trace, round_trace, loop_trace}
use Rattle.pc_meaning.specs.Trace.{loop_trace_from, statement_trace, optional_trace, list_trace, trace_of}
use Rattle.pc_meaning.proofs.Expressions.{}
use Rattle.pc_meaning.proofs.SourceRuns.{shown-printed}

-- from the one state to the other, the kinds count what was printed and what was read
pub record Counts (s t : ProgramState) (kinds : List Kind) : Type 0 where
  pub prints : length t.printed ≡ length s.printed + count_by is_print kinds
  pub reads : length s.input ≡ length t.input + count_by is_read kinds

-- the counts of two lists, one after the other
count_by-append : (f : Kind → Bool) (xs ys : List Kind) → count_by f (xs ++ ys) ≡ count_by f xs + count_by f ys
count_by-append f xs ys = sum_by-append _ xs ys

-- nothing is passed
Counts-nothing : (s : ProgramState) → Counts s s []
Counts-nothing s = record { prints = omega arith; reads = omega arith }

-- one after another
Counts-trans : (s t u : ProgramState) (xs ys : List Kind) → Counts s t xs → Counts t u ys → Counts s u (xs ++ ys)
Counts-trans s t u xs ys p q = record {
  prints = rw count_by-append (omega (arith, p.prints, q.prints));
  reads = rw count_by-append (omega (arith, p.reads, q.reads));
}

-- a test counts nothing
Counts-test : (s t : ProgramState) (xs : List Kind) → Counts s t xs → Counts s t (Test_node ∷ xs)
Counts-test s t xs p = record { prints = omega (arith, p.prints); reads = omega (arith, p.reads) }

-- a load counts nothing
Counts-load : (s t : ProgramState) (xs : List Kind) → Counts s t xs → Counts s t (Load_node ∷ xs)
Counts-load s t xs p = record { prints = omega (arith, p.prints); reads = omega (arith, p.reads) }

-- an operator counts nothing
Counts-binary : (s t : ProgramState) (op : _) (xs : List Kind) → Counts s t xs → Counts s t (Binary_node op ∷ xs)
Counts-binary s t op xs p = record { prints = omega (arith, p.prints); reads = omega (arith, p.reads) }

-- ---- one after another

-- a value, and what is passed after it
traced-counts : (s : ProgramState) (x : Evaluated) (ks : List Kind) (next : ℤ → ProgramState → Evaluated) (after : ℤ → ProgramState → List Kind)
    → Counts s (state_given x) ks → ((v : ℤ) (t : ProgramState) → Counts t (state_given (next v t)) (after v t)) → Counts s (state_given (with_value x next)) (traced ks x after)
traced-counts s (Given v t) ks next after p q = Counts-trans s t (state_given (next v t)) ks (after v t) p (q v t)
traced-counts s (Caught kind line t) ks next after p q = p

-- a value, and what a statement passes after it
done-counts : (s : ProgramState) (x : Evaluated) (ks : List Kind) (next : ℤ → ProgramState → Completion) (after : ℤ → ProgramState → List Kind)
    → Counts s (state_given x) ks → ((v : ℤ) (t : ProgramState) → Counts t (state_at_end (next v t)) (after v t)) → Counts s (state_at_end (do_with x next)) (traced ks x after)
done-counts s (Given v t) ks next after p q = Counts-trans s t (state_at_end (next v t)) ks (after v t) p (q v t)
done-counts s (Caught kind line t) ks next after p q = p

-- a statement, and what is passed after it
then-counts : (s : ProgramState) (x : Completion) (ks : List Kind) (next : ProgramState → Completion) (after : ProgramState → List Kind)
    → Counts s (state_at_end x) ks → ((t : ProgramState) → Counts t (state_at_end (next t)) (after t)) → Counts s (state_at_end (then_do x next)) (traced_on ks x after)
then-counts s (GoesOn t) ks next after p q = Counts-trans s t (state_at_end (next t)) ks (after t) p (q t)
then-counts s (Breaks t) ks next after p q = p
then-counts s (Continues t) ks next after p q = p
then-counts s (Returns t) ks next after p q = p
then-counts s (Traps kind line t) ks next after p q = p
then-counts s (Spent t) ks next after p q = p

-- the body of a loop, and what is passed after it
body-counts : (s : ProgramState) (x : Completion) (ks : List Kind) (next : ProgramState → Completion) (after : ProgramState → List Kind)
    → Counts s (state_at_end x) ks → ((t : ProgramState) → Counts t (state_at_end (next t)) (after t)) → Counts s (state_at_end (after_body x next)) (traced_body ks x after)
body-counts s (GoesOn t) ks next after p q = Counts-trans s t (state_at_end (next t)) ks (after t) p (q t)
body-counts s (Breaks t) ks next after p q = p
body-counts s (Continues t) ks next after p q = Counts-trans s t (state_at_end (next t)) ks (after t) p (q t)
body-counts s (Returns t) ks next after p q = p
body-counts s (Traps kind line t) ks next after p q = p
body-counts s (Spent t) ks next after p q = p

-- ---- choices

module _ {X : Type 0} (end_of : X → ProgramState) where
  -- the two sides of a test
  where_true-counts : (b : Bool) (f g : ProgramState → X) (l m : ProgramState → List Kind) → ((s : ProgramState) → Counts s (end_of (f s)) (l s)) → ((s : ProgramState) → Counts s (end_of (g s)) (m s))
      → (s : ProgramState) → Counts s (end_of (where_true b f g s)) (where_true b l m s)
  where_true-counts true f g l m p q s = p s
  where_true-counts false f g l m p q s = q s

  -- a test, and the side that is taken
  side-counts : (v : ℤ) (f g : ProgramState → X) (l m : ProgramState → List Kind) → ((s : ProgramState) → Counts s (end_of (f s)) (l s)) → ((s : ProgramState) → Counts s (end_of (g s)) (m s))
      → (s : ProgramState) → Counts s (end_of (side v f g s)) (tested (side v l m) s)
  side-counts v f g l m p q s =
      Counts-test s (end_of (side v f g s)) (side v l m s) (where_true-counts (holds v) f g l m p q s)

  -- what is done at a place, or where the index was outside
  at_place-counts : (place : Option ℕ) (outside : ProgramState → X) (next : ℕ → ProgramState → X) (after : ℕ → ProgramState → List Kind)
      → ((s : ProgramState) → Counts s (end_of (outside s)) []) → ((i : ℕ) (s : ProgramState) → Counts s (end_of (next i s)) (after i s))
      → (s : ProgramState) → Counts s (end_of (at_place place outside next s)) (at_place place passes_nothing after s)
  at_place-counts None outside next after p q s = p s
  at_place-counts (Some i) outside next after p q s = q i s

  -- a bound test, and what is done at the place
  place-counts : (lengths : List ℕ) (array : ℕ) (index : ℤ) (outside : ProgramState → X) (next : ℕ → ProgramState → X) (after : ℕ → ProgramState → List Kind)
      → ((s : ProgramState) → Counts s (end_of (outside s)) []) → ((i : ℕ) (s : ProgramState) → Counts s (end_of (next i s)) (after i s))
      → (s : ProgramState) → Counts s (end_of (at_place (place_in (slice_index lengths array) index) outside next s)) (place_trace lengths array index after s)
  place-counts lengths array index outside next after p q s =
      let place = place_in (slice_index lengths array) index in
      let t = end_of (at_place place outside next s) in
      let kinds = at_place place passes_nothing after s in
      Counts-binary s t codes.Below (Test_node ∷ kinds) (Counts-test s t kinds (at_place-counts place outside next after p q s))

-- ---- expressions

-- one operation that neither prints nor reads
Counts-copy : (s : ProgramState) → Counts s s (Copy_node ∷ [])
Counts-copy s = record { prints = omega arith; reads = omega arith }

-- one operator alone
Counts-operator : (s : ProgramState) (op : _) → Counts s s (Binary_node op ∷ [])
Counts-operator s op = Counts-binary s s op [] (Counts-nothing s)

-- the test of a divisor, and the operator
with_divisor-counts : (b : Bool) (line : ℕ) (divisor value : ℤ) (op : _) (s : ProgramState) → Counts s (state_given (with_divisor b line divisor value s)) (divisor_trace b divisor (Binary_node op) s)
with_divisor-counts true line divisor value op s =
    side-counts state_given divisor (Given value) (Caught DivideByZero line) (passes (Binary_node op)) passes_nothing (λ t. Counts-operator t op) Counts-nothing s
with_divisor-counts false line divisor value op s = Counts-operator s op

-- a binary operator on its two values
operate-counts : (op : BinaryOp) (line : ℕ) (a b : ℤ) (s : ProgramState) → Counts s (state_given (operate op line a b s)) (operation_trace op b s)
operate-counts op line a b s = with_divisor-counts (divides op) line b (binary_value op a b) (binary_code op) s

-- a read
read-counts : (s : ProgramState) (input : List ℤ) (line : ℕ) → s.input ≡ input → Counts s (state_given (read_from input line s)) (read_trace input)
read-counts s [] line e = record { prints = omega arith; reads = omega arith }
read-counts s (v ∷ rest) line e = record { prints = omega arith; reads = rw e (omega arith) }

-- the right operand of `&&` and `||`
right-counts : (s : ProgramState) (x : Evaluated) (ks : List Kind) → Counts s (state_given x) ks → Counts s (state_given (with_value x truth)) (traced ks x (λ b. passes (Binary_node codes.Unequal)))
right-counts s x ks p = traced-counts s x ks truth (λ b. passes (Binary_node codes.Unequal)) p (λ v t. Counts-operator t codes.Unequal)

-- the chosen part of `?:`
chosen-counts : (s : ProgramState) (x : Evaluated) (ks : List Kind) → Counts s (state_given x) ks → Counts s (state_given x) (traced ks x (λ b. passes Copy_node))
chosen-counts s (Given v t) ks p = Counts-trans s t t ks (Copy_node ∷ []) p (Counts-copy t)
chosen-counts s (Caught kind line t) ks p = p

-- every expression
eval-counts : (lengths : List ℕ) (e : SourceExpression) (s : ProgramState) → Counts s (state_given (eval lengths e s)) (trace lengths e s)
eval-counts lengths (Literal value) s = Counts-nothing s
eval-counts lengths (Variable scalar line) s = Counts-nothing s
eval-counts lengths (Input line) s = read-counts s s.input line refl
eval-counts lengths (Indexed array line at index) s =
    traced-counts s (eval lengths index s) (trace lengths index s) (element lengths array at) (λ i. place_trace lengths array i (λ place. passes Load_node)) (eval-counts lengths index s)
    (λ i. place-counts state_given lengths array i (Caught OutOfBounds at) (loaded array) (λ place. passes Load_node) Counts-nothing (λ place t. Counts-load t t [] (Counts-nothing t)))
eval-counts lengths (Prefixed op operand) s =
    traced-counts s (eval lengths operand s) (trace lengths operand s) (λ a. Given (prefix_value op a)) (λ a. passes (Binary_node (prefix_code op))) (eval-counts lengths operand s)
    (λ a t. Counts-operator t (prefix_code op))
eval-counts lengths (Combined op at left right) s =
    traced-counts s (eval lengths left s) (trace lengths left s) (λ a t. with_value (eval lengths right t) (operate op at a))
    (λ a t. traced (trace lengths right t) (eval lengths right t) (operation_trace op)) (eval-counts lengths left s)
    (λ a t. traced-counts t (eval lengths right t) (trace lengths right t) (operate op at a) (operation_trace op) (eval-counts lengths right t) (operate-counts op at a))
eval-counts lengths (Conjunction left right) s =
    let value = λ (t : ProgramState). with_value (eval lengths right t) truth in
    let passed = λ (t : ProgramState). traced (trace lengths right t) (eval lengths right t) (λ b. passes (Binary_node codes.Unequal)) in
    traced-counts s (eval lengths left s) (trace lengths left s) (λ a. side a value (Given (pos 0))) (λ a. tested (side a passed (passes Copy_node))) (eval-counts lengths left s)
    (λ a. side-counts state_given a value (Given (pos 0)) passed (passes Copy_node)
    (λ t. right-counts t (eval lengths right t) (trace lengths right t) (eval-counts lengths right t)) Counts-copy)
eval-counts lengths (Disjunction left right) s =
    let value = λ (t : ProgramState). with_value (eval lengths right t) truth in
    let passed = λ (t : ProgramState). traced (trace lengths right t) (eval lengths right t) (λ b. passes (Binary_node codes.Unequal)) in
    traced-counts s (eval lengths left s) (trace lengths left s) (λ a. side a (Given (pos 1)) value) (λ a. tested (side a (passes Copy_node) passed)) (eval-counts lengths left s)
    (λ a. side-counts state_given a (Given (pos 1)) value (passes Copy_node) passed Counts-copy
    (λ t. right-counts t (eval lengths right t) (trace lengths right t) (eval-counts lengths right t)))
eval-counts lengths (Conditional test one other) s =
    let first = λ (t : ProgramState). traced (trace lengths one t) (eval lengths one t) (λ b. passes Copy_node) in
    let second = λ (t : ProgramState). traced (trace lengths other t) (eval lengths other t) (λ b. passes Copy_node) in
    traced-counts s (eval lengths test s) (trace lengths test s) (λ a. side a (eval lengths one) (eval lengths other)) (λ a. tested (side a first second)) (eval-counts lengths test s)
    (λ a. side-counts state_given a (eval lengths one) (eval lengths other) first second
    (λ t. chosen-counts t (eval lengths one t) (trace lengths one t) (eval-counts lengths one t))
    (λ t. chosen-counts t (eval lengths other t) (trace lengths other t) (eval-counts lengths other t)))

-- a value that is dropped
dropped-counts : (s : ProgramState) (x : Evaluated) (ks : List Kind) (end : ProgramState → Completion) → ((t : ProgramState) → state_at_end (end t) ≡ t) →
    Counts s (state_given x) ks → Counts s (state_at_end (do_with x (λ v. end))) ks
dropped-counts s (Given v t) ks end e p = rw e p
dropped-counts s (Caught kind line t) ks end e p = p

-- ---- assignments

-- a value that is put into a scalar
assign-counts : (scalar : ℕ) (v : ℤ) (s : ProgramState) → Counts s (state_at_end (assign scalar v s)) (Copy_node ∷ [])
assign-counts scalar v s = record { prints = omega arith; reads = omega arith }

-- a value that is put into an element
store-counts : (array place : ℕ) (v : ℤ) (s : ProgramState) → Counts s (state_at_end (store array place v s)) (Store_node ∷ [])
store-counts array place v s = record { prints = omega arith; reads = omega arith }

-- a print
print-counts : (v : ℤ) (s : ProgramState) → Counts s (add_printed v s) (Print_node ∷ [])
print-counts v s = record { prints = rw length-append refl; reads = omega arith }

-- an element that is changed
update-counts : (lengths : List ℕ) (array : ℕ) (op : BinaryOp) (at : ℕ) (value : SourceExpression) (place : ℕ) (s : ProgramState)
    → Counts s (state_at_end (update lengths array op at value place s)) (update_trace lengths array op at value place s)
update-counts lengths array op at value place s =
    let old = s.cells array place in
    let next = λ (b : ℤ) (t : ProgramState). do_with (operate op at old b t) (store array place) in
    let after = λ (b : ℤ) (t : ProgramState). traced (operation_trace op b t) (operate op at old b t) (λ v. passes Store_node) in
    Counts-load s (state_at_end (do_with (eval lengths value s) next)) (traced (trace lengths value s) (eval lengths value s) after)
    (done-counts s (eval lengths value s) (trace lengths value s) next after (eval-counts lengths value s)
    (λ b t. done-counts t (operate op at old b t) (operation_trace op b t) (store array place) (λ v. passes Store_node) (operate-counts op at old b t) (store-counts array place)))

-- a value that is put into a scalar
put-counts : (lengths : List ℕ) (name : ℕ) (value : SourceExpression) (s : ProgramState)
    → Counts s (state_at_end (do_with (eval lengths value s) (assign name))) (traced (trace lengths value s) (eval lengths value s) (λ v. passes Copy_node))
put-counts lengths name value s =
    done-counts s (eval lengths value s) (trace lengths value s) (assign name) (λ v. passes Copy_node) (eval-counts lengths value s) (assign-counts name)

-- every assignment
assignment-counts : (lengths : List ℕ) (name line : ℕ) (index : Option SourceExpression) (bracket : ℕ) (op : Option BinaryOp) (at : ℕ) (value : SourceExpression) (s : ProgramState)
    → Counts s (state_at_end (assignment lengths name line index bracket op at value s)) (assignment_trace lengths name line index op at value s)
assignment-counts lengths name line None bracket None at value s = put-counts lengths name value s
assignment-counts lengths name line None bracket (Some op) at value s = put-counts lengths name (Combined op at (Variable name line) value) s
assignment-counts lengths name line (Some index) bracket None at value s =
    let put = λ (i v : ℤ). with_place lengths name bracket i (λ place. store name place v) in
    let passed = λ (i v : ℤ). place_trace lengths name i (λ place. passes Store_node) in
    done-counts s (eval lengths index s) (trace lengths index s) (λ i t. do_with (eval lengths value t) (put i))
    (λ i t. traced (trace lengths value t) (eval lengths value t) (passed i)) (eval-counts lengths index s)
    (λ i t. done-counts t (eval lengths value t) (trace lengths value t) (put i) (passed i) (eval-counts lengths value t)
    (λ v. place-counts state_at_end lengths name i (Traps OutOfBounds bracket) (λ place. store name place v) (λ place. passes Store_node) Counts-nothing (λ place. store-counts name place v)))
assignment-counts lengths name line (Some index) bracket (Some op) at value s =
    let put = λ (i : ℤ). with_place lengths name bracket i (update lengths name op at value) in
    let passed = λ (i : ℤ). place_trace lengths name i (update_trace lengths name op at value) in
    done-counts s (eval lengths index s) (trace lengths index s) put passed (eval-counts lengths index s)
    (λ i. place-counts state_at_end lengths name i (Traps OutOfBounds bracket) (update lengths name op at value) (update_trace lengths name op at value) Counts-nothing
    (update-counts lengths name op at value))

-- every declarator
declare-counts : (lengths : List ℕ) (name : ℕ) (initial : Option SourceExpression) (s : ProgramState) → Counts s (state_at_end (declare lengths name initial s)) (declaration_trace lengths initial s)
declare-counts lengths name None s = assign-counts name (pos 0) s
declare-counts lengths name (Some initial) s = put-counts lengths name initial s

-- ---- loops

-- a turn, where one is left
turn_from-counts : (left : ℕ) (body : ProgramState → Completion) (passed : ProgramState → List Kind) → ((s : ProgramState) → Counts s (state_at_end (body s)) (passed s)) →
    (s : ProgramState) → Counts s (state_at_end (turn_from left body s)) (turn_trace_from left passed s)
turn_from-counts zero body passed p s = Counts-nothing s
turn_from-counts (suc left) body passed p s =
    let q = p (set_turns left s) in
    record { prints = q.prints; reads = q.reads }

module _ (test : ProgramState → Evaluated) (test_trace : ProgramState → List Kind) (step : ProgramState → Completion) (step_trace : ProgramState → List Kind)
    (body : ProgramState → Completion) (body_trace : ProgramState → List Kind)
    (test-counts : (s : ProgramState) → Counts s (state_given (test s)) (test_trace s))
    (step-counts : (s : ProgramState) → Counts s (state_at_end (step s)) (step_trace s))
    (body-of : (s : ProgramState) → Counts s (state_at_end (body s)) (body_trace s)) where
  -- a turn
  turn-counts : (next : ProgramState → Completion) (after : ProgramState → List Kind) → ((s : ProgramState) → Counts s (state_at_end (next s)) (after s))
      → (s : ProgramState) → Counts s (state_at_end (turn_of (round_of body step next) s)) (turn_trace (round_trace body body_trace step step_trace after) s)
  turn-counts next after p s =
      turn_from-counts s.turns (round_of body step next) (round_trace body body_trace step step_trace after)
      (λ t. body-counts t (body t) (body_trace t) (λ u. then_do (step u) next) (λ u. traced_on (step_trace u) (step u) after) (body-of t)
      (λ u. then-counts u (step u) (step_trace u) next after (step-counts u) p)) s

  -- a loop
  loop-counts : (tests : ℕ) (s : ProgramState) → Counts s (state_at_end (loop tests test step body s)) (loop_trace tests test test_trace step step_trace body body_trace s)
  loop-counts zero s = Counts-nothing s
  loop-counts (suc tests) s =
      let next = loop tests test step body in
      let after = loop_trace tests test test_trace step step_trace body body_trace in
      let turn = turn_of (round_of body step next) in
      let passed = turn_trace (round_trace body body_trace step step_trace after) in
      done-counts s (test s) (test_trace s) (λ v. side v turn GoesOn) (λ v. tested (side v passed passes_nothing)) (test-counts s)
      (λ v. side-counts state_at_end v turn GoesOn passed passes_nothing (turn-counts next after (loop-counts tests)) Counts-nothing)

  -- a loop from a state
  loop_from-counts : (s : ProgramState) → Counts s (state_at_end (loop_from test step body s)) (loop_trace_from test test_trace step step_trace body body_trace s)
  loop_from-counts s = loop-counts (suc s.turns) s

-- ---- statements

-- what is left out
abbrev nothing-counts : (s : ProgramState) → Counts s (state_at_end (GoesOn s)) (passes_nothing s)
nothing-counts s = Counts-nothing s

mutual
  -- every statement
  execute-counts : (lengths : List ℕ) (statement : SourceStatement) (s : ProgramState) → Counts s (state_at_end (execute lengths statement s)) (statement_trace lengths statement s)
  execute-counts lengths (Scope items) s = execute_list-counts lengths items s
  execute-counts lengths (ScalarDeclaration name line initial) s = declare-counts lengths name initial s
  execute-counts lengths (ArrayDeclaration name line at length values) s = Counts-nothing s
  execute-counts lengths (Assignment name line index bracket op at value) s = assignment-counts lengths name line index bracket op at value s
  execute-counts lengths (Printing line value) s =
      done-counts s (eval lengths value s) (trace lengths value s) (λ v t. GoesOn (add_printed v t)) (λ v. passes Print_node) (eval-counts lengths value s) print-counts
  execute-counts lengths (Evaluation line value) s = dropped-counts s (eval lengths value s) (trace lengths value s) GoesOn (λ t. refl) (eval-counts lengths value s)
  execute-counts lengths (Branch line test body otherwise) s =
      done-counts s (eval lengths test s) (trace lengths test s) (λ v. side v (execute lengths body) (execute_optional lengths otherwise))
      (λ v. tested (side v (statement_trace lengths body) (optional_trace lengths otherwise))) (eval-counts lengths test s)
      (λ v. side-counts state_at_end v (execute lengths body) (execute_optional lengths otherwise) (statement_trace lengths body) (optional_trace lengths otherwise)
      (execute-counts lengths body) (execute_optional-counts lengths otherwise))
  execute-counts lengths (WhileLoop line test body) s =
      loop_from-counts (eval lengths test) (trace lengths test) GoesOn passes_nothing (execute lengths body) (statement_trace lengths body)
      (eval-counts lengths test) nothing-counts (execute-counts lengths body) s
  execute-counts lengths (DoLoop line body test) s =
      let next = loop_from (eval lengths test) GoesOn (execute lengths body) in
      let after = loop_trace_from (eval lengths test) (trace lengths test) GoesOn passes_nothing (execute lengths body) (statement_trace lengths body) in
      turn-counts (eval lengths test) (trace lengths test) GoesOn passes_nothing (execute lengths body) (statement_trace lengths body)
      (eval-counts lengths test) nothing-counts (execute-counts lengths body) next after
      (loop_from-counts (eval lengths test) (trace lengths test) GoesOn passes_nothing (execute lengths body) (statement_trace lengths body)
      (eval-counts lengths test) nothing-counts (execute-counts lengths body)) s
  execute-counts lengths (ForLoop line first test step body) s =
      let next = loop_from (eval lengths test) (execute_optional lengths step) (execute lengths body) in
      let after = loop_trace_from (eval lengths test) (trace lengths test) (execute_optional lengths step) (optional_trace lengths step) (execute lengths body) (statement_trace lengths body) in
      then-counts s (execute_list lengths first s) (list_trace lengths first s) next after (execute_list-counts lengths first s)
      (loop_from-counts (eval lengths test) (trace lengths test) (execute_optional lengths step) (optional_trace lengths step) (execute lengths body) (statement_trace lengths body)
      (eval-counts lengths test) (execute_optional-counts lengths step) (execute-counts lengths body))
  execute-counts lengths (BreakOut line) s = Counts-nothing s
  execute-counts lengths (ContinueOn line) s = Counts-nothing s
  execute-counts lengths (ReturnFrom line value) s = dropped-counts s (eval lengths value s) (trace lengths value s) Returns (λ t. refl) (eval-counts lengths value s)
  execute-counts lengths Nothing s = Counts-nothing s

  -- every statement that may be left out
  execute_optional-counts : (lengths : List ℕ) (statement : OptionalStatement) (s : ProgramState) → Counts s (state_at_end (execute_optional lengths statement s)) (optional_trace lengths statement s)
  execute_optional-counts lengths Absent s = Counts-nothing s
  execute_optional-counts lengths (Present statement) s = execute-counts lengths statement s

  -- every list of statements
  execute_list-counts : (lengths : List ℕ) (items : SourceList) (s : ProgramState) → Counts s (state_at_end (execute_list lengths items s)) (list_trace lengths items s)
  execute_list-counts lengths No_more s = Counts-nothing s
  execute_list-counts lengths (More first rest) s =
      then-counts s (execute lengths first s) (statement_trace lengths first s) (execute_list lengths rest) (list_trace lengths rest)
      (execute-counts lengths first s) (execute_list-counts lengths rest)

-- ---- programs

-- what a program's outcome and trace count
outcome-counts : (program : ResolvedProgram) (input : List ℤ) (n : ℕ) → Counts (source_start program.initial input n) (state_at_end (outcome_of program input n)) (trace_of program input n)
unfolding outcome_of trace_of
outcome-counts program input n = execute_list-counts program.arrays program.body (source_start program.initial input n)

-- as many prints are passed as numbers are printed
pub trace_of-prints : (program : ResolvedProgram) (input : List ℤ) (n : ℕ) → length (source_run program input n).printed ≡ count_by is_print (trace_of program input n)
unfolding source_run
trace_of-prints program input n =
    let printed = (outcome-counts program input n).prints in
    ap length (shown-printed (outcome_of program input n)) ∙ printed ∙ zero-add (count_by is_print (trace_of program input n))

-- as many reads are passed as numbers of the input are taken
pub trace_of-reads : (program : ResolvedProgram) (input : List ℤ) (n : ℕ)
    → length input ≡ length (state_at_end (outcome_of program input n)).input + count_by is_read (trace_of program input n)
trace_of-reads program input n = (outcome-counts program input n).reads
