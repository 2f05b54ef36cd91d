-- What more turns change of what a statement does: nothing where its turns were not spent; and where they were, more
-- is printed after what was printed.
use Rattle.std.proofs.Common.{◌≡◌, ℕ, zero, suc, ◌+◌, ◌≤◌, Bool, true, false, List, [], ◌∷◌, Option, Some, None, refl, sym, ap, subst, arith}
use Rattle.std.specs.Prelude.{ℤ, pos, slice_index}
use Rattle.pc_word.specs.declared.item.TrapKind.{TrapKind}
use Rattle.pc_word.specs.declared.item.TrapKind.TheVariants.{OutOfBounds}
use Rattle.pc_word.specs.Word.{holds}
use Rattle.pc_word.specs.Run.{Begins}
use Rattle.pc_word.proofs.Runs.{Begins-refl, Begins-append, Begins-trans}
use Rattle.pc_word.specs.Items.{place_in}
use Rattle.pc_syntax.specs.declared.operator.BinaryOp.{BinaryOp}
use Rattle.pc_syntax.specs.Source.{SourceExpression, Variable, Combined, SourceStatement, SourceList, OptionalStatement, Scope, ScalarDeclaration}
use Rattle.pc_syntax.specs.Source.{ArrayDeclaration, Assignment, Printing, Evaluation, Branch, WhileLoop, DoLoop, ForLoop, BreakOut, ContinueOn}
use Rattle.pc_syntax.specs.Source.{ReturnFrom, Nothing, Absent, Present, No_more, More}
use Rattle.pc_meaning.specs.ProgramState.{ProgramState, set_turns, add_printed}
use Rattle.pc_meaning.specs.Expression.{Evaluated, Given, Caught, where_true, side, operate, at_place, eval, state_given}
use Rattle.pc_meaning.specs.Statement.{Completion, GoesOn, Breaks, Continues, Returns, Traps, Spent, state_at_end, do_with, then_do, after_body}
use Rattle.pc_meaning.specs.Statement.{assign, store, with_place, update, assignment, declare, turn_from, turn_of, round_of, loop, loop_from}
use Rattle.pc_meaning.specs.Statement.{do_loop, execute, execute_optional, execute_list}
use Rattle.pc_meaning.proofs.Expressions.{with_more, shifted, Quiet, eval-quiet, operate-quiet}

-- one state has printed what the other has, and maybe more
abbrev pub PrintsOn : ProgramState → ProgramState → Type 0
PrintsOn s t = Begins s.printed t.printed

-- with so many turns more, the same outcome; or where the turns were spent, one that has printed on
abbrev pub Extends : ℕ → Completion → Completion → Type 0
Extends k (GoesOn s) y = y ≡ GoesOn (with_more k s)
Extends k (Breaks s) y = y ≡ Breaks (with_more k s)
Extends k (Continues s) y = y ≡ Continues (with_more k s)
Extends k (Returns s) y = y ≡ Returns (with_more k s)
Extends k (Traps kind line s) y = y ≡ Traps kind line (with_more k s)
Extends k (Spent s) y = PrintsOn s (state_at_end y)

-- the second prints on from where it begins, has no more turns left than there, and does with more turns what the first
-- does
pub record Steady (f g : ProgramState → Completion) : Type 0 where
  pub prints_on : (s : ProgramState) → PrintsOn s (state_at_end (g s))
  pub turns_fall : (s : ProgramState) → (state_at_end (g s)).turns ≤ s.turns
  pub extends : (k : ℕ) (s : ProgramState) → Extends k (f s) (g (with_more k s))

-- printing on from where something has printed on
prints_on_trans : (s t u : ProgramState) → PrintsOn s t → PrintsOn t u → PrintsOn s u
prints_on_trans s t u p q = Begins-trans s.printed t.printed u.printed p q

-- ---- what is done with a value

-- what follows a value prints on
do_with-prints : (x : Evaluated) (next : ℤ → ProgramState → Completion) → ((v : ℤ) (s : ProgramState) → PrintsOn s (state_at_end (next v s))) → PrintsOn (state_given x) (state_at_end (do_with x next))
do_with-prints (Given v s) next q = q v s
do_with-prints (Caught kind line s) next q = Begins-refl s.printed

-- what follows a value starts turns, and gives none back
do_with-falls : (x : Evaluated) (next : ℤ → ProgramState → Completion) → ((v : ℤ) (s : ProgramState) → (state_at_end (next v s)).turns ≤ s.turns) →
    (state_at_end (do_with x next)).turns ≤ (state_given x).turns
do_with-falls (Given v s) next q = q v s
do_with-falls (Caught kind line s) next q = omega arith

-- what follows a value, with more turns
do_with-extends : (k : ℕ) (x : Evaluated) (next next' : ℤ → ProgramState → Completion) → ((v : ℤ) → Steady (next v) (next' v)) → Extends k (do_with x next) (do_with (shifted k x) next')
do_with-extends k (Given v s) next next' q = (q v).extends k s
do_with-extends k (Caught kind line s) next next' q = refl

-- a value, and what follows it
pub do_with-steady : (f : ProgramState → Evaluated) (next next' : ℤ → ProgramState → Completion) → Quiet f → ((v : ℤ) → Steady (next v) (next' v)) →
    Steady (λ s. do_with (f s) next) (λ s. do_with (f s) next')
do_with-steady f next next' p q = record {
  prints_on = λ s. subst (λ (l : List ℤ). Begins l (state_at_end (do_with (f s) next')).printed) (p.prints_nothing s) (do_with-prints (f s) next' (λ v. (q v).prints_on));
  turns_fall = λ s. subst (λ (n : ℕ). (state_at_end (do_with (f s) next')).turns ≤ n) (p.keeps_turns s) (do_with-falls (f s) next' (λ v. (q v).turns_fall));
  extends = λ k s. subst (λ (x : Evaluated). Extends k (do_with (f s) next) (do_with x next')) (sym (p.shifts k s)) (do_with-extends k (f s) next next' q);
}

-- ---- one after another

-- what follows a statement prints on
then_do-prints : (x : Completion) (next : ProgramState → Completion) → ((s : ProgramState) → PrintsOn s (state_at_end (next s))) → PrintsOn (state_at_end x) (state_at_end (then_do x next))
then_do-prints (GoesOn s) next q = q s
then_do-prints (Breaks s) next q = Begins-refl s.printed
then_do-prints (Continues s) next q = Begins-refl s.printed
then_do-prints (Returns s) next q = Begins-refl s.printed
then_do-prints (Traps kind line s) next q = Begins-refl s.printed
then_do-prints (Spent s) next q = Begins-refl s.printed

-- what follows a statement starts turns, and gives none back
then_do-falls : (x : Completion) (next : ProgramState → Completion) → ((s : ProgramState) → (state_at_end (next s)).turns ≤ s.turns) → (state_at_end (then_do x next)).turns ≤ (state_at_end x).turns
then_do-falls (GoesOn s) next q = q s
then_do-falls (Breaks s) next q = omega arith
then_do-falls (Continues s) next q = omega arith
then_do-falls (Returns s) next q = omega arith
then_do-falls (Traps kind line s) next q = omega arith
then_do-falls (Spent s) next q = omega arith

-- what follows a statement, with more turns
then_do-extends : (k : ℕ) (x y : Completion) (next next' : ProgramState → Completion) → Extends k x y → Steady next next' → Extends k (then_do x next) (then_do y next')
then_do-extends k (GoesOn s) y next next' e q = subst (λ (o : Completion). Extends k (next s) (then_do o next')) (sym e) (q.extends k s)
then_do-extends k (Breaks s) y next next' e q = ap (λ (o : Completion). then_do o next') e
then_do-extends k (Continues s) y next next' e q = ap (λ (o : Completion). then_do o next') e
then_do-extends k (Returns s) y next next' e q = ap (λ (o : Completion). then_do o next') e
then_do-extends k (Traps kind line s) y next next' e q = ap (λ (o : Completion). then_do o next') e
then_do-extends k (Spent s) y next next' e q =
    prints_on_trans s (state_at_end y) (state_at_end (then_do y next')) e (then_do-prints y next' q.prints_on)

-- a statement, and what follows it
pub then_do-steady : (f f' next next' : ProgramState → Completion) → Steady f f' → Steady next next' → Steady (λ s. then_do (f s) next) (λ s. then_do (f' s) next')
then_do-steady f f' next next' p q = record {
  prints_on = λ s. prints_on_trans s (state_at_end (f' s)) (state_at_end (then_do (f' s) next')) (p.prints_on s) (then_do-prints (f' s) next' q.prints_on);
  turns_fall = λ s. omega (arith, p.turns_fall s, then_do-falls (f' s) next' q.turns_fall);
  extends = λ k s. then_do-extends k (f s) (f' (with_more k s)) next next' (p.extends k s) q;
}

-- what follows the body of a loop prints on
after_body-prints : (x : Completion) (next : ProgramState → Completion) → ((s : ProgramState) → PrintsOn s (state_at_end (next s))) → PrintsOn (state_at_end x) (state_at_end (after_body x next))
after_body-prints (GoesOn s) next q = q s
after_body-prints (Breaks s) next q = Begins-refl s.printed
after_body-prints (Continues s) next q = q s
after_body-prints (Returns s) next q = Begins-refl s.printed
after_body-prints (Traps kind line s) next q = Begins-refl s.printed
after_body-prints (Spent s) next q = Begins-refl s.printed

-- what follows the body of a loop starts turns, and gives none back
after_body-falls : (x : Completion) (next : ProgramState → Completion) → ((s : ProgramState) → (state_at_end (next s)).turns ≤ s.turns) →
    (state_at_end (after_body x next)).turns ≤ (state_at_end x).turns
after_body-falls (GoesOn s) next q = q s
after_body-falls (Breaks s) next q = omega arith
after_body-falls (Continues s) next q = q s
after_body-falls (Returns s) next q = omega arith
after_body-falls (Traps kind line s) next q = omega arith
after_body-falls (Spent s) next q = omega arith

-- what follows the body of a loop, with more turns
after_body-extends : (k : ℕ) (x y : Completion) (next next' : ProgramState → Completion) → Extends k x y → Steady next next' → Extends k (after_body x next) (after_body y next')
after_body-extends k (GoesOn s) y next next' e q = subst (λ (o : Completion). Extends k (next s) (after_body o next')) (sym e) (q.extends k s)
after_body-extends k (Breaks s) y next next' e q = ap (λ (o : Completion). after_body o next') e
after_body-extends k (Continues s) y next next' e q = subst (λ (o : Completion). Extends k (next s) (after_body o next')) (sym e) (q.extends k s)
after_body-extends k (Returns s) y next next' e q = ap (λ (o : Completion). after_body o next') e
after_body-extends k (Traps kind line s) y next next' e q = ap (λ (o : Completion). after_body o next') e
after_body-extends k (Spent s) y next next' e q =
    prints_on_trans s (state_at_end y) (state_at_end (after_body y next')) e (after_body-prints y next' q.prints_on)

-- the body of a loop, and what follows it
pub after_body-steady : (f f' next next' : ProgramState → Completion) → Steady f f' → Steady next next' → Steady (λ s. after_body (f s) next) (λ s. after_body (f' s) next')
after_body-steady f f' next next' p q = record {
  prints_on = λ s. prints_on_trans s (state_at_end (f' s)) (state_at_end (after_body (f' s) next')) (p.prints_on s) (after_body-prints (f' s) next' q.prints_on);
  turns_fall = λ s. omega (arith, p.turns_fall s, after_body-falls (f' s) next' q.turns_fall);
  extends = λ k s. after_body-extends k (f s) (f' (with_more k s)) next next' (p.extends k s) q;
}

-- ---- choices

-- the two sides of a test
where_true-steady : (b : Bool) (f f' g g' : ProgramState → Completion) → Steady f f' → Steady g g' → Steady (where_true b f g) (where_true b f' g')
where_true-steady true f f' g g' p q = p
where_true-steady false f f' g g' p q = q

-- the two sides of a condition
pub side-steady : (v : ℤ) (f f' g g' : ProgramState → Completion) → Steady f f' → Steady g g' → Steady (side v f g) (side v f' g')
side-steady v f f' g g' p q = where_true-steady (holds v) f f' g g' p q

-- what is done at a place, or where the index was outside
at_place-steady : (place : Option ℕ) (outside : ProgramState → Completion) (next : ℕ → ProgramState → Completion) → Steady outside outside →
    ((i : ℕ) → Steady (next i) (next i)) → Steady (at_place place outside next) (at_place place outside next)
at_place-steady None outside next p q = p
at_place-steady (Some i) outside next p q = q i

-- ---- what takes one step

-- nothing
pub GoesOn-steady : Steady GoesOn GoesOn
GoesOn-steady = record { prints_on = λ s. Begins-refl s.printed; turns_fall = λ s. omega arith; extends = λ k s. refl }

-- `break`
Breaks-steady : Steady Breaks Breaks
Breaks-steady = record { prints_on = λ s. Begins-refl s.printed; turns_fall = λ s. omega arith; extends = λ k s. refl }

-- `continue`
Continues-steady : Steady Continues Continues
Continues-steady = record { prints_on = λ s. Begins-refl s.printed; turns_fall = λ s. omega arith; extends = λ k s. refl }

-- `return`, after its value
Returns-steady : Steady Returns Returns
Returns-steady = record { prints_on = λ s. Begins-refl s.printed; turns_fall = λ s. omega arith; extends = λ k s. refl }

-- a trap
Traps-steady : (kind : TrapKind) (line : ℕ) → Steady (Traps kind line) (Traps kind line)
Traps-steady kind line = record { prints_on = λ s. Begins-refl s.printed; turns_fall = λ s. omega arith; extends = λ k s. refl }

-- a value that is put into a scalar
assign-steady : (scalar : ℕ) (v : ℤ) → Steady (assign scalar v) (assign scalar v)
assign-steady scalar v = record { prints_on = λ s. Begins-refl s.printed; turns_fall = λ s. omega arith; extends = λ k s. refl }

-- a value that is put into an element
store-steady : (array place : ℕ) (v : ℤ) → Steady (store array place v) (store array place v)
store-steady array place v = record { prints_on = λ s. Begins-refl s.printed; turns_fall = λ s. omega arith; extends = λ k s. refl }

-- a print
print-steady : (v : ℤ) → Steady (λ s. GoesOn (add_printed v s)) (λ s. GoesOn (add_printed v s))
print-steady v = record { prints_on = λ s. Begins-append s.printed (v ∷ []); turns_fall = λ s. omega arith; extends = λ k s. refl }

-- ---- assignments

-- a bound test, and what is done at the place
with_place-steady : (lengths : List ℕ) (array line : ℕ) (index : ℤ) (next : ℕ → ProgramState → Completion) → ((i : ℕ) → Steady (next i) (next i)) →
    Steady (with_place lengths array line index next) (with_place lengths array line index next)
with_place-steady lengths array line index next q =
    at_place-steady (place_in (slice_index lengths array) index) (Traps OutOfBounds line) next (Traps-steady OutOfBounds line) q

-- the operator on what an element was, and the store
updated-steady : (lengths : List ℕ) (array : ℕ) (op : BinaryOp) (at : ℕ) (value : SourceExpression) (place : ℕ) (old : ℤ)
    → Steady (λ s. do_with (eval lengths value s) (λ b s'. do_with (operate op at old b s') (store array place)))
    (λ s. do_with (eval lengths value s) (λ b s'. do_with (operate op at old b s') (store array place)))
updated-steady lengths array op at value place old =
    let next = λ (b : ℤ) (s : ProgramState). do_with (operate op at old b s) (store array place) in
    do_with-steady (eval lengths value) next next (eval-quiet lengths value)
    (λ b. do_with-steady (operate op at old b) (store array place) (store array place) (operate-quiet op at old b) (store-steady array place))

-- an element that is changed
update-steady : (lengths : List ℕ) (array : ℕ) (op : BinaryOp) (at : ℕ) (value : SourceExpression) (place : ℕ) →
    Steady (update lengths array op at value place) (update lengths array op at value place)
update-steady lengths array op at value place = record {
  prints_on = λ s. (updated-steady lengths array op at value place (s.cells array place)).prints_on s;
  turns_fall = λ s. (updated-steady lengths array op at value place (s.cells array place)).turns_fall s;
  extends = λ k s. (updated-steady lengths array op at value place (s.cells array place)).extends k s;
}

-- every assignment
assignment-steady : (lengths : List ℕ) (name line : ℕ) (index : Option SourceExpression) (bracket : ℕ) (op : Option BinaryOp) (at : ℕ) (value : SourceExpression)
    → Steady (assignment lengths name line index bracket op at value) (assignment lengths name line index bracket op at value)
assignment-steady lengths name line None bracket None at value =
    do_with-steady (eval lengths value) (assign name) (assign name) (eval-quiet lengths value) (assign-steady name)
assignment-steady lengths name line None bracket (Some op) at value =
    let both = Combined op at (Variable name line) value in
    do_with-steady (eval lengths both) (assign name) (assign name) (eval-quiet lengths both) (assign-steady name)
assignment-steady lengths name line (Some index) bracket None at value =
    let put = λ (i v : ℤ). with_place lengths name bracket i (λ place. store name place v) in
    let next = λ (i : ℤ) (s : ProgramState). do_with (eval lengths value s) (put i) in
    do_with-steady (eval lengths index) next next (eval-quiet lengths index)
    (λ i. do_with-steady (eval lengths value) (put i) (put i) (eval-quiet lengths value)
    (λ v. with_place-steady lengths name bracket i (λ place. store name place v) (λ place. store-steady name place v)))
assignment-steady lengths name line (Some index) bracket (Some op) at value =
    let next = λ (i : ℤ). with_place lengths name bracket i (update lengths name op at value) in
    do_with-steady (eval lengths index) next next (eval-quiet lengths index)
    (λ i. with_place-steady lengths name bracket i (update lengths name op at value) (update-steady lengths name op at value))

-- every declarator
declare-steady : (lengths : List ℕ) (name : ℕ) (initial : Option SourceExpression) → Steady (declare lengths name initial) (declare lengths name initial)
declare-steady lengths name None = assign-steady name (pos 0)
declare-steady lengths name (Some initial) =
    do_with-steady (eval lengths initial) (assign name) (assign name) (eval-quiet lengths initial) (assign-steady name)

-- ---- loops

-- a turn prints on
turn_from-prints : (left : ℕ) (body : ProgramState → Completion) (s : ProgramState) → ((s : ProgramState) → PrintsOn s (state_at_end (body s))) → PrintsOn s (state_at_end (turn_from left body s))
turn_from-prints zero body s q = Begins-refl s.printed
turn_from-prints (suc left) body s q = q (set_turns left s)

-- a turn is started where one is left, and none is given back
turn_from-falls : (left : ℕ) (body : ProgramState → Completion) (s : ProgramState) → left ≤ s.turns → ((s : ProgramState) → (state_at_end (body s)).turns ≤ s.turns) →
    (state_at_end (turn_from left body s)).turns ≤ s.turns
turn_from-falls zero body s le q = omega arith
turn_from-falls (suc left) body s le q = omega (arith, q (set_turns left s))

-- a turn, with more turns left
turn_from-extends : (left k : ℕ) (body body' : ProgramState → Completion) (s : ProgramState) → Steady body body' → Extends k (turn_from left body s) (turn_from (left + k) body' (with_more k s))
turn_from-extends zero k body body' s q = turn_from-prints (zero + k) body' (with_more k s) q.prints_on
turn_from-extends (suc left) k body body' s q =
    let e : suc (left + k) ≡ suc left + k = omega arith in
    subst (λ (n : ℕ). Extends k (body (set_turns left s)) (turn_from n body' (with_more k s))) e (q.extends k (set_turns left s))

-- a turn
pub turn_of-steady : (body body' : ProgramState → Completion) → Steady body body' → Steady (turn_of body) (turn_of body')
turn_of-steady body body' q = record {
  prints_on = λ s. turn_from-prints s.turns body' s q.prints_on;
  turns_fall = λ s. turn_from-falls s.turns body' s (omega arith) q.turns_fall;
  extends = λ k s. turn_from-extends s.turns k body body' s q;
}

-- the body, the step, and what follows
round_of-steady : (body step next next' : ProgramState → Completion) → Steady body body → Steady step step → Steady next next' → Steady (round_of body step next) (round_of body step next')
round_of-steady body step next next' p q r =
    after_body-steady body body (λ s. then_do (step s) next) (λ s. then_do (step s) next') p (then_do-steady step step next next' q r)

module _ (test : ProgramState → Evaluated) (step body : ProgramState → Completion) (test-quiet : Quiet test) (step-steady : Steady step step) (body-steady : Steady body body) where
  -- one test more
  tested-steady : (m n : ℕ) → Steady (loop m test step body) (loop n test step body) → Steady (loop (suc m) test step body) (loop (suc n) test step body)
  tested-steady m n q =
      let one = round_of body step (loop m test step body) in
      let other = round_of body step (loop n test step body) in
      do_with-steady test (λ v. side v (turn_of one) GoesOn) (λ v. side v (turn_of other) GoesOn) test-quiet
      (λ v. side-steady v (turn_of one) (turn_of other) GoesOn GoesOn
      (turn_of-steady one other (round_of-steady body step (loop m test step body) (loop n test step body) body-steady step-steady q)) GoesOn-steady)

  -- more tests
  loop-steady : (m n : ℕ) → m ≤ n → Steady (loop m test step body) (loop n test step body)
  loop-steady zero zero le = record { prints_on = λ s. Begins-refl s.printed; turns_fall = λ s. omega arith; extends = λ k s. Begins-refl s.printed }
  loop-steady zero (suc n) le =
      let more = tested-steady n n (loop-steady n n (omega arith)) in
      record { prints_on = more.prints_on; turns_fall = more.turns_fall; extends = λ k s. more.prints_on (with_more k s) }
  loop-steady (suc m) zero le = absurd (omega arith)
  loop-steady (suc m) (suc n) le = tested-steady m n (loop-steady m n (omega arith))

  -- a loop from a state
  pub loop_from-steady : Steady (loop_from test step body) (loop_from test step body)
  loop_from-steady = record {
    prints_on = λ s. (loop-steady (suc s.turns) (suc s.turns) (omega arith)).prints_on s;
    turns_fall = λ s. (loop-steady (suc s.turns) (suc s.turns) (omega arith)).turns_fall s;
    extends = λ k s. (loop-steady (suc s.turns) (suc (s.turns + k)) (omega arith)).extends k s;
  }

-- a loop whose first turn comes before the first test
do_loop-steady : (test : ProgramState → Evaluated) (body : ProgramState → Completion) → Quiet test → Steady body body → Steady (do_loop test body) (do_loop test body)
do_loop-steady test body p q =
    let round = round_of body GoesOn (loop_from test GoesOn body) in
    turn_of-steady round round
    (round_of-steady body GoesOn (loop_from test GoesOn body) (loop_from test GoesOn body) q GoesOn-steady (loop_from-steady test GoesOn body p GoesOn-steady q))

-- ---- statements

mutual
  -- every statement
  pub execute-steady : (lengths : List ℕ) (statement : SourceStatement) → Steady (execute lengths statement) (execute lengths statement)
  execute-steady lengths (Scope items) = execute_list-steady lengths items
  execute-steady lengths (ScalarDeclaration name line initial) = declare-steady lengths name initial
  execute-steady lengths (ArrayDeclaration name line at length values) = GoesOn-steady
  execute-steady lengths (Assignment name line index bracket op at value) = assignment-steady lengths name line index bracket op at value
  execute-steady lengths (Printing line value) =
      do_with-steady (eval lengths value) (λ v s. GoesOn (add_printed v s)) (λ v s. GoesOn (add_printed v s)) (eval-quiet lengths value) print-steady
  execute-steady lengths (Evaluation line value) =
      do_with-steady (eval lengths value) (λ v. GoesOn) (λ v. GoesOn) (eval-quiet lengths value) (λ v. GoesOn-steady)
  execute-steady lengths (Branch line test body otherwise) =
      let next = λ (v : ℤ). side v (execute lengths body) (execute_optional lengths otherwise) in
      do_with-steady (eval lengths test) next next (eval-quiet lengths test)
      (λ v. side-steady v (execute lengths body) (execute lengths body) (execute_optional lengths otherwise) (execute_optional lengths otherwise)
      (execute-steady lengths body) (execute_optional-steady lengths otherwise))
  execute-steady lengths (WhileLoop line test body) =
      loop_from-steady (eval lengths test) GoesOn (execute lengths body) (eval-quiet lengths test) GoesOn-steady (execute-steady lengths body)
  execute-steady lengths (DoLoop line body test) =
      do_loop-steady (eval lengths test) (execute lengths body) (eval-quiet lengths test) (execute-steady lengths body)
  execute-steady lengths (ForLoop line first test step body) =
      let rest = loop_from (eval lengths test) (execute_optional lengths step) (execute lengths body) in
      then_do-steady (execute_list lengths first) (execute_list lengths first) rest rest (execute_list-steady lengths first)
      (loop_from-steady (eval lengths test) (execute_optional lengths step) (execute lengths body)
      (eval-quiet lengths test) (execute_optional-steady lengths step) (execute-steady lengths body))
  execute-steady lengths (BreakOut line) = Breaks-steady
  execute-steady lengths (ContinueOn line) = Continues-steady
  execute-steady lengths (ReturnFrom line value) =
      do_with-steady (eval lengths value) (λ v. Returns) (λ v. Returns) (eval-quiet lengths value) (λ v. Returns-steady)
  execute-steady lengths Nothing = GoesOn-steady

  -- every statement that may be left out
  pub execute_optional-steady : (lengths : List ℕ) (statement : OptionalStatement) → Steady (execute_optional lengths statement) (execute_optional lengths statement)
  execute_optional-steady lengths Absent = GoesOn-steady
  execute_optional-steady lengths (Present statement) = execute-steady lengths statement

  -- every list of statements
  pub execute_list-steady : (lengths : List ℕ) (items : SourceList) → Steady (execute_list lengths items) (execute_list lengths items)
  execute_list-steady lengths No_more = GoesOn-steady
  execute_list-steady lengths (More first rest) =
      then_do-steady (execute lengths first) (execute lengths first) (execute_list lengths rest) (execute_list lengths rest)
      (execute-steady lengths first) (execute_list-steady lengths rest)
