-- How many turns a source starts, against the nodes that its trace lists: each test of a loop pays for the turn after it, and for
-- the first turns of the `do` loops that are met before the next node is passed.
use Rattle.std.proofs.Common.{◌≡◌, ℕ, zero, suc, ◌+◌, ◌<◌, ◌≤◌, Bool, true, false, List, [], ◌∷◌, ◌++◌, length, Option, Some, None, refl, sym, ◌∙◌, arith}
use Rattle.std.specs.Prelude.{ℤ, slice_index}
use Rattle.pc_word.specs.Word.{holds}
use Rattle.pc_word.specs.declared.item.TrapKind.TheVariants.{OutOfBounds}
use Rattle.pc_syntax.specs.declared.operator.BinaryOp.{BinaryOp}
use Rattle.pc_syntax.specs.Source as source
use Rattle.pc_syntax.specs.Source.{SourceExpression, SourceStatement, SourceList, OptionalStatement}
use Rattle.pc_word.specs.Items.{place_in}
use Rattle.pc_meaning.specs.ProgramState.{ProgramState, set_turns, add_printed}
use Rattle.pc_meaning.specs.Expression.{state_given, Evaluated, Given, Caught, where_true, side, operate, at_place, eval}
use Rattle.pc_meaning.specs.Statement.{Completion, GoesOn, Breaks, Continues, Returns, Traps, Spent, state_at_end, do_with, then_do, after_body}
use Rattle.pc_meaning.specs.Statement.{assign, store, with_place, update, assignment, declare, turn_from, turn_of, round_of, loop, loop_from}
use Rattle.pc_meaning.specs.Statement.{do_loop, execute, execute_optional, execute_list}
use Rattle.pc_meaning.specs.Trace.{Kind, Print_node, Test_node, traced, traced_on, traced_body, tested, passes, passes_nothing, trace}
use Rattle.pc_meaning.specs.Trace.{assignment_trace, declaration_trace, turn_trace_from, turn_trace, round_trace, loop_trace, loop_trace_from}
use Rattle.pc_meaning.specs.Trace.{do_loop_trace, statement_trace, optional_trace, list_trace}
use Rattle.pc_meaning.proofs.Expressions.{eval-quiet, operate-quiet}
use Rattle.pc_meaning.proofs.Statements.{execute-steady, execute_optional-steady}

-- how many `do` statements there are
abbrev mutual
  pub dos : SourceStatement → ℕ
  dos (source.Scope items) = dos_list items
  dos (source.Branch line test body otherwise) = dos body + dos_optional otherwise
  dos (source.WhileLoop line test body) = dos body
  dos (source.DoLoop line body test) = suc (dos body)
  dos (source.ForLoop line first test step body) = dos_list first + dos_optional step + dos body
  dos _ = 0

  pub dos_optional : OptionalStatement → ℕ
  dos_optional source.Absent = 0
  dos_optional (source.Present statement) = dos statement

  pub dos_list : SourceList → ℕ
  dos_list source.No_more = 0
  dos_list (source.More first rest) = dos first + dos_list rest

-- how many turns so many nodes pay for
abbrev pub cost : ℕ → ℕ → ℕ
cost w zero = 0
cost w (suc n) = suc w + cost w n

-- the nodes of two lists pay together
cost-append : (w : ℕ) (ks ls : List Kind) → cost w (length (ks ++ ls)) ≡ cost w (length ks) + cost w (length ls)
cost-append w [] ls = omega arith
cost-append w (k ∷ ks) ls = let e = cost-append w ks ls in omega (arith, e)

-- fewer nodes pay for less
pub cost-below : (w n m : ℕ) → n < m → suc w + cost w n ≤ cost w m
cost-below w n zero h = absurd (omega arith)
cost-below w zero (suc m) h = omega arith
cost-below w (suc n) (suc m) h = let e = cost-below w n m (omega arith) in omega (arith, e)

-- the turns that are left after a statement, none where they were spent
abbrev pub remaining : Completion → ℕ
remaining (Spent s) = 0
remaining x = (state_at_end x).turns

-- of n turns, those that are not left are paid by the nodes, but for c
abbrev pub Paid : (w c n : ℕ) → Completion → List Kind → Type 0
Paid w c n x ks = n ≤ remaining x + cost w (length ks) + c

-- a value, and what is done with it
do_with-paid : (w c n : ℕ) (x : Evaluated) (ks : List Kind) (next : ℤ → ProgramState → List Kind) (kont : ℤ → ProgramState → Completion)
    → (state_given x).turns ≡ n → ((v : ℤ) (s : ProgramState) → s.turns ≡ n → Paid w c n (kont v s) (next v s)) → Paid w c n (do_with x kont) (traced ks x next)
do_with-paid w c n (Given v s) ks next kont e h = let p = h v s e in let q = cost-append w ks (next v s) in omega (arith, p, q)
do_with-paid w c n (Caught kind line s) ks next kont e h = omega (arith, e)

-- a value that is dropped
dropped-paid : (w c n : ℕ) (x : Evaluated) (ks : List Kind) (end : ProgramState → Completion)
    → (state_given x).turns ≡ n → ((s : ProgramState) → remaining (end s) ≡ s.turns) → Paid w c n (do_with x (λ v. end)) ks
dropped-paid w c n (Given v s) ks end e h = let p = h s in omega (arith, e, p)
dropped-paid w c n (Caught kind line s) ks end e h = omega (arith, e)

-- a statement, and what follows it
then-paid : (w c d n : ℕ) (x : Completion) (ks : List Kind) (next : ProgramState → List Kind) (kont : ProgramState → Completion)
    → Paid w c n x ks → ((s : ProgramState) → s.turns ≤ (state_at_end x).turns → Paid w d s.turns (kont s) (next s)) → Paid w (c + d) n (then_do x kont) (traced_on ks x next)
then-paid w c d n (GoesOn s) ks next kont p h = let r = h s (omega arith) in let q = cost-append w ks (next s) in omega (arith, p, q, r)
then-paid w c d n (Breaks s) ks next kont p h = omega (arith, p)
then-paid w c d n (Continues s) ks next kont p h = omega (arith, p)
then-paid w c d n (Returns s) ks next kont p h = omega (arith, p)
then-paid w c d n (Traps kind line s) ks next kont p h = omega (arith, p)
then-paid w c d n (Spent s) ks next kont p h = omega (arith, p)

-- the body of a loop, and what follows it
body-paid : (w c d n : ℕ) (x : Completion) (ks : List Kind) (next : ProgramState → List Kind) (kont : ProgramState → Completion)
    → Paid w c n x ks → ((s : ProgramState) → s.turns ≤ (state_at_end x).turns → Paid w d s.turns (kont s) (next s)) → Paid w (c + d) n (after_body x kont) (traced_body ks x next)
body-paid w c d n (GoesOn s) ks next kont p h = let r = h s (omega arith) in let q = cost-append w ks (next s) in omega (arith, p, q, r)
body-paid w c d n (Breaks s) ks next kont p h = omega (arith, p)
body-paid w c d n (Continues s) ks next kont p h = let r = h s (omega arith) in let q = cost-append w ks (next s) in omega (arith, p, q, r)
body-paid w c d n (Returns s) ks next kont p h = omega (arith, p)
body-paid w c d n (Traps kind line s) ks next kont p h = omega (arith, p)
body-paid w c d n (Spent s) ks next kont p h = omega (arith, p)

-- the side that came out
where_true-paid : (w c n : ℕ) (b : Bool) (s : ProgramState) (one other : ProgramState → List Kind) (one' other' : ProgramState → Completion)
    → Paid w (c + suc w) n (one' s) (one s) → Paid w (c + suc w) n (other' s) (other s) → Paid w c n (where_true b one' other' s) (Test_node ∷ where_true b one other s)
where_true-paid w c n true s one other one' other' p q = omega (arith, p)
where_true-paid w c n false s one other one' other' p q = omega (arith, q)

-- the two sides of a test
side-paid : (w c n : ℕ) (v : ℤ) (s : ProgramState) (one other : ProgramState → List Kind) (one' other' : ProgramState → Completion)
    → Paid w (c + suc w) n (one' s) (one s) → Paid w (c + suc w) n (other' s) (other s) → Paid w c n (side v one' other' s) (tested (side v one other) s)
side-paid w c n v s one other one' other' p q = where_true-paid w c n (holds v) s one other one' other' p q

-- fewer are paid for
weaken : (w c d n m : ℕ) (x : Completion) (ks : List Kind) → c ≤ d → n ≡ m → Paid w c m x ks → Paid w d n x ks
weaken w c d n m x ks le e p = omega (arith, p, le, e)

-- ---- statements without loops

-- a value, and what is done with it
do_with-keeps : (n : ℕ) (x : Evaluated) (kont : ℤ → ProgramState → Completion) → (state_given x).turns ≡ n
    → ((v : ℤ) (s : ProgramState) → s.turns ≡ n → remaining (kont v s) ≡ n) → remaining (do_with x kont) ≡ n
do_with-keeps n (Given v s) kont e h = h v s e
do_with-keeps n (Caught kind line s) kont e h = e

-- a bound test
at_place-keeps : (n : ℕ) (place : Option ℕ) (outside : ProgramState → Completion) (next : ℕ → ProgramState → Completion) (s : ProgramState)
    → remaining (outside s) ≡ n → ((i : ℕ) → remaining (next i s) ≡ n) → remaining (at_place place outside next s) ≡ n
at_place-keeps n None outside next s p q = p
at_place-keeps n (Some i) outside next s p q = q i

-- an expression
eval-turns : (lengths : List ℕ) (e : SourceExpression) (n : ℕ) (s : ProgramState) → s.turns ≡ n → (state_given (eval lengths e s)).turns ≡ n
eval-turns lengths e n s h = (eval-quiet lengths e).keeps_turns s ∙ h

-- every assignment
assignment-keeps : (lengths : List ℕ) (name line : ℕ) (index : Option SourceExpression) (bracket : ℕ) (op : Option BinaryOp) (at : ℕ) (value : SourceExpression) (s : ProgramState)
    → remaining (assignment lengths name line index bracket op at value s) ≡ s.turns
assignment-keeps lengths name line None bracket None at value s = do_with-keeps s.turns (eval lengths value s) (assign name) (eval-turns lengths value s.turns s refl) (λ v u e. e)
assignment-keeps lengths name line None bracket (Some op) at value s =
    let both = source.Combined op at (source.Variable name line) value in
    do_with-keeps s.turns (eval lengths both s) (assign name) (eval-turns lengths both s.turns s refl) (λ v u e. e)
assignment-keeps lengths name line (Some index) bracket None at value s =
    let put = λ (i v : ℤ). with_place lengths name bracket i (λ place. store name place v) in
    do_with-keeps s.turns (eval lengths index s) (λ i t. do_with (eval lengths value t) (put i)) (eval-turns lengths index s.turns s refl)
    (λ i u e. do_with-keeps s.turns (eval lengths value u) (put i) (eval-turns lengths value s.turns u e)
    (λ v z e'. at_place-keeps s.turns (place_in (slice_index lengths name) i) (Traps OutOfBounds bracket) (λ place. store name place v) z e' (λ place. e')))
assignment-keeps lengths name line (Some index) bracket (Some op) at value s =
    do_with-keeps s.turns (eval lengths index s) (λ i. with_place lengths name bracket i (update lengths name op at value)) (eval-turns lengths index s.turns s refl)
    (λ i u e. at_place-keeps s.turns (place_in (slice_index lengths name) i) (Traps OutOfBounds bracket) (update lengths name op at value) u e
    (λ place.
    let old = u.cells name place in
    do_with-keeps s.turns (eval lengths value u) (λ b z. do_with (operate op at old b z) (store name place)) (eval-turns lengths value s.turns u e)
    (λ b z e'. do_with-keeps s.turns (operate op at old b z) (store name place) ((operate-quiet op at old b).keeps_turns z ∙ e') (λ v y e''. e''))))

-- every declarator
declare-keeps : (lengths : List ℕ) (name : ℕ) (initial : Option SourceExpression) (s : ProgramState) → remaining (declare lengths name initial s) ≡ s.turns
declare-keeps lengths name None s = refl
declare-keeps lengths name (Some initial) s = do_with-keeps s.turns (eval lengths initial s) (assign name) (eval-turns lengths initial s.turns s refl) (λ v u e. e)

-- where all turns are left
kept-paid : (w c n : ℕ) (x : Completion) (ks : List Kind) → remaining x ≡ n → Paid w c n x ks
kept-paid w c n x ks e = omega (arith, e)

-- ---- loops

-- a turn, where one is left
turn_from-paid : (w c left : ℕ) (s : ProgramState) (body : ProgramState → Completion) (passed : ProgramState → List Kind)
    → ((k : ℕ) → k < left → Paid w c k (body (set_turns k s)) (passed (set_turns k s))) → Paid w (suc c) left (turn_from left body s) (turn_trace_from left passed s)
turn_from-paid w c zero s body passed h = omega arith
turn_from-paid w c (suc left) s body passed h = let p = h left (omega arith) in omega (arith, p)

module _ (w cb cs : ℕ) (fits : cb + cs ≤ w) (test : ProgramState → Evaluated) (test_trace : ProgramState → List Kind)
    (step : ProgramState → Completion) (step_trace : ProgramState → List Kind) (body : ProgramState → Completion) (body_trace : ProgramState → List Kind)
    (test-keeps : (n : ℕ) (s : ProgramState) → s.turns ≡ n → (state_given (test s)).turns ≡ n)
    (step-pays : (s : ProgramState) → Paid w cs s.turns (step s) (step_trace s)) (step-falls : (s : ProgramState) → (state_at_end (step s)).turns ≤ s.turns)
    (body-pays : (s : ProgramState) → Paid w cb s.turns (body s) (body_trace s)) (body-falls : (s : ProgramState) → (state_at_end (body s)).turns ≤ s.turns) where
  -- a turn
  turn-paid : (d : ℕ) (next : ProgramState → Completion) (after : ProgramState → List Kind) (s : ProgramState)
      → ((u : ProgramState) → u.turns < s.turns → Paid w d u.turns (next u) (after u))
      → Paid w (suc (cb + (cs + d))) s.turns (turn_of (round_of body step next) s) (turn_trace (round_trace body body_trace step step_trace after) s)
  turn-paid d next after s h =
      turn_from-paid w (cb + (cs + d)) s.turns s (round_of body step next) (round_trace body body_trace step step_trace after)
      (λ k less. let t : ProgramState = set_turns k s in
      let fall = body-falls t in
      body-paid w cb (cs + d) k (body t) (body_trace t) (λ u. traced_on (step_trace u) (step u) after) (λ u. then_do (step u) next) (body-pays t)
      (λ u le. let fall' = step-falls u in
      then-paid w cs d u.turns (step u) (step_trace u) after next (step-pays u) (λ z le'. h z (omega (arith, less, fall, le, fall', le')))))

  -- a loop
  loop-paid : (tests : ℕ) (s : ProgramState) → s.turns < tests → Paid w 0 s.turns (loop tests test step body s) (loop_trace tests test test_trace step step_trace body body_trace s)
  loop-paid zero s h = absurd (omega arith)
  loop-paid (suc tests) s h =
      let next = loop tests test step body in
      let after = loop_trace tests test test_trace step step_trace body body_trace in
      let turn = turn_of (round_of body step next) in
      let passed = turn_trace (round_trace body body_trace step step_trace after) in
      do_with-paid w 0 s.turns (test s) (test_trace s) (λ v. tested (side v passed passes_nothing)) (λ v. side v turn GoesOn) (test-keeps s.turns s refl)
      (λ v u e. side-paid w 0 s.turns v u passed passes_nothing turn GoesOn
      (weaken w (suc (cb + (cs + 0))) (0 + suc w) s.turns u.turns (turn u) (passed u) (omega (arith, fits)) (sym e)
      (turn-paid 0 next after u (λ z less. loop-paid tests z (omega (arith, less, e, h)))))
      (kept-paid w (0 + suc w) s.turns (GoesOn u) [] e))

  -- a loop from a state
  loop_from-paid : (s : ProgramState) → Paid w 0 s.turns (loop_from test step body s) (loop_trace_from test test_trace step step_trace body body_trace s)
  loop_from-paid s = loop-paid (suc s.turns) s (omega arith)

-- a step that is left out
nothing-paid : (w : ℕ) (s : ProgramState) → Paid w 0 s.turns (GoesOn s) (passes_nothing s)
nothing-paid w s = omega arith

nothing-falls : (s : ProgramState) → (state_at_end (GoesOn s)).turns ≤ s.turns
nothing-falls s = omega arith

-- ---- statements

mutual
  -- every statement
  pub execute-paid : (lengths : List ℕ) (w : ℕ) (statement : SourceStatement) → dos statement ≤ w → (s : ProgramState)
      → Paid w (dos statement) s.turns (execute lengths statement s) (statement_trace lengths statement s)
  execute-paid lengths w (source.Scope items) le s = execute_list-paid lengths w items le s
  execute-paid lengths w (source.ScalarDeclaration name line initial) le s =
      kept-paid w 0 s.turns (declare lengths name initial s) (declaration_trace lengths initial s) (declare-keeps lengths name initial s)
  execute-paid lengths w (source.ArrayDeclaration name line at length values) le s = nothing-paid w s
  execute-paid lengths w (source.Assignment name line index bracket op at value) le s =
      kept-paid w 0 s.turns (assignment lengths name line index bracket op at value s) (assignment_trace lengths name line index op at value s)
      (assignment-keeps lengths name line index bracket op at value s)
  execute-paid lengths w (source.Printing line value) le s =
      let kont = λ (v : ℤ) (t : ProgramState). GoesOn (add_printed v t) in
      kept-paid w 0 s.turns (do_with (eval lengths value s) kont) (traced (trace lengths value s) (eval lengths value s) (λ v. passes Print_node))
      (do_with-keeps s.turns (eval lengths value s) kont (eval-turns lengths value s.turns s refl) (λ v u e. e))
  execute-paid lengths w (source.Evaluation line value) le s =
      dropped-paid w 0 s.turns (eval lengths value s) (trace lengths value s) GoesOn (eval-turns lengths value s.turns s refl) (λ u. refl)
  execute-paid lengths w (source.Branch line test body otherwise) le s =
      let c = dos body + dos_optional otherwise in
      do_with-paid w c s.turns (eval lengths test s) (trace lengths test s) (λ v. tested (side v (statement_trace lengths body) (optional_trace lengths otherwise)))
      (λ v. side v (execute lengths body) (execute_optional lengths otherwise)) (eval-turns lengths test s.turns s refl)
      (λ v u e. side-paid w c s.turns v u (statement_trace lengths body) (optional_trace lengths otherwise) (execute lengths body) (execute_optional lengths otherwise)
      (weaken w (dos body) (c + suc w) s.turns u.turns (execute lengths body u) (statement_trace lengths body u) (omega arith) (sym e) (execute-paid lengths w body (omega (arith, le)) u))
      (weaken w (dos_optional otherwise) (c + suc w) s.turns u.turns (execute_optional lengths otherwise u) (optional_trace lengths otherwise u) (omega arith) (sym e)
      (execute_optional-paid lengths w otherwise (omega (arith, le)) u)))
  execute-paid lengths w (source.WhileLoop line test body) le s =
      weaken w 0 (dos body) s.turns s.turns (loop_from (eval lengths test) GoesOn (execute lengths body) s)
      (loop_trace_from (eval lengths test) (trace lengths test) GoesOn passes_nothing (execute lengths body) (statement_trace lengths body) s) (omega arith) refl
      (loop_from-paid w (dos body) 0 (omega (arith, le)) (eval lengths test) (trace lengths test) GoesOn passes_nothing (execute lengths body) (statement_trace lengths body)
      (eval-turns lengths test) (nothing-paid w) nothing-falls (execute-paid lengths w body le) (execute-steady lengths body).turns_fall s)
  execute-paid lengths w (source.DoLoop line body test) le s =
      let next = loop_from (eval lengths test) GoesOn (execute lengths body) in
      let after = loop_trace_from (eval lengths test) (trace lengths test) GoesOn passes_nothing (execute lengths body) (statement_trace lengths body) in
      let fits : dos body + 0 ≤ w = omega (arith, le) in
      let fits' : dos body ≤ w = omega (arith, le) in
      weaken w (suc (dos body + (0 + 0))) (suc (dos body)) s.turns s.turns (do_loop (eval lengths test) (execute lengths body) s)
      (do_loop_trace (eval lengths test) (trace lengths test) (execute lengths body) (statement_trace lengths body) s) (omega arith) refl
      (turn-paid w (dos body) 0 fits (eval lengths test) (trace lengths test) GoesOn passes_nothing (execute lengths body) (statement_trace lengths body)
      (eval-turns lengths test) (nothing-paid w) nothing-falls (execute-paid lengths w body fits') (execute-steady lengths body).turns_fall 0 next after s
      (λ u less. loop_from-paid w (dos body) 0 fits (eval lengths test) (trace lengths test) GoesOn passes_nothing (execute lengths body) (statement_trace lengths body)
      (eval-turns lengths test) (nothing-paid w) nothing-falls (execute-paid lengths w body fits') (execute-steady lengths body).turns_fall u))
  execute-paid lengths w (source.ForLoop line first test step body) le s =
      let next = loop_from (eval lengths test) (execute_optional lengths step) (execute lengths body) in
      let after = loop_trace_from (eval lengths test) (trace lengths test) (execute_optional lengths step) (optional_trace lengths step) (execute lengths body) (statement_trace lengths body) in
      let fits : dos body + dos_optional step ≤ w = omega (arith, le) in
      let c = dos_list first + 0 in
      weaken w c (dos_list first + dos_optional step + dos body) s.turns s.turns (then_do (execute_list lengths first s) next)
      (traced_on (list_trace lengths first s) (execute_list lengths first s) after)
      (omega arith) refl
      (then-paid w (dos_list first) 0 s.turns (execute_list lengths first s) (list_trace lengths first s) after next (execute_list-paid lengths w first (omega (arith, le)) s)
      (λ u less. loop_from-paid w (dos body) (dos_optional step) fits (eval lengths test) (trace lengths test)
      (execute_optional lengths step) (optional_trace lengths step) (execute lengths body) (statement_trace lengths body)
      (eval-turns lengths test) (execute_optional-paid lengths w step (omega (arith, le))) (execute_optional-steady lengths step).turns_fall
      (execute-paid lengths w body (omega (arith, le))) (execute-steady lengths body).turns_fall u))
  execute-paid lengths w (source.BreakOut line) le s = omega arith
  execute-paid lengths w (source.ContinueOn line) le s = omega arith
  execute-paid lengths w (source.ReturnFrom line value) le s =
      dropped-paid w 0 s.turns (eval lengths value s) (trace lengths value s) Returns (eval-turns lengths value s.turns s refl) (λ u. refl)
  execute-paid lengths w source.Nothing le s = omega arith

  -- every statement that may be left out
  pub execute_optional-paid : (lengths : List ℕ) (w : ℕ) (statement : OptionalStatement) → dos_optional statement ≤ w → (s : ProgramState)
      → Paid w (dos_optional statement) s.turns (execute_optional lengths statement s) (optional_trace lengths statement s)
  execute_optional-paid lengths w source.Absent le s = omega arith
  execute_optional-paid lengths w (source.Present statement) le s = execute-paid lengths w statement le s

  -- every list of statements
  pub execute_list-paid : (lengths : List ℕ) (w : ℕ) (items : SourceList) → dos_list items ≤ w → (s : ProgramState)
      → Paid w (dos_list items) s.turns (execute_list lengths items s) (list_trace lengths items s)
  execute_list-paid lengths w source.No_more le s = omega arith
  execute_list-paid lengths w (source.More first rest) le s =
      then-paid w (dos first) (dos_list rest) s.turns (execute lengths first s) (statement_trace lengths first s) (list_trace lengths rest) (execute_list lengths rest)
      (execute-paid lengths w first (omega (arith, le)) s) (λ u less. execute_list-paid lengths w rest (omega (arith, le)) u)
