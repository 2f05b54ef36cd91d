-- A loop does not depend on how many tests it may make, where these are more than the turns that are left.
use Rattle.std.proofs.Common.{◌≡◌, ℕ, zero, suc, ◌<◌, ◌≤◌, Bool, true, false, List, refl, arith}
use Rattle.std.specs.Prelude.{ℤ}
use Rattle.pc_word.specs.Word.{holds}
use Rattle.pc_syntax.specs.Source.{SourceExpression, SourceStatement, OptionalStatement}
use Rattle.pc_meaning.specs.ProgramState.{ProgramState, set_turns}
use Rattle.pc_meaning.specs.Expression.{Evaluated, Given, Caught, where_true, side, eval, state_given}
use Rattle.pc_meaning.specs.Statement.{Completion, GoesOn, Breaks, Continues, Returns, Traps, Spent, state_at_end, do_with, then_do, after_body}
use Rattle.pc_meaning.specs.Statement.{turn_from, turn_of, round_of, loop, execute, execute_optional}
use Rattle.pc_meaning.proofs.Expressions.{Quiet, eval-quiet}
use Rattle.pc_meaning.proofs.Statements.{Steady, execute-steady, execute_optional-steady}

-- what follows a value, where two ways to go on do the same from its state
do_with-same : (x : Evaluated) (next next' : ℤ → ProgramState → Completion) → ((v : ℤ) (t : ProgramState) → t.turns ≤ (state_given x).turns → next v t ≡ next' v t) → do_with x next ≡ do_with x next'
do_with-same (Given v t) next next' q = q v t (omega arith)
do_with-same (Caught kind line t) next next' q = refl

-- what follows a statement
then_do-same : (x : Completion) (next next' : ProgramState → Completion) → ((t : ProgramState) → t.turns ≤ (state_at_end x).turns → next t ≡ next' t) → then_do x next ≡ then_do x next'
then_do-same (GoesOn t) next next' q = q t (omega arith)
then_do-same (Breaks t) next next' q = refl
then_do-same (Continues t) next next' q = refl
then_do-same (Returns t) next next' q = refl
then_do-same (Traps kind line t) next next' q = refl
then_do-same (Spent t) next next' q = refl

-- what follows the body of a loop
after_body-same : (x : Completion) (next next' : ProgramState → Completion) → ((t : ProgramState) → t.turns ≤ (state_at_end x).turns → next t ≡ next' t) → after_body x next ≡ after_body x next'
after_body-same (GoesOn t) next next' q = q t (omega arith)
after_body-same (Breaks t) next next' q = refl
after_body-same (Continues t) next next' q = q t (omega arith)
after_body-same (Returns t) next next' q = refl
after_body-same (Traps kind line t) next next' q = refl
after_body-same (Spent t) next next' q = refl

-- the one side of a test
where_true-same : (b : Bool) (f f' g : ProgramState → Completion) (t : ProgramState) → f t ≡ f' t → where_true b f g t ≡ where_true b f' g t
where_true-same true f f' g t p = p
where_true-same false f f' g t p = refl

-- a turn
turn_from-same : (left : ℕ) (f f' : ProgramState → Completion) (t : ProgramState) → ((less : ℕ) → less < left → f (set_turns less t) ≡ f' (set_turns less t)) → turn_from left f t ≡ turn_from left f' t
turn_from-same zero f f' t p = refl
turn_from-same (suc left) f f' t p = p left (omega arith)

module _ (test : ProgramState → Evaluated) (step body : ProgramState → Completion) (test-quiet : Quiet test) (step-steady : Steady step step) (body-steady : Steady body body) where
  -- the body, the step, and what follows from fewer turns
  round_of-same : (next next' : ProgramState → Completion) (s : ProgramState) → ((t : ProgramState) → t.turns ≤ s.turns → next t ≡ next' t) → round_of body step next s ≡ round_of body step next' s
  round_of-same next next' s q =
      after_body-same (body s) (λ t. then_do (step t) next) (λ t. then_do (step t) next')
      (λ t le. then_do-same (step t) next next' (λ u less. q u (omega (arith, body-steady.turns_fall s, step-steady.turns_fall t))))

  -- a loop with enough tests
  loop-same : (m n : ℕ) (s : ProgramState) → s.turns < m → s.turns < n → loop m test step body s ≡ loop n test step body s
  loop-same zero n s p q = absurd (omega arith)
  loop-same (suc m) zero s p q = absurd (omega arith)
  loop-same (suc m) (suc n) s p q =
      let one = turn_of (round_of body step (loop m test step body)) in
      let other = turn_of (round_of body step (loop n test step body)) in
      do_with-same (test s) (λ v. side v one GoesOn) (λ v. side v other GoesOn)
      (λ v t le. where_true-same (holds v) one other GoesOn t
      (turn_from-same t.turns (round_of body step (loop m test step body)) (round_of body step (loop n test step body)) t
      (λ less few. round_of-same (loop m test step body) (loop n test step body) (set_turns less t)
      (λ u fewer. loop-same m n u (omega (arith, test-quiet.keeps_turns s)) (omega (arith, test-quiet.keeps_turns s))))))

-- the loops of statements
pub loop-enough : (lengths : List ℕ) (test : SourceExpression) (step : OptionalStatement) (body : SourceStatement) (m n : ℕ) (s : ProgramState) → s.turns < m → s.turns < n
    → loop m (eval lengths test) (execute_optional lengths step) (execute lengths body) s ≡ loop n (eval lengths test) (execute_optional lengths step) (execute lengths body) s
loop-enough lengths test step body =
    loop-same (eval lengths test) (execute_optional lengths step) (execute lengths body) (eval-quiet lengths test) (execute_optional-steady lengths step) (execute-steady lengths body)
