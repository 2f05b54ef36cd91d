-- What a statement does: how it comes to its end, and the state then (C17 6.8).
use Rattle.std.specs.Prelude.{ℕ, zero, suc, ℤ, pos, List, Option, Some, None, slice_index}
use Rattle.pc_word.specs.declared.item.TrapKind.{TrapKind}
use Rattle.pc_word.specs.declared.item.TrapKind.TheVariants.{OutOfBounds}
use Rattle.pc_word.specs.Items.{place_in}
use Rattle.pc_syntax.specs.declared.operator.BinaryOp.{BinaryOp}
use Rattle.pc_syntax.specs.Source.{SourceExpression, Variable, Combined, SourceStatement, SourceList, OptionalStatement, Scope, ScalarDeclaration}
use Rattle.pc_syntax.specs.Source.{ArrayDeclaration, Assignment, Printing, Evaluation, Branch, WhileLoop, DoLoop, ForLoop, BreakOut, ContinueOn}
use Rattle.pc_syntax.specs.Source.{ReturnFrom, Nothing, Absent, Present, No_more, More}
use Rattle.pc_meaning.specs.ProgramState.{ProgramState, set_scalar, set_element, add_printed, set_turns}
use Rattle.pc_meaning.specs.Expression.{Evaluated, Given, Caught, side, operate, at_place, eval}

-- how a statement comes to its end
pub data Completion : Type 0 where
  -- the next statement follows
  GoesOn : (state : ProgramState) → Completion
  -- the innermost loop is left
  Breaks : (state : ProgramState) → Completion
  -- the next turn of the innermost loop follows
  Continues : (state : ProgramState) → Completion
  -- the program ends
  Returns : (state : ProgramState) → Completion
  -- the program ends by a trap, with its line in the source
  Traps : (kind : TrapKind) → (line : ℕ) → (state : ProgramState) → Completion
  -- a loop would start a turn, and none is left
  Spent : (state : ProgramState) → Completion

-- the state at a statement's end
abbrev pub state_at_end : Completion → ProgramState
state_at_end (GoesOn s) = s
state_at_end (Breaks s) = s
state_at_end (Continues s) = s
state_at_end (Returns s) = s
state_at_end (Traps kind line s) = s
state_at_end (Spent s) = s

-- ---- one after another

-- what is done with a value; a trap ends the statement
abbrev pub do_with : Evaluated → (ℤ → ProgramState → Completion) → Completion
do_with (Given value s) next = next value s
do_with (Caught kind line s) next = Traps kind line s

-- what follows a statement that goes on; each other outcome stays
abbrev pub then_do : Completion → (ProgramState → Completion) → Completion
then_do (GoesOn s) next = next s
then_do (Breaks s) next = Breaks s
then_do (Continues s) next = Continues s
then_do (Returns s) next = Returns s
then_do (Traps kind line s) next = Traps kind line s
then_do (Spent s) next = Spent s

-- what follows the body of a loop, where it goes on or continues (C17 6.8.6.2); a break leaves the loop (C17 6.8.6.3)
abbrev pub after_body : Completion → (ProgramState → Completion) → Completion
after_body (GoesOn s) next = next s
after_body (Breaks s) next = GoesOn s
after_body (Continues s) next = next s
after_body (Returns s) next = Returns s
after_body (Traps kind line s) next = Traps kind line s
after_body (Spent s) next = Spent s

-- ---- assignments

-- a value is put into a scalar
abbrev pub assign : ℕ → ℤ → ProgramState → Completion
assign scalar value s = GoesOn (set_scalar scalar value s)

-- a value is put into an element
abbrev pub store : ℕ → ℕ → ℤ → ProgramState → Completion
store array place value s = GoesOn (set_element array place value s)

-- what is done at the place that an index names; an index outside the array is a trap at the bracket's line
abbrev pub with_place : List ℕ → ℕ → ℕ → ℤ → (ℕ → ProgramState → Completion) → ProgramState → Completion
with_place lengths array line index next s =
    at_place (place_in (slice_index lengths array) index) (Traps OutOfBounds line) next s

-- the element at a place, the operator on it and the value, and the store
abbrev pub update : List ℕ → ℕ → BinaryOp → ℕ → SourceExpression → ℕ → ProgramState → Completion
update lengths array op at value place s =
    do_with (eval lengths value s) (λ b s'. do_with (operate op at (s.cells array place) b s') (store array place))

-- `x = e`, `x op= e`, which is `x = x op e`, `a[i] = e`, whose bound is tested after `e`, and `a[i] op= e`,
-- whose bound is tested before `e` (C17 6.5.16)
abbrev pub assignment : List ℕ → ℕ → ℕ → Option SourceExpression → ℕ → Option BinaryOp → ℕ → SourceExpression → ProgramState → Completion
assignment lengths name line None bracket None at value s = do_with (eval lengths value s) (assign name)
assignment lengths name line None bracket (Some op) at value s =
    do_with (eval lengths (Combined op at (Variable name line) value) s) (assign name)
assignment lengths name line (Some index) bracket None at value s =
    do_with (eval lengths index s) (λ i s. do_with (eval lengths value s) (λ v. with_place lengths name bracket i (λ place. store name place v)))
assignment lengths name line (Some index) bracket (Some op) at value s =
    do_with (eval lengths index s) (λ i. with_place lengths name bracket i (update lengths name op at value))

-- a declarator: its initial value, or 0 each time that it is reached
abbrev pub declare : List ℕ → ℕ → Option SourceExpression → ProgramState → Completion
declare lengths name None s = assign name (pos 0) s
declare lengths name (Some initial) s = do_with (eval lengths initial s) (assign name)

-- ---- loops

-- a turn is started where one is left
abbrev pub turn_from : ℕ → (ProgramState → Completion) → ProgramState → Completion
turn_from zero body s = Spent s
turn_from (suc left) body s = body (set_turns left s)

-- a turn from a state
abbrev pub turn_of : (ProgramState → Completion) → ProgramState → Completion
turn_of body s = turn_from s.turns body s

-- the body, then the step, then what follows
abbrev pub round_of : (ProgramState → Completion) → (ProgramState → Completion) → (ProgramState → Completion) → ProgramState → Completion
round_of body step next s = after_body (body s) (λ s. then_do (step s) next)

-- a loop: while the condition holds, a turn. At most so many tests; a loop that begins with more tests than turns
-- that are left runs out of turns first
abbrev pub loop : ℕ → (ProgramState → Evaluated) → (ProgramState → Completion) → (ProgramState → Completion) → ProgramState → Completion
loop zero test step body s = Spent s
loop (suc tests) test step body s =
    do_with (test s) (λ v. side v (turn_of (round_of body step (loop tests test step body))) GoesOn)

-- a loop from a state, with one test more than there are turns left
abbrev pub loop_from : (ProgramState → Evaluated) → (ProgramState → Completion) → (ProgramState → Completion) → ProgramState → Completion
loop_from test step body s = loop (suc s.turns) test step body s

-- a loop whose first turn comes before the first test
abbrev pub do_loop : (ProgramState → Evaluated) → (ProgramState → Completion) → ProgramState → Completion
do_loop test body s = turn_of (round_of body GoesOn (loop_from test GoesOn body)) s

-- ---- statements

abbrev mutual
  -- a statement in a state, in a program with arrays of these lengths
  pub execute : List ℕ → SourceStatement → ProgramState → Completion
  execute lengths (Scope items) s = execute_list lengths items s
  execute lengths (ScalarDeclaration name line initial) s = declare lengths name initial s
  -- an array is there before the program starts, with its data
  execute lengths (ArrayDeclaration name line at length values) s = GoesOn s
  execute lengths (Assignment name line index bracket op at value) s =
      assignment lengths name line index bracket op at value s
  execute lengths (Printing line value) s = do_with (eval lengths value s) (λ v s. GoesOn (add_printed v s))
  execute lengths (Evaluation line value) s = do_with (eval lengths value s) (λ v. GoesOn)
  execute lengths (Branch line test body otherwise) s =
      do_with (eval lengths test s) (λ v. side v (execute lengths body) (execute_optional lengths otherwise))
  execute lengths (WhileLoop line test body) s = loop_from (eval lengths test) GoesOn (execute lengths body) s
  execute lengths (DoLoop line body test) s = do_loop (eval lengths test) (execute lengths body) s
  execute lengths (ForLoop line first test step body) s =
      then_do (execute_list lengths first s)
      (loop_from (eval lengths test) (execute_optional lengths step) (execute lengths body))
  execute lengths (BreakOut line) s = Breaks s
  execute lengths (ContinueOn line) s = Continues s
  execute lengths (ReturnFrom line value) s = do_with (eval lengths value s) (λ v. Returns)
  execute lengths Nothing s = GoesOn s

  -- a statement that may be left out
  pub execute_optional : List ℕ → OptionalStatement → ProgramState → Completion
  execute_optional lengths Absent s = GoesOn s
  execute_optional lengths (Present statement) s = execute lengths statement s

  -- statements in order
  pub execute_list : List ℕ → SourceList → ProgramState → Completion
  execute_list lengths No_more s = GoesOn s
  execute_list lengths (More first rest) s = then_do (execute lengths first s) (execute_list lengths rest)
