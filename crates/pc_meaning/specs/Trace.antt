-- The kinds of the operations and tests that the evaluation of a program passes, in order, where each construct is
-- lowered to a fixed number of them.
use Rattle.std.specs.Prelude.{ℕ, zero, suc, ℤ, Bool, true, false, List, [], ◌∷◌, ◌++◌, Option, Some, None, slice_index}
use Rattle.pc_word.specs.declared.item.OpCode.{OpCode}
use Rattle.pc_word.specs.declared.item.OpCode.TheVariants as codes
use Rattle.pc_word.specs.Items.{place_in}
use Rattle.pc_syntax.specs.declared.operator.BinaryOp.{BinaryOp}
use Rattle.pc_syntax.specs.Source.{ResolvedProgram, SourceExpression, Literal, Variable, Input, Indexed, Prefixed, Combined, Conjunction}
use Rattle.pc_syntax.specs.Source.{Disjunction, Conditional, SourceStatement, SourceList, OptionalStatement, Scope, ScalarDeclaration}
use Rattle.pc_syntax.specs.Source.{ArrayDeclaration, Assignment, Printing, Evaluation, Branch, WhileLoop, DoLoop, ForLoop, BreakOut, ContinueOn}
use Rattle.pc_syntax.specs.Source.{ReturnFrom, Nothing, Absent, Present, No_more, More}
use Rattle.pc_meaning.specs.ProgramState.{ProgramState, source_start, set_turns}
use Rattle.pc_meaning.specs.Expression.{Evaluated, Given, Caught, side, divides, operate, at_place, eval}
use Rattle.pc_meaning.specs.Lowered.{prefix_code, binary_code}
use Rattle.pc_meaning.specs.Statement.{Completion, GoesOn, Breaks, Continues, Returns, Traps, Spent, execute, execute_list, execute_optional}

-- a kind of operation, or a test: what a node of a flow graph does, but for where it reads and writes
pub data Kind : Type 0 where
  -- an operator of the machine
  Binary_node : (op : OpCode) → Kind
  -- a copy to a scalar or to where a value is held
  Copy_node : Kind
  -- a load of an element
  Load_node : Kind
  -- a store into an element
  Store_node : Kind
  -- a print
  Print_node : Kind
  -- a read of the next number of the input
  Read_node : Kind
  -- whether there is more input
  More_node : Kind
  -- a test of a value
  Test_node : Kind

-- whether a kind is that of a print
abbrev pub is_print : Kind → Bool
is_print Print_node = true
is_print _ = false

-- whether a kind is that of a read
abbrev pub is_read : Kind → Bool
is_read Read_node = true
is_read _ = false

-- ---- one after another

-- what an expression passed, and where it gave a value, what is passed after it
abbrev pub traced : List Kind → Evaluated → (ℤ → ProgramState → List Kind) → List Kind
traced passed (Given value s) next = passed ++ next value s
traced passed (Caught kind line s) next = passed

-- what a statement passed, and where it goes on, what is passed after it
abbrev pub traced_on : List Kind → Completion → (ProgramState → List Kind) → List Kind
traced_on passed (GoesOn s) next = passed ++ next s
traced_on passed (Breaks s) next = passed
traced_on passed (Continues s) next = passed
traced_on passed (Returns s) next = passed
traced_on passed (Traps kind line s) next = passed
traced_on passed (Spent s) next = passed

-- what the body of a loop passed, and where it goes on or continues, what is passed after it
abbrev pub traced_body : List Kind → Completion → (ProgramState → List Kind) → List Kind
traced_body passed (GoesOn s) next = passed ++ next s
traced_body passed (Breaks s) next = passed
traced_body passed (Continues s) next = passed ++ next s
traced_body passed (Returns s) next = passed
traced_body passed (Traps kind line s) next = passed
traced_body passed (Spent s) next = passed

-- a test, and what is passed after it
abbrev pub tested : (ProgramState → List Kind) → ProgramState → List Kind
tested next s = Test_node ∷ next s

-- nothing
abbrev pub passes_nothing : ProgramState → List Kind
passes_nothing s = []

-- one operation
abbrev pub passes : Kind → ProgramState → List Kind
passes kind s = kind ∷ []

-- ---- expressions

-- a read tests whether there is more input
abbrev pub read_trace : List ℤ → List Kind
read_trace [] = More_node ∷ Test_node ∷ []
read_trace (value ∷ rest) = More_node ∷ Test_node ∷ Read_node ∷ []

-- a bound test, and what is passed at the place
abbrev pub place_trace : List ℕ → ℕ → ℤ → (ℕ → ProgramState → List Kind) → ProgramState → List Kind
place_trace lengths array index next s =
    Binary_node codes.Below ∷ tested (at_place (place_in (slice_index lengths array) index) passes_nothing next) s

-- an operation, after a test of its divisor where there is one
abbrev pub divisor_trace : Bool → ℤ → Kind → ProgramState → List Kind
divisor_trace true divisor kind s = tested (side divisor (passes kind) passes_nothing) s
divisor_trace false divisor kind s = passes kind s

-- a binary operator on its two values
abbrev pub operation_trace : BinaryOp → ℤ → ProgramState → List Kind
operation_trace op b s = divisor_trace (divides op) b (Binary_node (binary_code op)) s

-- what an expression passes in a state
abbrev pub trace : List ℕ → SourceExpression → ProgramState → List Kind
trace lengths (Literal value) s = []
trace lengths (Variable scalar line) s = []
trace lengths (Input line) s = read_trace s.input
trace lengths (Indexed array line at index) s =
    traced (trace lengths index s) (eval lengths index s) (λ i. place_trace lengths array i (λ place. passes Load_node))
trace lengths (Prefixed op operand) s =
    traced (trace lengths operand s) (eval lengths operand s) (λ a. passes (Binary_node (prefix_code op)))
trace lengths (Combined op at left right) s =
    traced (trace lengths left s) (eval lengths left s)
    (λ a s. traced (trace lengths right s) (eval lengths right s) (operation_trace op))
trace lengths (Conjunction left right) s =
    traced (trace lengths left s) (eval lengths left s)
    (λ a. tested (side a (λ s. traced (trace lengths right s) (eval lengths right s) (λ b. passes (Binary_node codes.Unequal))) (passes Copy_node)))
trace lengths (Disjunction left right) s =
    traced (trace lengths left s) (eval lengths left s)
    (λ a. tested (side a (passes Copy_node) (λ s. traced (trace lengths right s) (eval lengths right s) (λ b. passes (Binary_node codes.Unequal)))))
trace lengths (Conditional test one other) s =
    traced (trace lengths test s) (eval lengths test s)
    (λ a. tested (side a
    (λ s. traced (trace lengths one s) (eval lengths one s) (λ b. passes Copy_node))
    (λ s. traced (trace lengths other s) (eval lengths other s) (λ b. passes Copy_node))))

-- ---- assignments

-- the load, the value, the operator and the store of an element that is updated
abbrev pub update_trace : List ℕ → ℕ → BinaryOp → ℕ → SourceExpression → ℕ → ProgramState → List Kind
update_trace lengths array op at value place s =
    Load_node ∷ traced (trace lengths value s) (eval lengths value s)
    (λ b s'. traced (operation_trace op b s') (operate op at (s.cells array place) b s') (λ v. passes Store_node))

-- an assignment to a scalar or an element, with or without an operator
abbrev pub assignment_trace : List ℕ → ℕ → ℕ → Option SourceExpression → Option BinaryOp → ℕ → SourceExpression → ProgramState → List Kind
assignment_trace lengths name line None None at value s =
    traced (trace lengths value s) (eval lengths value s) (λ v. passes Copy_node)
assignment_trace lengths name line None (Some op) at value s =
    let both = Combined op at (Variable name line) value in
    traced (trace lengths both s) (eval lengths both s) (λ v. passes Copy_node)
assignment_trace lengths name line (Some index) None at value s =
    traced (trace lengths index s) (eval lengths index s)
    (λ i s. traced (trace lengths value s) (eval lengths value s) (λ v. place_trace lengths name i (λ place. passes Store_node)))
assignment_trace lengths name line (Some index) (Some op) at value s =
    traced (trace lengths index s) (eval lengths index s)
    (λ i. place_trace lengths name i (update_trace lengths name op at value))

-- a declarator
abbrev pub declaration_trace : List ℕ → Option SourceExpression → ProgramState → List Kind
declaration_trace lengths None s = Copy_node ∷ []
declaration_trace lengths (Some initial) s =
    traced (trace lengths initial s) (eval lengths initial s) (λ v. passes Copy_node)

-- ---- loops

-- what a turn passes, where one is left
abbrev pub turn_trace_from : ℕ → (ProgramState → List Kind) → ProgramState → List Kind
turn_trace_from zero body s = []
turn_trace_from (suc left) body s = body (set_turns left s)

-- what a turn from a state passes
abbrev pub turn_trace : (ProgramState → List Kind) → ProgramState → List Kind
turn_trace body s = turn_trace_from s.turns body s

-- the body, then the step, then what follows; each is given by what it does and by what it passes
abbrev pub round_trace : (ProgramState → Completion) → (ProgramState → List Kind) → (ProgramState → Completion) → (ProgramState → List Kind) → (ProgramState → List Kind) → ProgramState → List Kind
round_trace body body_trace step step_trace next s =
    traced_body (body_trace s) (body s) (λ s. traced_on (step_trace s) (step s) next)

-- a loop: its condition and a test each time, and its turns
abbrev pub loop_trace : ℕ → (ProgramState → Evaluated) → (ProgramState → List Kind) → (ProgramState → Completion) → (ProgramState → List Kind) → (ProgramState → Completion) →
    (ProgramState → List Kind) → ProgramState → List Kind
loop_trace zero test test_trace step step_trace body body_trace s = []
loop_trace (suc tests) test test_trace step step_trace body body_trace s =
    traced (test_trace s) (test s)
    (λ v. tested (side v (turn_trace (round_trace body body_trace step step_trace (loop_trace tests test test_trace step step_trace body body_trace))) passes_nothing))

-- a loop from a state
abbrev pub loop_trace_from : (ProgramState → Evaluated) → (ProgramState → List Kind) → (ProgramState → Completion) → (ProgramState → List Kind) → (ProgramState → Completion) →
    (ProgramState → List Kind) → ProgramState → List Kind
loop_trace_from test test_trace step step_trace body body_trace s =
    loop_trace (suc s.turns) test test_trace step step_trace body body_trace s

-- a loop whose first turn comes before the first test
abbrev pub do_loop_trace : (ProgramState → Evaluated) → (ProgramState → List Kind) → (ProgramState → Completion) → (ProgramState → List Kind) → ProgramState → List Kind
do_loop_trace test test_trace body body_trace s =
    turn_trace (round_trace body body_trace GoesOn passes_nothing (loop_trace_from test test_trace GoesOn passes_nothing body body_trace)) s

-- ---- statements

abbrev mutual
  -- what a statement passes in a state
  pub statement_trace : List ℕ → SourceStatement → ProgramState → List Kind
  statement_trace lengths (Scope items) s = list_trace lengths items s
  statement_trace lengths (ScalarDeclaration name line initial) s = declaration_trace lengths initial s
  statement_trace lengths (ArrayDeclaration name line at length values) s = []
  statement_trace lengths (Assignment name line index bracket op at value) s =
      assignment_trace lengths name line index op at value s
  statement_trace lengths (Printing line value) s =
      traced (trace lengths value s) (eval lengths value s) (λ v. passes Print_node)
  statement_trace lengths (Evaluation line value) s = trace lengths value s
  statement_trace lengths (Branch line test body otherwise) s =
      traced (trace lengths test s) (eval lengths test s)
      (λ v. tested (side v (statement_trace lengths body) (optional_trace lengths otherwise)))
  statement_trace lengths (WhileLoop line test body) s =
      loop_trace_from (eval lengths test) (trace lengths test) GoesOn passes_nothing (execute lengths body) (statement_trace lengths body) s
  statement_trace lengths (DoLoop line body test) s =
      do_loop_trace (eval lengths test) (trace lengths test) (execute lengths body) (statement_trace lengths body) s
  statement_trace lengths (ForLoop line first test step body) s =
      traced_on (list_trace lengths first s) (execute_list lengths first s)
      (loop_trace_from (eval lengths test) (trace lengths test) (execute_optional lengths step) (optional_trace lengths step) (execute lengths body) (statement_trace lengths body))
  statement_trace lengths (BreakOut line) s = []
  statement_trace lengths (ContinueOn line) s = []
  statement_trace lengths (ReturnFrom line value) s = trace lengths value s
  statement_trace lengths Nothing s = []

  -- what a statement passes that may be left out
  pub optional_trace : List ℕ → OptionalStatement → ProgramState → List Kind
  optional_trace lengths Absent s = []
  optional_trace lengths (Present statement) s = statement_trace lengths statement s

  -- what statements pass in order
  pub list_trace : List ℕ → SourceList → ProgramState → List Kind
  list_trace lengths No_more s = []
  list_trace lengths (More first rest) s =
      traced_on (statement_trace lengths first s) (execute lengths first s) (list_trace lengths rest)

-- the kinds that the evaluation of a program passes on an input, with at most n turns of loops in all. Where it traps or
-- its turns are spent, the last one is the test that leads to the trap, or to the turn that is not started
unfoldable pub trace_of : ResolvedProgram → List ℤ → ℕ → List Kind
trace_of program input n = list_trace program.arrays program.body (source_start program.initial input n)
