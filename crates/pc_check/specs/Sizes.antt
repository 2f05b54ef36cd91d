-- How many nodes the flow graph of a program has.
use Rattle.std.specs.Prelude.{ℕ, ◌+◌, Option, Some, None}
use Rattle.pc_syntax.specs.declared.operator.BinaryOp.{BinaryOp}
use Rattle.pc_syntax.specs.declared.operator.BinaryOp.TheVariants as op
use Rattle.pc_syntax.specs.Source.{SourceExpression, Literal, Variable, Input, Indexed, Prefixed, Combined, Conjunction, Disjunction, Conditional}
use Rattle.pc_syntax.specs.Source.{SourceStatement, Scope, ScalarDeclaration, ArrayDeclaration, Assignment, Printing, Evaluation, Branch, WhileLoop}
use Rattle.pc_syntax.specs.Source.{DoLoop, ForLoop, BreakOut, ContinueOn, ReturnFrom, Nothing, OptionalStatement, Absent, Present, SourceList}
use Rattle.pc_syntax.specs.Source.{No_more, More, SourceProgram, ResolvedProgram}

-- an operation, and before a division the test of its divisor with the trap
abbrev pub operator_size : BinaryOp → ℕ
operator_size op.Div = 3
operator_size op.Rem = 3
operator_size _ = 1

-- the nodes of an expression
unfoldable pub expression_size : SourceExpression → ℕ
expression_size (Literal value) = 0
expression_size (Variable symbol line) = 0
-- whether input is left, the test of that, the trap, the read
expression_size (Input line) = 4
-- whether the index is below the length, the test of that, the trap, the load
expression_size (Indexed symbol line at index) = expression_size index + 4
expression_size (Prefixed op operand) = expression_size operand + 1
expression_size (Combined op at left right) = expression_size left + expression_size right + operator_size op
-- the test, and on each side what sets the value
expression_size (Conjunction left right) = expression_size left + expression_size right + 3
expression_size (Disjunction left right) = expression_size left + expression_size right + 3
expression_size (Conditional test one other) = expression_size test + expression_size one + expression_size other + 3

-- the nodes of an expression that may be left out
abbrev pub optional_size : Option SourceExpression → ℕ
optional_size None = 0
optional_size (Some e) = expression_size e

-- the nodes of the operator of a compound assignment
abbrev pub compound_size : Option BinaryOp → ℕ
compound_size None = 0
compound_size (Some op) = operator_size op

-- The nodes that an assignment has beyond its parts: a copy, or the bound test, the trap and the store, and
-- with an operator also the load and the operation.
abbrev pub target_size : Option SourceExpression → Option BinaryOp → ℕ
target_size None op = compound_size op + 1
target_size (Some index) None = 4
target_size (Some index) (Some op) = operator_size op + 5

unfoldable mutual
  -- the nodes of a statement
  pub statement_size : SourceStatement → ℕ
  statement_size (Scope items) = list_size items
  statement_size (ScalarDeclaration symbol line initial) = optional_size initial + 1
  -- its elements are there before the program starts
  statement_size (ArrayDeclaration symbol line at length values) = 0
  statement_size (Assignment symbol line index bracket op at value) =
      optional_size index + expression_size value + target_size index op
  statement_size (Printing line value) = expression_size value + 1
  statement_size (Evaluation line value) = expression_size value
  statement_size (Branch line test body otherwise) =
      expression_size test + statement_size body + branch_size otherwise + 1
  statement_size (WhileLoop line test body) = expression_size test + statement_size body + 1
  statement_size (DoLoop line body test) = statement_size body + expression_size test + 1
  statement_size (ForLoop line first test step body) =
      list_size first + expression_size test + branch_size step + statement_size body + 1
  statement_size (BreakOut line) = 0
  statement_size (ContinueOn line) = 0
  statement_size (ReturnFrom line value) = expression_size value
  statement_size Nothing = 0

  -- the nodes of a statement that may be left out
  pub branch_size : OptionalStatement → ℕ
  branch_size Absent = 0
  branch_size (Present statement) = statement_size statement

  -- the nodes of statements in order
  pub list_size : SourceList → ℕ
  list_size No_more = 0
  list_size (More first rest) = statement_size first + list_size rest

-- the nodes of a program: those of its statements and the stop
abbrev pub size : SourceProgram → ℕ
size program = list_size program.items + 1

-- the same of a program with numbers for names
abbrev pub resolved_size : ResolvedProgram → ℕ
resolved_size program = list_size program.body + 1
