-- The line of the source that each node of a program's flow graph comes from, in the order of the nodes' numbers.
use Rattle.std.specs.Prelude.{ℕ, List, [], ◌∷◌, ◌++◌, replicate, Option, Some, None}
use Rattle.pc_syntax.specs.declared.operator.BinaryOp.{BinaryOp}
use Rattle.pc_syntax.specs.Source.{SourceExpression, Literal, Variable, Input, Indexed, Prefixed, Combined, Conjunction, Disjunction, Conditional}
use Rattle.pc_syntax.specs.Source.{SourceStatement, Scope, ScalarDeclaration, ArrayDeclaration, Assignment, Printing, Evaluation, Branch, WhileLoop}
use Rattle.pc_syntax.specs.Source.{DoLoop, ForLoop, BreakOut, ContinueOn, ReturnFrom, Nothing, OptionalStatement, Absent, Present, SourceList}
use Rattle.pc_syntax.specs.Source.{No_more, More, ResolvedProgram}
use Rattle.pc_check.specs.Sizes.{operator_size}

-- The lines of an expression's nodes. Those of an operator, a bracket or a `read()` are at its own line; those of a unary operator, of `&&`,
-- `||` and `?:`, which keep none, at the line of what they stand in.
unfoldable pub expression_lines : (around : ℕ) → SourceExpression → List ℕ
expression_lines around (Literal value) = []
expression_lines around (Variable symbol line) = []
expression_lines around (Input line) = replicate 4 line
expression_lines around (Indexed symbol line at index) = expression_lines at index ++ replicate 4 at
expression_lines around (Prefixed op operand) = expression_lines around operand ++ replicate 1 around
expression_lines around (Combined op at left right) =
    expression_lines at left ++ (expression_lines at right ++ replicate (operator_size op) at)
-- the left operand, its test, the right one, and on each side what sets the value
expression_lines around (Conjunction left right) =
    expression_lines around left ++ (replicate 1 around ++ (expression_lines around right ++ replicate 2 around))
expression_lines around (Disjunction left right) =
    expression_lines around left ++ (replicate 1 around ++ (expression_lines around right ++ replicate 2 around))
-- the condition, its test, and each expression with what sets the value
expression_lines around (Conditional test one other) =
    expression_lines around test ++ (replicate 1 around ++ (expression_lines around one
    ++ (replicate 1 around ++ (expression_lines around other ++ replicate 1 around))))

-- the lines of an expression that may be left out
abbrev pub optional_lines : (around : ℕ) → Option SourceExpression → List ℕ
optional_lines around None = []
optional_lines around (Some e) = expression_lines around e

-- the lines of a compound assignment's operator
abbrev pub compound_lines : Option BinaryOp → (at : ℕ) → List ℕ
compound_lines None at = []
compound_lines (Some op) at = replicate (operator_size op) at

-- The lines of an assignment's nodes: to a scalar, the value, the operation and the copy. To an element, the index, the value, the bound
-- test and the store; with an operator the bound test and the load come before the value.
abbrev pub assignment_lines : (line : ℕ) → Option SourceExpression → (bracket : ℕ) → Option BinaryOp → (at : ℕ) → SourceExpression → List ℕ
assignment_lines line None bracket op at value = expression_lines line value ++ (compound_lines op at ++ replicate 1 line)
assignment_lines line (Some index) bracket None at value =
    expression_lines bracket index ++ (expression_lines line value ++ (replicate 3 bracket ++ replicate 1 line))
assignment_lines line (Some index) bracket (Some op) at value =
    expression_lines bracket index ++ (replicate 4 bracket ++ (expression_lines line value
    ++ (replicate (operator_size op) at ++ replicate 1 line)))

unfoldable mutual
  -- the lines of a statement's nodes
  pub statement_lines : SourceStatement → List ℕ
  statement_lines (Scope items) = list_lines items
  statement_lines (ScalarDeclaration symbol line initial) = optional_lines line initial ++ replicate 1 line
  statement_lines (ArrayDeclaration symbol line at length values) = []
  statement_lines (Assignment symbol line index bracket op at value) = assignment_lines line index bracket op at value
  statement_lines (Printing line value) = expression_lines line value ++ replicate 1 line
  statement_lines (Evaluation line value) = expression_lines line value
  statement_lines (Branch line test body otherwise) =
      expression_lines line test ++ (replicate 1 line ++ (statement_lines body ++ branch_lines otherwise))
  statement_lines (WhileLoop line test body) = expression_lines line test ++ (replicate 1 line ++ statement_lines body)
  statement_lines (DoLoop line body test) = statement_lines body ++ (expression_lines line test ++ replicate 1 line)
  statement_lines (ForLoop line first test step body) =
      list_lines first ++ (expression_lines line test ++ (replicate 1 line ++ (statement_lines body ++ branch_lines step)))
  statement_lines (BreakOut line) = []
  statement_lines (ContinueOn line) = []
  statement_lines (ReturnFrom line value) = expression_lines line value
  statement_lines Nothing = []

  -- the lines of a statement that may be left out
  pub branch_lines : OptionalStatement → List ℕ
  branch_lines Absent = []
  branch_lines (Present statement) = statement_lines statement

  -- the lines of statements in order
  pub list_lines : SourceList → List ℕ
  list_lines No_more = []
  list_lines (More first rest) = statement_lines first ++ list_lines rest

-- the lines of all nodes of a program but the last, which is its end
abbrev pub lines_of : ResolvedProgram → List ℕ
lines_of program = list_lines program.body
