-- How many parts an expression or a statement has: what falls as it is lowered.
use Rattle.std.proofs.Common.{ℕ, ◌+◌, ◌≤◌, arith}
use Rattle.pc_syntax.specs.Source.{SourceExpression, Literal, Variable, Input, Indexed, Prefixed, Combined, Conjunction, Disjunction, Conditional}
use Rattle.pc_syntax.specs.Source.{SourceStatement, Scope, ScalarDeclaration, ArrayDeclaration, Assignment, Printing, Evaluation, Branch, WhileLoop}
use Rattle.pc_syntax.specs.Source.{DoLoop, ForLoop, BreakOut, ContinueOn, ReturnFrom, Nothing, OptionalStatement, Absent, Present, SourceList, No_more, More}

-- the parts of an expression, and itself
abbrev pub weight : SourceExpression → ℕ
weight (Literal value) = 1
weight (Variable symbol line) = 1
weight (Input line) = 1
weight (Indexed symbol line at index) = weight index + 1
weight (Prefixed op operand) = weight operand + 1
weight (Combined op at left right) = weight left + weight right + 1
weight (Conjunction left right) = weight left + weight right + 1
weight (Disjunction left right) = weight left + weight right + 1
weight (Conditional test one other) = weight test + weight one + weight other + 1

abbrev mutual
  -- the parts of a statement, and itself
  pub statement_weight : SourceStatement → ℕ
  statement_weight (Scope items) = list_weight items + 1
  statement_weight (ScalarDeclaration name line initial) = 1
  statement_weight (ArrayDeclaration name line at length values) = 1
  statement_weight (Assignment name line index bracket op at value) = 1
  statement_weight (Printing line value) = 1
  statement_weight (Evaluation line value) = 1
  statement_weight (Branch line test body otherwise) = statement_weight body + branch_weight otherwise + 1
  statement_weight (WhileLoop line test body) = statement_weight body + 1
  statement_weight (DoLoop line body test) = statement_weight body + 1
  statement_weight (ForLoop line first test step body) = list_weight first + branch_weight step + statement_weight body + 1
  statement_weight (BreakOut line) = 1
  statement_weight (ContinueOn line) = 1
  statement_weight (ReturnFrom line value) = 1
  statement_weight Nothing = 1

  -- the parts of a statement that may be left out
  pub branch_weight : OptionalStatement → ℕ
  branch_weight Absent = 1
  branch_weight (Present statement) = statement_weight statement + 1

  -- the parts of statements in order
  pub list_weight : SourceList → ℕ
  list_weight No_more = 1
  list_weight (More first rest) = statement_weight first + list_weight rest + 1

-- statements in order have a weight
pub list_some : (items : SourceList) → 1 ≤ list_weight items
list_some No_more = omega arith
list_some (More first rest) = omega arith
