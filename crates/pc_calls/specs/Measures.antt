-- How many statements a program has, how many nodes its expressions have, and how high its tree is, measured as its text is where
-- it has no parentheses.
use Rattle.std.specs.Prelude.{ℕ, ◌+◌, max, pos, Bool, false, Option, Some, None, if◌then◌else◌, nat_eq}
use Rattle.pc_syntax.specs.declared.operator.BinaryOp.{BinaryOp}
use Rattle.pc_syntax.specs.declared.operator.BinaryOp.TheVariants as op
use Rattle.pc_syntax.specs.Source.{SourceExpression, Literal, Variable, Input, Indexed, Prefixed, Combined, Conjunction, Disjunction, Conditional}
use Rattle.pc_syntax.specs.Source.{SourceStatement, Scope, ScalarDeclaration, ArrayDeclaration, Assignment, Printing, Evaluation, Branch, WhileLoop}
use Rattle.pc_syntax.specs.Source.{DoLoop, ForLoop, BreakOut, ContinueOn, ReturnFrom, Nothing, OptionalStatement, Absent, Present, SourceList}
use Rattle.pc_syntax.specs.Source.{No_more, More}

-- how many statements there are, how many nodes the trees of their expressions have, and how high the highest statement is
pub record Size : Type 0 where
  pub count : ℕ
  pub nodes : ℕ
  pub height : ℕ

-- no statement
abbrev pub no_size : Size
no_size = record { count = 0; nodes = 0; height = 0 }

-- the ones and the others
abbrev pub together : Size → Size → Size
together one other = record { count = one.count + other.count; nodes = one.nodes + other.nodes; height = max one.height other.height }

-- how many nodes the trees of expressions have, and how high the highest is
pub record Extent : Type 0 where
  pub nodes : ℕ
  pub high : ℕ

-- no expression
abbrev pub no_extent : Extent
no_extent = record { nodes = 0; high = 0 }

-- an expression without operands
abbrev pub leaf : Extent
leaf = record { nodes = 1; high = 1 }

-- the ones and the others
abbrev pub beside : Extent → Extent → Extent
beside one other = record { nodes = one.nodes + other.nodes; high = max one.high other.high }

-- an operator with such operands
abbrev pub raised : Extent → Extent
raised operands = record { nodes = 1 + operands.nodes; high = 1 + operands.high }

-- the target of an assignment, with such an index: it is no expression, but is as high as one
abbrev pub indexed : Extent → Extent
indexed index = record { nodes = index.nodes; high = 1 + index.high }

-- an expression, with its height as that of a text without parentheses
unfoldable pub extent : SourceExpression → Extent
extent (Literal value) = leaf
extent (Variable symbol line) = leaf
extent (Input line) = leaf
extent (Indexed symbol line at index) = raised (extent index)
extent (Prefixed op operand) = raised (extent operand)
extent (Combined op at left right) = raised (beside (extent left) (extent right))
extent (Conjunction left right) = raised (beside (extent left) (extent right))
extent (Disjunction left right) = raised (beside (extent left) (extent right))
extent (Conditional test one other) = raised (beside (extent test) (beside (extent one) (extent other)))

-- one that may be left out
abbrev pub optional_extent : Option SourceExpression → Extent
optional_extent None = no_extent
optional_extent (Some e) = extent e

-- whether an expression is the number 1
abbrev pub is_one : SourceExpression → Bool
is_one (Literal (pos n)) = nat_eq n 1
is_one _ = false

-- a value in an assignment with an operator: `x += 1` is as high as `x++`
abbrev pub changed_extent : BinaryOp → SourceExpression → Extent
changed_extent op.Add e = if is_one e then (record { nodes = 1; high = 0 }) else extent e
changed_extent op.Sub e = if is_one e then (record { nodes = 1; high = 0 }) else extent e
changed_extent _ e = extent e

-- the expressions of an assignment
abbrev pub assignment_extent : Option SourceExpression → Option BinaryOp → SourceExpression → Extent
assignment_extent None None value = extent value
assignment_extent None (Some op) value = changed_extent op value
assignment_extent (Some index) op value = beside (indexed (extent index)) (extent value)

-- a statement with such expressions, round these
abbrev pub around : Extent → Size → Size
around expressions inner =
    record { count = 1 + inner.count; nodes = expressions.nodes + inner.nodes; height = 1 + max expressions.high inner.height }

-- ---- statements

unfoldable mutual
  pub statement_measure : SourceStatement → Size
  statement_measure (Scope items) = around no_extent (list_measure items)
  statement_measure (ScalarDeclaration symbol line initial) = around (optional_extent initial) no_size
  statement_measure (ArrayDeclaration symbol line at length values) = around no_extent no_size
  statement_measure (Assignment symbol line index bracket op at value) = around (assignment_extent index op value) no_size
  statement_measure (Printing line value) = around (extent value) no_size
  statement_measure (Evaluation line value) = around (extent value) no_size
  statement_measure (Branch line test body otherwise) = around (extent test) (together (statement_measure body) (branch_measure otherwise))
  statement_measure (WhileLoop line test body) = around (extent test) (statement_measure body)
  statement_measure (DoLoop line body test) = around (extent test) (statement_measure body)
  statement_measure (ForLoop line first test step body) =
      around (extent test) (together (list_measure first) (together (branch_measure step) (statement_measure body)))
  statement_measure (BreakOut line) = around no_extent no_size
  statement_measure (ContinueOn line) = around no_extent no_size
  statement_measure (ReturnFrom line value) = around (extent value) no_size
  statement_measure Nothing = around no_extent no_size

  pub branch_measure : OptionalStatement → Size
  branch_measure Absent = no_size
  branch_measure (Present statement) = statement_measure statement

  pub list_measure : SourceList → Size
  list_measure No_more = no_size
  list_measure (More first rest) = together (statement_measure first) (list_measure rest)
