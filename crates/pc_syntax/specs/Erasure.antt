-- What a tree in memory stands for.
use Rattle.std.specs.Prelude.{Option, Some, None, option_map, List, [], ◌∷◌}
use Rattle.std.specs.declared.boxed.Box.{Box}
use Rattle.std.specs.declared.alloc.Global.{Global}
use Rattle.pc_syntax.specs.declared.expression.Expr.{Expr, Lit, Name, Read, Element', Unary', Binary', Both', Either', Choose'}
use Rattle.pc_syntax.specs.declared.statement.Stmt.{Stmt, Block', Scalar, Array, Assign, Print, Eval, If', While', Do', For', Break, Continue, Return, Empty, Call}
use Rattle.pc_syntax.specs.declared.statement.Stmt.{Row_of-Stmt, end_of-Stmt, more_of-Stmt, Held-Stmt-If-3, None', Some'}
use Rattle.pc_syntax.specs.declared.program.Program.{Program}
use Rattle.pc_syntax.specs.Source.{SourceExpression, Literal, Variable, Input, Indexed, Prefixed, Combined, Conjunction, Disjunction, Conditional}
use Rattle.pc_syntax.specs.Source.{SourceStatement, Scope, ScalarDeclaration, ArrayDeclaration, Assignment, Printing, Evaluation}
use Rattle.pc_syntax.specs.Source.{Branch, WhileLoop, DoLoop, ForLoop, BreakOut, ContinueOn, ReturnFrom, Nothing}
use Rattle.pc_syntax.specs.Source.{OptionalStatement, Absent, Present, SourceList, No_more, More, SourceProgram}

-- the expression that a tree stands for
unfoldable pub expression_of : Expr → SourceExpression
expression_of (Lit value) = Literal value
expression_of (Name symbol line) = Variable symbol line
expression_of (Read line) = Input line
expression_of (Element' symbol line at p index) = Indexed symbol line at (expression_of index)
expression_of (Unary' op p operand) = Prefixed op (expression_of operand)
expression_of (Binary' op at p left q right) = Combined op at (expression_of left) (expression_of right)
expression_of (Both' p left q right) = Conjunction (expression_of left) (expression_of right)
expression_of (Either' p left q right) = Disjunction (expression_of left) (expression_of right)
expression_of (Choose' p test q one r other) = Conditional (expression_of test) (expression_of one) (expression_of other)

unfoldable mutual
  -- the statement that a tree without calls stands for; a call, which such a tree has not, stands for `;`
  pub statement_of : Stmt → SourceStatement
  statement_of (Block' n items) = Scope (row_of items)
  statement_of (Scalar symbol line init) = ScalarDeclaration symbol line (option_map expression_of init)
  statement_of (Array symbol line at length values) = ArrayDeclaration symbol line at length values
  statement_of (Assign symbol line index bracket op at value) =
      Assignment symbol line (option_map expression_of index) bracket op at (expression_of value)
  statement_of (Print line value) = Printing line (expression_of value)
  statement_of (Eval line value) = Evaluation line (expression_of value)
  statement_of (If' line test p body other) = Branch line (expression_of test) (statement_of body) (held_of other)
  statement_of (While' line test p body) = WhileLoop line (expression_of test) (statement_of body)
  statement_of (Do' line p body test) = DoLoop line (statement_of body) (expression_of test)
  statement_of (For' line n first test step p body) =
      ForLoop line (row_of first) (expression_of test) (held_of step) (statement_of body)
  statement_of (Break line) = BreakOut line
  statement_of (Continue line) = ContinueOn line
  statement_of (Return line value) = ReturnFrom line (expression_of value)
  statement_of Empty = Nothing
  statement_of (Call line target function at arguments) = Nothing

  -- the statements of a list that a tree holds
  pub row_of : {m : _} → Row_of-Stmt m → SourceList
  row_of end_of-Stmt = No_more
  row_of (more_of-Stmt first rest) = More (statement_of first) (row_of rest)

  -- the statement that a tree holds where it is not left out
  pub held_of : Held-Stmt-If-3 → OptionalStatement
  held_of None' = Absent
  held_of (Some' p statement) = Present (statement_of statement)

-- the statements that a list of trees stands for
unfoldable pub list_of : List Stmt → SourceList
list_of [] = No_more
list_of (first ∷ rest) = More (statement_of first) (list_of rest)

-- the statement that an optional tree stands for
unfoldable pub optional_of : Option (Box Stmt Global) → OptionalStatement
optional_of None = Absent
optional_of (Some boxed) = Present (statement_of boxed.value)

-- the program that a tree stands for
abbrev pub program_of : Program → SourceProgram
program_of program = record { items = list_of program.items }
