-- A tree's statement, calls taken for `;`, follows from its statement with them.
use Rattle.std.proofs.Common.{◌≡◌, refl, ap, sym, ◌∙◌, ℕ, List, [], ◌∷◌}
use Rattle.pc_syntax.specs.declared.expression.Expr.{Expr}
use Rattle.pc_syntax.specs.declared.statement.Stmt.{Stmt, Block', Scalar, Array, Assign, Print, Eval, If', While', Do', For', Break, Continue, Return, Empty, Call}
use Rattle.pc_syntax.specs.declared.statement.Stmt.{Row_of-Stmt, end_of-Stmt, more_of-Stmt, Held-Stmt-If-3, None', Some'}
use Rattle.pc_syntax.specs.Source.{SourceStatement, OptionalStatement, SourceList, Scope, ScalarDeclaration, ArrayDeclaration, Assignment, Printing, Evaluation}
use Rattle.pc_syntax.specs.Source.{Branch, WhileLoop, DoLoop, ForLoop, BreakOut, ContinueOn, ReturnFrom, Nothing, Absent, Present, No_more, More}
use Rattle.pc_syntax.specs.Unit as unit
use Rattle.pc_syntax.specs.Unit.{UnitStatement, UnitOptional, UnitList}
use Rattle.pc_syntax.specs.Erasure.{expression_of, statement_of, row_of, held_of, list_of}
use Rattle.pc_syntax.specs.UnitErasure.{unit_statement_of, unit_row_of, unit_held_of, unit_list_of}

unfoldable mutual
  -- a statement with each of its calls taken for `;`
  pub without_calls : UnitStatement → SourceStatement
  without_calls (unit.Block items) = Scope (list_without_calls items)
  without_calls (unit.Scalar symbol line initial) = ScalarDeclaration symbol line initial
  without_calls (unit.Array symbol line at length values) = ArrayDeclaration symbol line at length values
  without_calls (unit.Assign symbol line index bracket op at value) = Assignment symbol line index bracket op at value
  without_calls (unit.Print line value) = Printing line value
  without_calls (unit.Eval line value) = Evaluation line value
  without_calls (unit.If line test body otherwise) = Branch line test (without_calls body) (optional_without_calls otherwise)
  without_calls (unit.While line test body) = WhileLoop line test (without_calls body)
  without_calls (unit.Do line body test) = DoLoop line (without_calls body) test
  without_calls (unit.For line first test step body) =
      ForLoop line (list_without_calls first) test (optional_without_calls step) (without_calls body)
  without_calls (unit.Break line) = BreakOut line
  without_calls (unit.Continue line) = ContinueOn line
  without_calls (unit.Return line value) = ReturnFrom line value
  without_calls unit.Empty = Nothing
  without_calls (unit.Call line target function at arguments) = Nothing

  -- the same of a statement that may be left out
  pub optional_without_calls : UnitOptional → OptionalStatement
  optional_without_calls unit.Without = Absent
  optional_without_calls (unit.With statement) = Present (without_calls statement)

  -- the same of statements in order
  pub list_without_calls : UnitList → SourceList
  list_without_calls unit.Finish = No_more
  list_without_calls (unit.Item first rest) = More (without_calls first) (list_without_calls rest)

mutual
  unfolding statement_of unit_statement_of without_calls

  -- a tree's statement
  pub statement_without_calls : (tree : Stmt) → without_calls (unit_statement_of tree) ≡ statement_of tree
  statement_without_calls (Block' n items) = ap Scope (row_without_calls items)
  statement_without_calls (Scalar symbol line init) = refl
  statement_without_calls (Array symbol line at length values) = refl
  statement_without_calls (Assign symbol line index bracket op at value) = refl
  statement_without_calls (Print line value) = refl
  statement_without_calls (Eval line value) = refl
  statement_without_calls (If' line test p body other) =
      ap (λ (x : SourceStatement). Branch line (expression_of test) x (optional_without_calls (unit_held_of other))) (statement_without_calls body)
      ∙ ap (Branch line (expression_of test) (statement_of body)) (held_without_calls other)
  statement_without_calls (While' line test p body) = ap (WhileLoop line (expression_of test)) (statement_without_calls body)
  statement_without_calls (Do' line p body test) = ap (λ (x : SourceStatement). DoLoop line x (expression_of test)) (statement_without_calls body)
  statement_without_calls (For' line n first test step p body) =
      ap (λ (x : SourceList). ForLoop line x (expression_of test) (optional_without_calls (unit_held_of step)) (without_calls (unit_statement_of body))) (row_without_calls first)
      ∙ ap (λ (x : OptionalStatement). ForLoop line (row_of first) (expression_of test) x (without_calls (unit_statement_of body))) (held_without_calls step)
      ∙ ap (ForLoop line (row_of first) (expression_of test) (held_of step)) (statement_without_calls body)
  statement_without_calls (Break line) = refl
  statement_without_calls (Continue line) = refl
  statement_without_calls (Return line value) = refl
  statement_without_calls Empty = refl
  statement_without_calls (Call line target function at arguments) = refl

  row_without_calls : {m : _} (row : Row_of-Stmt m) → list_without_calls (unit_row_of row) ≡ row_of row
  row_without_calls end_of-Stmt = refl
  row_without_calls (more_of-Stmt first rest) =
      ap (λ (x : SourceStatement). More x (list_without_calls (unit_row_of rest))) (statement_without_calls first) ∙ ap (More (statement_of first)) (row_without_calls rest)

  held_without_calls : (held : Held-Stmt-If-3) → optional_without_calls (unit_held_of held) ≡ held_of held
  held_without_calls None' = refl
  held_without_calls (Some' p statement) = ap Present (statement_without_calls statement)

-- the same of a list
pub trees_without_calls : (trees : List Stmt) → list_without_calls (unit_list_of trees) ≡ list_of trees
unfolding list_of unit_list_of without_calls
trees_without_calls [] = refl
trees_without_calls (first ∷ rest) =
    ap (λ (x : SourceStatement). More x (list_without_calls (unit_list_of rest))) (statement_without_calls first) ∙ ap (More (statement_of first)) (trees_without_calls rest)

-- lists of trees that stand for the same statements with calls stand for the same without
pub same_without_calls : (one other : List Stmt) → unit_list_of one ≡ unit_list_of other → list_of one ≡ list_of other
same_without_calls one other same = sym (trees_without_calls one) ∙ ap list_without_calls same ∙ trees_without_calls other
