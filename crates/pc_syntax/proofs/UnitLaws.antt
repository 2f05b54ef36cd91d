-- What each variant of a tree that may have calls stands for, in terms of its fields as the code has them.
use Rattle.std.proofs.Common.{◌≡◌, refl, ap, ◌∙◌, ℕ, ℤ, List, [], ◌∷◌, ◌++◌}
use Rattle.std.specs.Prelude.{Option, Some, None, option_map, map}
use Rattle.std.specs.declared.boxed.Box.{Box}
use Rattle.std.specs.declared.alloc.Global.{Global}
use Rattle.pc_syntax.specs.declared.operator.BinaryOp.{BinaryOp}
use Rattle.pc_syntax.specs.declared.constant.Const.{Const}
use Rattle.pc_syntax.specs.declared.expression.Expr.{Expr}
use Rattle.pc_syntax.specs.declared.statement.Stmt.{Stmt, Block, Scalar, Array, Assign, Print, Eval, If, While, Do, For, Break, Continue, Return}
use Rattle.pc_syntax.specs.declared.unit.Target.{Target}
use Rattle.pc_syntax.specs.declared.statement.Stmt.{Empty, Call, Row_of-Stmt, end_of-Stmt, more_of-Stmt, items-the_row-Stmt, items_hidden-the_row-Stmt-0}
use Rattle.pc_syntax.specs.declared.statement.Stmt.TheBlock.{hidden-the_row-Stmt-0}
use Rattle.pc_syntax.specs.Unit as unit
use Rattle.pc_syntax.specs.Unit.{unit_appended}
use Rattle.pc_syntax.specs.Erasure.{expression_of}
use Rattle.pc_syntax.specs.UnitErasure.{unit_statement_of, unit_row_of, unit_held_of, unit_list_of, unit_optional_of}

-- a list that a tree holds stands for the same as the list of its items
unit_row_of-items : (n : _) (row : Row_of-Stmt n) → unit_row_of row ≡ unit_list_of (items-the_row-Stmt n row)
unfolding unit_row_of unit_list_of
unit_row_of-items n end_of-Stmt = refl
unit_row_of-items n (more_of-Stmt first rest) = ap (unit.Item (unit_statement_of first)) (unit_row_of-items _ rest)

-- a list that a tree holds stands for the same as the list that was put into it
unit_row_of-hidden : (items : List Stmt) → unit_row_of (hidden-the_row-Stmt-0 items) ≡ unit_list_of items
unit_row_of-hidden items = unit_row_of-items _ (hidden-the_row-Stmt-0 items) ∙ ap unit_list_of (items_hidden-the_row-Stmt-0 items)

module _ (s : Stmt) where
  pub unit_statement_of-Block : (items : List Stmt) → s ≡ Block items → unit_statement_of s ≡ unit.Block (unit_list_of items)
  unfolding unit_statement_of
  unit_statement_of-Block items is =
      ap unit_statement_of is ∙ ap unit.Block (unit_row_of-hidden items)

  pub unit_statement_of-Scalar : (symbol line : ℕ) (init : Option Expr) → s ≡ Scalar symbol line init →
      unit_statement_of s ≡ unit.Scalar symbol line (option_map expression_of init)
  unfolding unit_statement_of
  unit_statement_of-Scalar symbol line init is = ap unit_statement_of is

  pub unit_statement_of-Array : (symbol line at length : ℕ) (values : List Const) → s ≡ Array symbol line at length values →
      unit_statement_of s ≡ unit.Array symbol line at length values
  unfolding unit_statement_of
  unit_statement_of-Array symbol line at length values is = ap unit_statement_of is

  pub unit_statement_of-Assign : (symbol line : ℕ) (index : Option Expr) (bracket : ℕ) (op : Option BinaryOp) (at : ℕ) (value : Expr) →
      s ≡ Assign symbol line index bracket op at value →
      unit_statement_of s ≡ unit.Assign symbol line (option_map expression_of index) bracket op at (expression_of value)
  unfolding unit_statement_of
  unit_statement_of-Assign symbol line index bracket op at value is = ap unit_statement_of is

  pub unit_statement_of-Print : (line : ℕ) (value : Expr) → s ≡ Print line value → unit_statement_of s ≡ unit.Print line (expression_of value)
  unfolding unit_statement_of
  unit_statement_of-Print line value is = ap unit_statement_of is

  pub unit_statement_of-Eval : (line : ℕ) (value : Expr) → s ≡ Eval line value → unit_statement_of s ≡ unit.Eval line (expression_of value)
  unfolding unit_statement_of
  unit_statement_of-Eval line value is = ap unit_statement_of is

  pub unit_statement_of-If : (line : ℕ) (test : Expr) (body : Box Stmt Global) (other : Option (Box Stmt Global)) → s ≡ If line test body other →
      unit_statement_of s ≡ unit.If line (expression_of test) (unit_statement_of body.value) (unit_optional_of other)
  unfolding unit_statement_of unit_held_of unit_optional_of
  unit_statement_of-If line test body None is = ap unit_statement_of is
  unit_statement_of-If line test body (Some other) is = ap unit_statement_of is

  pub unit_statement_of-While : (line : ℕ) (test : Expr) (body : Box Stmt Global) → s ≡ While line test body →
      unit_statement_of s ≡ unit.While line (expression_of test) (unit_statement_of body.value)
  unfolding unit_statement_of
  unit_statement_of-While line test body is = ap unit_statement_of is

  pub unit_statement_of-Do : (line : ℕ) (body : Box Stmt Global) (test : Expr) → s ≡ Do line body test →
      unit_statement_of s ≡ unit.Do line (unit_statement_of body.value) (expression_of test)
  unfolding unit_statement_of
  unit_statement_of-Do line body test is = ap unit_statement_of is

  pub unit_statement_of-For : (line : ℕ) (first : List Stmt) (test : Expr) (step : Option (Box Stmt Global)) (body : Box Stmt Global) →
      s ≡ For line first test step body →
      unit_statement_of s ≡ unit.For line (unit_list_of first) (expression_of test) (unit_optional_of step) (unit_statement_of body.value)
  unfolding unit_statement_of unit_held_of unit_optional_of
  unit_statement_of-For line first test None body is =
      ap unit_statement_of is ∙ ap (λ (x : unit.UnitList). unit.For line x (expression_of test) unit.Without (unit_statement_of body.value)) (unit_row_of-hidden first)
  unit_statement_of-For line first test (Some step) body is =
      ap unit_statement_of is ∙ ap (λ (x : unit.UnitList). unit.For line x (expression_of test) (unit.With (unit_statement_of step.value)) (unit_statement_of body.value)) (unit_row_of-hidden first)

  pub unit_statement_of-Break : (line : ℕ) → s ≡ Break line → unit_statement_of s ≡ unit.Break line
  unfolding unit_statement_of
  unit_statement_of-Break line is = ap unit_statement_of is

  pub unit_statement_of-Continue : (line : ℕ) → s ≡ Continue line → unit_statement_of s ≡ unit.Continue line
  unfolding unit_statement_of
  unit_statement_of-Continue line is = ap unit_statement_of is

  pub unit_statement_of-Return : (line : ℕ) (value : Expr) → s ≡ Return line value → unit_statement_of s ≡ unit.Return line (expression_of value)
  unfolding unit_statement_of
  unit_statement_of-Return line value is = ap unit_statement_of is

  pub unit_statement_of-Empty : s ≡ Empty → unit_statement_of s ≡ unit.Empty
  unfolding unit_statement_of
  unit_statement_of-Empty is = ap unit_statement_of is

  pub unit_statement_of-Call : (line : ℕ) (target : Option Target) (function at : ℕ) (arguments : List Expr) →
      s ≡ Call line target function at arguments →
      unit_statement_of s ≡ unit.Call line target function at (map expression_of arguments)
  unfolding unit_statement_of
  unit_statement_of-Call line target function at arguments is = ap unit_statement_of is

-- the same of a tree as it is made
pub unit_statement_of-made_Block : (items : List Stmt) → unit_statement_of (Block items) ≡ unit.Block (unit_list_of items)
unit_statement_of-made_Block items = unit_statement_of-Block (Block items) items refl

pub unit_statement_of-made_Scalar : (symbol line : ℕ) (init : Option Expr) → unit_statement_of (Scalar symbol line init) ≡ unit.Scalar symbol line (option_map expression_of init)
unit_statement_of-made_Scalar symbol line init = unit_statement_of-Scalar (Scalar symbol line init) symbol line init refl

pub unit_statement_of-made_Array : (symbol line at length : ℕ) (values : List Const) →
    unit_statement_of (Array symbol line at length values) ≡ unit.Array symbol line at length values
unit_statement_of-made_Array symbol line at length values = unit_statement_of-Array (Array symbol line at length values) symbol line at length values refl

pub unit_statement_of-made_Assign : (symbol line : ℕ) (index : Option Expr) (bracket : ℕ) (op : Option BinaryOp) (at : ℕ) (value : Expr) →
    unit_statement_of (Assign symbol line index bracket op at value) ≡ unit.Assign symbol line (option_map expression_of index) bracket op at (expression_of value)
unit_statement_of-made_Assign symbol line index bracket op at value = unit_statement_of-Assign (Assign symbol line index bracket op at value) symbol line index bracket op at value refl

pub unit_statement_of-made_Print : (line : ℕ) (value : Expr) → unit_statement_of (Print line value) ≡ unit.Print line (expression_of value)
unit_statement_of-made_Print line value = unit_statement_of-Print (Print line value) line value refl

pub unit_statement_of-made_Eval : (line : ℕ) (value : Expr) → unit_statement_of (Eval line value) ≡ unit.Eval line (expression_of value)
unit_statement_of-made_Eval line value = unit_statement_of-Eval (Eval line value) line value refl

pub unit_statement_of-made_If : (line : ℕ) (test : Expr) (body : Box Stmt Global) (other : Option (Box Stmt Global)) →
    unit_statement_of (If line test body other) ≡ unit.If line (expression_of test) (unit_statement_of body.value) (unit_optional_of other)
unit_statement_of-made_If line test body other = unit_statement_of-If (If line test body other) line test body other refl

pub unit_statement_of-made_While : (line : ℕ) (test : Expr) (body : Box Stmt Global) → unit_statement_of (While line test body) ≡ unit.While line (expression_of test) (unit_statement_of body.value)
unit_statement_of-made_While line test body = unit_statement_of-While (While line test body) line test body refl

pub unit_statement_of-made_Do : (line : ℕ) (body : Box Stmt Global) (test : Expr) → unit_statement_of (Do line body test) ≡ unit.Do line (unit_statement_of body.value) (expression_of test)
unit_statement_of-made_Do line body test = unit_statement_of-Do (Do line body test) line body test refl

pub unit_statement_of-made_For : (line : ℕ) (first : List Stmt) (test : Expr) (step : Option (Box Stmt Global)) (body : Box Stmt Global) →
    unit_statement_of (For line first test step body) ≡ unit.For line (unit_list_of first) (expression_of test) (unit_optional_of step) (unit_statement_of body.value)
unit_statement_of-made_For line first test step body = unit_statement_of-For (For line first test step body) line first test step body refl

pub unit_statement_of-made_Break : (line : ℕ) → unit_statement_of (Break line) ≡ unit.Break line
unit_statement_of-made_Break line = unit_statement_of-Break (Break line) line refl

pub unit_statement_of-made_Continue : (line : ℕ) → unit_statement_of (Continue line) ≡ unit.Continue line
unit_statement_of-made_Continue line = unit_statement_of-Continue (Continue line) line refl

pub unit_statement_of-made_Return : (line : ℕ) (value : Expr) → unit_statement_of (Return line value) ≡ unit.Return line (expression_of value)
unit_statement_of-made_Return line value = unit_statement_of-Return (Return line value) line value refl

pub unit_statement_of-made_Empty : unit_statement_of Empty ≡ unit.Empty
unit_statement_of-made_Empty = unit_statement_of-Empty Empty refl

pub unit_statement_of-made_Call : (line : ℕ) (target : Option Target) (function at : ℕ) (arguments : List Expr) →
    unit_statement_of (Call line target function at arguments) ≡ unit.Call line target function at (map expression_of arguments)
unit_statement_of-made_Call line target function at arguments = unit_statement_of-Call (Call line target function at arguments) line target function at arguments refl

-- an optional tree
pub unit_optional_of-None : (held : Option (Box Stmt Global)) → held ≡ None → unit_optional_of held ≡ unit.Without
unfolding unit_optional_of
unit_optional_of-None held is = ap unit_optional_of is

pub unit_optional_of-Some : (held : Option (Box Stmt Global)) (boxed : Box Stmt Global) → held ≡ Some boxed →
    unit_optional_of held ≡ unit.With (unit_statement_of boxed.value)
unfolding unit_optional_of
unit_optional_of-Some held boxed is = ap unit_optional_of is

pub unit_optional_of-made_None : unit_optional_of None ≡ unit.Without
unfolding unit_optional_of
unit_optional_of-made_None = refl

pub unit_optional_of-made_Some : (boxed : Box Stmt Global) → unit_optional_of (Some boxed) ≡ unit.With (unit_statement_of boxed.value)
unfolding unit_optional_of
unit_optional_of-made_Some boxed = refl

-- the empty list of trees
pub unit_list_of-empty : unit_list_of [] ≡ unit.Finish
unfolding unit_list_of
unit_list_of-empty = refl

-- a list of trees is that of its front, and then that of the rest
pub unit_list_of-append : (front rest : List Stmt) → unit_list_of (front ++ rest) ≡ unit_appended (unit_list_of front) (unit_list_of rest)
unfolding unit_list_of
unit_list_of-append [] rest = refl
unit_list_of-append (first ∷ front) rest = ap (unit.Item (unit_statement_of first)) (unit_list_of-append front rest)

-- a list with one more tree after it
pub unit_list_of-push : (front : List Stmt) (last : Stmt) → unit_list_of (front ++ last ∷ []) ≡ unit_appended (unit_list_of front) (unit.Item (unit_statement_of last) unit.Finish)
unfolding unit_list_of
unit_list_of-push front last = unit_list_of-append front (last ∷ [])

-- what each variant of a statement stands for
pub ruleset unit_forms = (
  unit_statement_of-made_Block,
  unit_statement_of-made_Scalar,
  unit_statement_of-made_Array,
  unit_statement_of-made_Assign,
  unit_statement_of-made_Print,
  unit_statement_of-made_Eval,
  unit_statement_of-made_If,
  unit_statement_of-made_While,
  unit_statement_of-made_Do,
  unit_statement_of-made_For,
  unit_statement_of-made_Break,
  unit_statement_of-made_Continue,
  unit_statement_of-made_Return,
  unit_statement_of-made_Empty,
  unit_statement_of-made_Call,
  unit_statement_of-Block,
  unit_statement_of-Scalar,
  unit_statement_of-Array,
  unit_statement_of-Assign,
  unit_statement_of-Print,
  unit_statement_of-Eval,
  unit_statement_of-If,
  unit_statement_of-While,
  unit_statement_of-Do,
  unit_statement_of-For,
  unit_statement_of-Break,
  unit_statement_of-Continue,
  unit_statement_of-Return,
  unit_statement_of-Empty,
  unit_statement_of-Call,
  unit_optional_of-None,
  unit_optional_of-Some,
  unit_optional_of-made_None,
  unit_optional_of-made_Some,
  unit_list_of-empty,
  unit_list_of-push,
)
