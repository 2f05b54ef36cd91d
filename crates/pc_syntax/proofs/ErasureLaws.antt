-- What each variant of a tree stands for, in terms of its fields as the code has them.
use Rattle.std.proofs.Common.{◌≡◌, refl, ap, ◌∙◌, ℕ, ℤ, List, [], ◌∷◌, ◌++◌}
use Rattle.std.specs.Prelude.{Option, Some, None, option_map}
use Rattle.std.specs.declared.boxed.Box.{Box}
use Rattle.std.specs.declared.alloc.Global.{Global}
use Rattle.pc_syntax.specs.declared.operator.UnaryOp.{UnaryOp}
use Rattle.pc_syntax.specs.declared.operator.BinaryOp.{BinaryOp}
use Rattle.pc_syntax.specs.declared.constant.Const.{Const}
use Rattle.pc_syntax.specs.declared.expression.Expr.{Expr, Lit, Name, Read, Element, Unary, Binary, Both, Either, Choose}
use Rattle.pc_syntax.specs.declared.statement.Stmt.{Stmt, Block, Scalar, Array, Assign, Print, Eval, If, While, Do, For, Break, Continue, Return}
use Rattle.pc_syntax.specs.declared.unit.Target.{Target}
use Rattle.pc_syntax.specs.declared.statement.Stmt.{Empty, Call, Row_of-Stmt, end_of-Stmt, more_of-Stmt, items-the_row-Stmt, items_hidden-the_row-Stmt-0}
use Rattle.pc_syntax.specs.declared.statement.Stmt.TheBlock.{hidden-the_row-Stmt-0}
use Rattle.pc_syntax.specs.Source.{SourceList, Literal, Variable, Input, Indexed, Prefixed, Combined, Conjunction, Disjunction, Conditional, Scope}
use Rattle.pc_syntax.specs.Source.{ScalarDeclaration, ArrayDeclaration, Assignment, Printing, Evaluation, Branch, WhileLoop, DoLoop, ForLoop}
use Rattle.pc_syntax.specs.Source.{BreakOut, ContinueOn, ReturnFrom, Nothing, Absent, Present, No_more, More, appended}
use Rattle.pc_syntax.specs.Erasure.{expression_of, statement_of, row_of, held_of, list_of, optional_of}

-- a list that a tree holds stands for the same as the list of its items
row_of-items : (n : _) (row : Row_of-Stmt n) → row_of row ≡ list_of (items-the_row-Stmt n row)
unfolding row_of list_of
row_of-items n end_of-Stmt = refl
row_of-items n (more_of-Stmt first rest) = ap (More (statement_of first)) (row_of-items _ rest)

-- a list that a tree holds stands for the same as the list that was put into it
row_of-hidden : (items : List Stmt) → row_of (hidden-the_row-Stmt-0 items) ≡ list_of items
row_of-hidden items = row_of-items _ (hidden-the_row-Stmt-0 items) ∙ ap list_of (items_hidden-the_row-Stmt-0 items)

module _ (e : Expr) where
  pub expression_of-Lit : (value : ℤ) → e ≡ Lit value → expression_of e ≡ Literal value
  unfolding expression_of
  expression_of-Lit value is = ap expression_of is

  pub expression_of-Name : (symbol line : ℕ) → e ≡ Name symbol line → expression_of e ≡ Variable symbol line
  unfolding expression_of
  expression_of-Name symbol line is = ap expression_of is

  pub expression_of-Read : (line : ℕ) → e ≡ Read line → expression_of e ≡ Input line
  unfolding expression_of
  expression_of-Read line is = ap expression_of is

  pub expression_of-Element : (symbol line at : ℕ) (index : Box Expr Global) → e ≡ Element symbol line at index →
      expression_of e ≡ Indexed symbol line at (expression_of index.value)
  unfolding expression_of
  expression_of-Element symbol line at index is = ap expression_of is

  pub expression_of-Unary : (op : UnaryOp) (operand : Box Expr Global) → e ≡ Unary op operand →
      expression_of e ≡ Prefixed op (expression_of operand.value)
  unfolding expression_of
  expression_of-Unary op operand is = ap expression_of is

  pub expression_of-Binary : (op : BinaryOp) (at : ℕ) (left right : Box Expr Global) → e ≡ Binary op at left right →
      expression_of e ≡ Combined op at (expression_of left.value) (expression_of right.value)
  unfolding expression_of
  expression_of-Binary op at left right is = ap expression_of is

  pub expression_of-Both : (left right : Box Expr Global) → e ≡ Both left right →
      expression_of e ≡ Conjunction (expression_of left.value) (expression_of right.value)
  unfolding expression_of
  expression_of-Both left right is = ap expression_of is

  pub expression_of-Either : (left right : Box Expr Global) → e ≡ Either left right →
      expression_of e ≡ Disjunction (expression_of left.value) (expression_of right.value)
  unfolding expression_of
  expression_of-Either left right is = ap expression_of is

  pub expression_of-Choose : (test yes' no' : Box Expr Global) → e ≡ Choose test yes' no' →
      expression_of e ≡ Conditional (expression_of test.value) (expression_of yes'.value) (expression_of no'.value)
  unfolding expression_of
  expression_of-Choose test yes' no' is = ap expression_of is

module _ (s : Stmt) where
  pub statement_of-Block : (items : List Stmt) → s ≡ Block items → statement_of s ≡ Scope (list_of items)
  unfolding statement_of
  statement_of-Block items is =
      ap statement_of is ∙ ap Scope (row_of-hidden items)

  pub statement_of-Scalar : (symbol line : ℕ) (init : Option Expr) → s ≡ Scalar symbol line init →
      statement_of s ≡ ScalarDeclaration symbol line (option_map expression_of init)
  unfolding statement_of
  statement_of-Scalar symbol line init is = ap statement_of is

  pub statement_of-Array : (symbol line at length : ℕ) (values : List Const) → s ≡ Array symbol line at length values →
      statement_of s ≡ ArrayDeclaration symbol line at length values
  unfolding statement_of
  statement_of-Array symbol line at length values is = ap statement_of is

  pub statement_of-Assign : (symbol line : ℕ) (index : Option Expr) (bracket : ℕ) (op : Option BinaryOp) (at : ℕ) (value : Expr) →
      s ≡ Assign symbol line index bracket op at value →
      statement_of s ≡ Assignment symbol line (option_map expression_of index) bracket op at (expression_of value)
  unfolding statement_of
  statement_of-Assign symbol line index bracket op at value is = ap statement_of is

  pub statement_of-Print : (line : ℕ) (value : Expr) → s ≡ Print line value → statement_of s ≡ Printing line (expression_of value)
  unfolding statement_of
  statement_of-Print line value is = ap statement_of is

  pub statement_of-Eval : (line : ℕ) (value : Expr) → s ≡ Eval line value → statement_of s ≡ Evaluation line (expression_of value)
  unfolding statement_of
  statement_of-Eval line value is = ap statement_of is

  pub statement_of-If : (line : ℕ) (test : Expr) (body : Box Stmt Global) (other : Option (Box Stmt Global)) → s ≡ If line test body other →
      statement_of s ≡ Branch line (expression_of test) (statement_of body.value) (optional_of other)
  unfolding statement_of held_of optional_of
  statement_of-If line test body None is = ap statement_of is
  statement_of-If line test body (Some other) is = ap statement_of is

  pub statement_of-While : (line : ℕ) (test : Expr) (body : Box Stmt Global) → s ≡ While line test body →
      statement_of s ≡ WhileLoop line (expression_of test) (statement_of body.value)
  unfolding statement_of
  statement_of-While line test body is = ap statement_of is

  pub statement_of-Do : (line : ℕ) (body : Box Stmt Global) (test : Expr) → s ≡ Do line body test →
      statement_of s ≡ DoLoop line (statement_of body.value) (expression_of test)
  unfolding statement_of
  statement_of-Do line body test is = ap statement_of is

  pub statement_of-For : (line : ℕ) (first : List Stmt) (test : Expr) (step : Option (Box Stmt Global)) (body : Box Stmt Global) →
      s ≡ For line first test step body →
      statement_of s ≡ ForLoop line (list_of first) (expression_of test) (optional_of step) (statement_of body.value)
  unfolding statement_of held_of optional_of
  statement_of-For line first test None body is =
      ap statement_of is ∙ ap (λ (x : SourceList). ForLoop line x (expression_of test) Absent (statement_of body.value)) (row_of-hidden first)
  statement_of-For line first test (Some step) body is =
      ap statement_of is ∙ ap (λ (x : SourceList). ForLoop line x (expression_of test) (Present (statement_of step.value)) (statement_of body.value)) (row_of-hidden first)

  pub statement_of-Break : (line : ℕ) → s ≡ Break line → statement_of s ≡ BreakOut line
  unfolding statement_of
  statement_of-Break line is = ap statement_of is

  pub statement_of-Continue : (line : ℕ) → s ≡ Continue line → statement_of s ≡ ContinueOn line
  unfolding statement_of
  statement_of-Continue line is = ap statement_of is

  pub statement_of-Return : (line : ℕ) (value : Expr) → s ≡ Return line value → statement_of s ≡ ReturnFrom line (expression_of value)
  unfolding statement_of
  statement_of-Return line value is = ap statement_of is

  pub statement_of-Empty : s ≡ Empty → statement_of s ≡ Nothing
  unfolding statement_of
  statement_of-Empty is = ap statement_of is

  pub statement_of-Call : (line : ℕ) (target : Option Target) (function at : ℕ) (arguments : List Expr) →
      s ≡ Call line target function at arguments → statement_of s ≡ Nothing
  unfolding statement_of
  statement_of-Call line target function at arguments is = ap statement_of is

-- the same of a tree as it is made
pub expression_of-made_Lit : (value : ℤ) → expression_of (Lit value) ≡ Literal value
expression_of-made_Lit value = expression_of-Lit (Lit value) value refl

pub expression_of-made_Name : (symbol line : ℕ) → expression_of (Name symbol line) ≡ Variable symbol line
expression_of-made_Name symbol line = expression_of-Name (Name symbol line) symbol line refl

pub expression_of-made_Read : (line : ℕ) → expression_of (Read line) ≡ Input line
expression_of-made_Read line = expression_of-Read (Read line) line refl

pub expression_of-made_Element : (symbol line at : ℕ) (index : Box Expr Global) → expression_of (Element symbol line at index) ≡ Indexed symbol line at (expression_of index.value)
expression_of-made_Element symbol line at index = expression_of-Element (Element symbol line at index) symbol line at index refl

pub expression_of-made_Unary : (op : UnaryOp) (operand : Box Expr Global) → expression_of (Unary op operand) ≡ Prefixed op (expression_of operand.value)
expression_of-made_Unary op operand = expression_of-Unary (Unary op operand) op operand refl

pub expression_of-made_Binary : (op : BinaryOp) (at : ℕ) (left right : Box Expr Global) →
    expression_of (Binary op at left right) ≡ Combined op at (expression_of left.value) (expression_of right.value)
expression_of-made_Binary op at left right = expression_of-Binary (Binary op at left right) op at left right refl

pub expression_of-made_Both : (left right : Box Expr Global) → expression_of (Both left right) ≡ Conjunction (expression_of left.value) (expression_of right.value)
expression_of-made_Both left right = expression_of-Both (Both left right) left right refl

pub expression_of-made_Either : (left right : Box Expr Global) → expression_of (Either left right) ≡ Disjunction (expression_of left.value) (expression_of right.value)
expression_of-made_Either left right = expression_of-Either (Either left right) left right refl

pub expression_of-made_Choose : (test yes' no' : Box Expr Global) → expression_of (Choose test yes' no') ≡ Conditional (expression_of test.value) (expression_of yes'.value) (expression_of no'.value)
expression_of-made_Choose test yes' no' = expression_of-Choose (Choose test yes' no') test yes' no' refl

pub statement_of-made_Block : (items : List Stmt) → statement_of (Block items) ≡ Scope (list_of items)
statement_of-made_Block items = statement_of-Block (Block items) items refl

pub statement_of-made_Scalar : (symbol line : ℕ) (init : Option Expr) → statement_of (Scalar symbol line init) ≡ ScalarDeclaration symbol line (option_map expression_of init)
statement_of-made_Scalar symbol line init = statement_of-Scalar (Scalar symbol line init) symbol line init refl

pub statement_of-made_Array : (symbol line at length : ℕ) (values : List Const) →
    statement_of (Array symbol line at length values) ≡ ArrayDeclaration symbol line at length values
statement_of-made_Array symbol line at length values = statement_of-Array (Array symbol line at length values) symbol line at length values refl

pub statement_of-made_Assign : (symbol line : ℕ) (index : Option Expr) (bracket : ℕ) (op : Option BinaryOp) (at : ℕ) (value : Expr) →
    statement_of (Assign symbol line index bracket op at value) ≡ Assignment symbol line (option_map expression_of index) bracket op at (expression_of value)
statement_of-made_Assign symbol line index bracket op at value = statement_of-Assign (Assign symbol line index bracket op at value) symbol line index bracket op at value refl

pub statement_of-made_Print : (line : ℕ) (value : Expr) → statement_of (Print line value) ≡ Printing line (expression_of value)
statement_of-made_Print line value = statement_of-Print (Print line value) line value refl

pub statement_of-made_Eval : (line : ℕ) (value : Expr) → statement_of (Eval line value) ≡ Evaluation line (expression_of value)
statement_of-made_Eval line value = statement_of-Eval (Eval line value) line value refl

pub statement_of-made_If : (line : ℕ) (test : Expr) (body : Box Stmt Global) (other : Option (Box Stmt Global)) →
    statement_of (If line test body other) ≡ Branch line (expression_of test) (statement_of body.value) (optional_of other)
statement_of-made_If line test body other = statement_of-If (If line test body other) line test body other refl

pub statement_of-made_While : (line : ℕ) (test : Expr) (body : Box Stmt Global) → statement_of (While line test body) ≡ WhileLoop line (expression_of test) (statement_of body.value)
statement_of-made_While line test body = statement_of-While (While line test body) line test body refl

pub statement_of-made_Do : (line : ℕ) (body : Box Stmt Global) (test : Expr) → statement_of (Do line body test) ≡ DoLoop line (statement_of body.value) (expression_of test)
statement_of-made_Do line body test = statement_of-Do (Do line body test) line body test refl

pub statement_of-made_For : (line : ℕ) (first : List Stmt) (test : Expr) (step : Option (Box Stmt Global)) (body : Box Stmt Global) →
    statement_of (For line first test step body) ≡ ForLoop line (list_of first) (expression_of test) (optional_of step) (statement_of body.value)
statement_of-made_For line first test step body = statement_of-For (For line first test step body) line first test step body refl

pub statement_of-made_Break : (line : ℕ) → statement_of (Break line) ≡ BreakOut line
statement_of-made_Break line = statement_of-Break (Break line) line refl

pub statement_of-made_Continue : (line : ℕ) → statement_of (Continue line) ≡ ContinueOn line
statement_of-made_Continue line = statement_of-Continue (Continue line) line refl

pub statement_of-made_Return : (line : ℕ) (value : Expr) → statement_of (Return line value) ≡ ReturnFrom line (expression_of value)
statement_of-made_Return line value = statement_of-Return (Return line value) line value refl

pub statement_of-made_Empty : statement_of Empty ≡ Nothing
statement_of-made_Empty = statement_of-Empty Empty refl

pub statement_of-made_Call : (line : ℕ) (target : Option Target) (function at : ℕ) (arguments : List Expr) →
    statement_of (Call line target function at arguments) ≡ Nothing
statement_of-made_Call line target function at arguments = statement_of-Call (Call line target function at arguments) line target function at arguments refl

-- an optional tree
pub optional_of-None : (held : Option (Box Stmt Global)) → held ≡ None → optional_of held ≡ Absent
unfolding optional_of
optional_of-None held is = ap optional_of is

pub optional_of-Some : (held : Option (Box Stmt Global)) (boxed : Box Stmt Global) → held ≡ Some boxed →
    optional_of held ≡ Present (statement_of boxed.value)
unfolding optional_of
optional_of-Some held boxed is = ap optional_of is

pub optional_of-made_None : optional_of None ≡ Absent
unfolding optional_of
optional_of-made_None = refl

pub optional_of-made_Some : (boxed : Box Stmt Global) → optional_of (Some boxed) ≡ Present (statement_of boxed.value)
unfolding optional_of
optional_of-made_Some boxed = refl

-- the empty list of trees
pub list_of-empty : list_of [] ≡ No_more
unfolding list_of
list_of-empty = refl

-- a list of trees is that of its front, and then that of the rest
pub list_of-append : (front rest : List Stmt) → list_of (front ++ rest) ≡ appended (list_of front) (list_of rest)
unfolding list_of
list_of-append [] rest = refl
list_of-append (first ∷ front) rest = ap (More (statement_of first)) (list_of-append front rest)

-- a list with one more tree after it
pub list_of-push : (front : List Stmt) (last : Stmt) → list_of (front ++ last ∷ []) ≡ appended (list_of front) (More (statement_of last) No_more)
unfolding list_of
list_of-push front last = list_of-append front (last ∷ [])

-- what each variant of an expression stands for
pub ruleset expression_forms = (
  expression_of-made_Lit,
  expression_of-made_Name,
  expression_of-made_Read,
  expression_of-made_Element,
  expression_of-made_Unary,
  expression_of-made_Binary,
  expression_of-made_Both,
  expression_of-made_Either,
  expression_of-made_Choose,
  expression_of-Lit,
  expression_of-Name,
  expression_of-Read,
  expression_of-Element,
  expression_of-Unary,
  expression_of-Binary,
  expression_of-Both,
  expression_of-Either,
  expression_of-Choose,
)

-- what each variant of a statement stands for
pub ruleset statement_forms = (
  statement_of-made_Block,
  statement_of-made_Scalar,
  statement_of-made_Array,
  statement_of-made_Assign,
  statement_of-made_Print,
  statement_of-made_Eval,
  statement_of-made_If,
  statement_of-made_While,
  statement_of-made_Do,
  statement_of-made_For,
  statement_of-made_Break,
  statement_of-made_Continue,
  statement_of-made_Return,
  statement_of-made_Empty,
  statement_of-made_Call,
  statement_of-Block,
  statement_of-Scalar,
  statement_of-Array,
  statement_of-Assign,
  statement_of-Print,
  statement_of-Eval,
  statement_of-If,
  statement_of-While,
  statement_of-Do,
  statement_of-For,
  statement_of-Break,
  statement_of-Continue,
  statement_of-Return,
  statement_of-Empty,
  statement_of-Call,
  optional_of-None,
  optional_of-Some,
  optional_of-made_None,
  optional_of-made_Some,
  list_of-empty,
  list_of-push,
)
