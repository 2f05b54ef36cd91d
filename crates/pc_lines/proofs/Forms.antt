-- The lines of each variant of a tree, in terms of its fields as the code has them.
use Rattle.std.proofs.Common.{◌⊎◌, inl, inr, ◌≡◌, refl, sym, ap, ◌∙◌, ℕ, ◌+◌, ◌<◌, ℤ, List, [], ◌++◌, length, take, get_or, append-nil, append_assoc, replicate}
use Rattle.std.specs.Prelude.{Option, Some, None, option_map}
use Rattle.std.specs.declared.boxed.Box.{Box}
use Rattle.std.specs.declared.alloc.Global.{Global}
use Rattle.pc_syntax.specs.declared.operator.UnaryOp.{UnaryOp}
use Rattle.pc_syntax.specs.declared.operator.BinaryOp.{BinaryOp}
use Rattle.pc_syntax.specs.declared.constant.Const.{Const}
use Rattle.pc_syntax.specs.declared.unit.Target.{Target}
use Rattle.pc_syntax.specs.declared.expression.Expr.{Expr, Lit, Name, Read, Element, Unary, Binary, Both, Either, Choose}
use Rattle.pc_syntax.specs.declared.statement.Stmt.{Stmt, Block, Scalar, Array, Assign, Print, Eval, If, While, Do, For, Break, Continue, Return, Empty, Call}
use Rattle.pc_syntax.specs.Source.{SourceList, No_more, More, appended}
use Rattle.pc_syntax.specs.Erasure.{expression_of, statement_of, list_of, optional_of}
use Rattle.pc_syntax.proofs.ErasureLaws as erased
use Rattle.pc_check.specs.Sizes.{operator_size}
use Rattle.pc_check.proofs.Rows.{list_of-more}
use Rattle.pc_lines.specs.Lines.{expression_lines, optional_lines, assignment_lines, statement_lines, branch_lines, list_lines}

module _ (around : ℕ) (e : Expr) where
  pub of_lit : (value : ℤ) → e ≡ Lit value → expression_lines around (expression_of e) ≡ []
  unfolding expression_lines
  of_lit value is = ap (expression_lines around) (erased.expression_of-Lit e value is)

  pub of_name : (symbol line : ℕ) → e ≡ Name symbol line → expression_lines around (expression_of e) ≡ []
  unfolding expression_lines
  of_name symbol line is = ap (expression_lines around) (erased.expression_of-Name e symbol line is)

  pub of_atom : ((value : ℤ) × (e ≡ Lit value)) ⊎ ((symbol : ℕ) × (line : ℕ) × (e ≡ Name symbol line))
      → expression_lines around (expression_of e) ≡ []
  of_atom (inl is) = of_lit is.0 is.1
  of_atom (inr is) = of_name is.0 is.1 is.2

  pub of_read : (line : ℕ) → e ≡ Read line → expression_lines around (expression_of e) ≡ replicate 4 line
  unfolding expression_lines
  of_read line is = ap (expression_lines around) (erased.expression_of-Read e line is)

  pub of_element : (symbol line at : ℕ) (index : Box Expr Global) → e ≡ Element symbol line at index
      → expression_lines around (expression_of e) ≡ expression_lines at (expression_of index.value) ++ replicate 4 at
  unfolding expression_lines
  of_element symbol line at index is = ap (expression_lines around) (erased.expression_of-Element e symbol line at index is)

  pub of_unary : (op : UnaryOp) (operand : Box Expr Global) → e ≡ Unary op operand
      → expression_lines around (expression_of e) ≡ expression_lines around (expression_of operand.value) ++ replicate 1 around
  unfolding expression_lines
  of_unary op operand is = ap (expression_lines around) (erased.expression_of-Unary e op operand is)

  pub of_binary : (op : BinaryOp) (at : ℕ) (left right : Box Expr Global) → e ≡ Binary op at left right
      → expression_lines around (expression_of e)
      ≡ expression_lines at (expression_of left.value) ++ (expression_lines at (expression_of right.value) ++ replicate (operator_size op) at)
  unfolding expression_lines
  of_binary op at left right is = ap (expression_lines around) (erased.expression_of-Binary e op at left right is)

  pub of_both : (left right : Box Expr Global) → e ≡ Both left right
      → expression_lines around (expression_of e) ≡ expression_lines around (expression_of left.value)
      ++ (replicate 1 around ++ (expression_lines around (expression_of right.value) ++ replicate 2 around))
  unfolding expression_lines
  of_both left right is = ap (expression_lines around) (erased.expression_of-Both e left right is)

  pub of_either : (left right : Box Expr Global) → e ≡ Either left right
      → expression_lines around (expression_of e) ≡ expression_lines around (expression_of left.value)
      ++ (replicate 1 around ++ (expression_lines around (expression_of right.value) ++ replicate 2 around))
  unfolding expression_lines
  of_either left right is = ap (expression_lines around) (erased.expression_of-Either e left right is)

  pub of_both_or_either : (left right : Box Expr Global) → (e ≡ Both left right) ⊎ (e ≡ Either left right)
      → expression_lines around (expression_of e) ≡ expression_lines around (expression_of left.value)
      ++ (replicate 1 around ++ (expression_lines around (expression_of right.value) ++ replicate 2 around))
  of_both_or_either left right (inl is) = of_both left right is
  of_both_or_either left right (inr is) = of_either left right is

  pub of_choose : (test one other : Box Expr Global) → e ≡ Choose test one other
      → expression_lines around (expression_of e) ≡ expression_lines around (expression_of test.value)
      ++ (replicate 1 around ++ (expression_lines around (expression_of one.value)
      ++ (replicate 1 around ++ (expression_lines around (expression_of other.value) ++ replicate 1 around))))
  unfolding expression_lines
  of_choose test one other is = ap (expression_lines around) (erased.expression_of-Choose e test one other is)

module _ (s : Stmt) where
  pub of_block : (items : List Stmt) → s ≡ Block items → statement_lines (statement_of s) ≡ list_lines (list_of items)
  unfolding statement_lines
  of_block items is = ap statement_lines (erased.statement_of-Block s items is)

  pub of_scalar : (symbol line : ℕ) (init : Option Expr) → s ≡ Scalar symbol line init
      → statement_lines (statement_of s) ≡ optional_lines line (option_map expression_of init) ++ replicate 1 line
  unfolding statement_lines
  of_scalar symbol line init is = ap statement_lines (erased.statement_of-Scalar s symbol line init is)

  pub of_array : (symbol line at length : ℕ) (values : List Const) → s ≡ Array symbol line at length values → statement_lines (statement_of s) ≡ []
  unfolding statement_lines
  of_array symbol line at length values is = ap statement_lines (erased.statement_of-Array s symbol line at length values is)

  pub of_assign : (symbol line : ℕ) (index : Option Expr) (bracket : ℕ) (op : Option BinaryOp) (at : ℕ) (value : Expr)
      → s ≡ Assign symbol line index bracket op at value
      → statement_lines (statement_of s) ≡ assignment_lines line (option_map expression_of index) bracket op at (expression_of value)
  unfolding statement_lines
  of_assign symbol line index bracket op at value is = ap statement_lines (erased.statement_of-Assign s symbol line index bracket op at value is)

  pub of_print : (line : ℕ) (value : Expr) → s ≡ Print line value
      → statement_lines (statement_of s) ≡ expression_lines line (expression_of value) ++ replicate 1 line
  unfolding statement_lines
  of_print line value is = ap statement_lines (erased.statement_of-Print s line value is)

  pub of_eval : (line : ℕ) (value : Expr) → s ≡ Eval line value → statement_lines (statement_of s) ≡ expression_lines line (expression_of value)
  unfolding statement_lines
  of_eval line value is = ap statement_lines (erased.statement_of-Eval s line value is)

  pub of_if : (line : ℕ) (test : Expr) (body : Box Stmt Global) (other : Option (Box Stmt Global)) → s ≡ If line test body other
      → statement_lines (statement_of s) ≡ expression_lines line (expression_of test)
      ++ (replicate 1 line ++ (statement_lines (statement_of body.value) ++ branch_lines (optional_of other)))
  unfolding statement_lines
  of_if line test body other is = ap statement_lines (erased.statement_of-If s line test body other is)

  pub of_while : (line : ℕ) (test : Expr) (body : Box Stmt Global) → s ≡ While line test body
      → statement_lines (statement_of s) ≡ expression_lines line (expression_of test) ++ (replicate 1 line ++ statement_lines (statement_of body.value))
  unfolding statement_lines
  of_while line test body is = ap statement_lines (erased.statement_of-While s line test body is)

  pub of_do : (line : ℕ) (body : Box Stmt Global) (test : Expr) → s ≡ Do line body test
      → statement_lines (statement_of s) ≡ statement_lines (statement_of body.value) ++ (expression_lines line (expression_of test) ++ replicate 1 line)
  unfolding statement_lines
  of_do line body test is = ap statement_lines (erased.statement_of-Do s line body test is)

  pub of_for : (line : ℕ) (first : List Stmt) (test : Expr) (step : Option (Box Stmt Global)) (body : Box Stmt Global) → s ≡ For line first test step body
      → statement_lines (statement_of s) ≡ list_lines (list_of first) ++ (expression_lines line (expression_of test)
      ++ (replicate 1 line ++ (statement_lines (statement_of body.value) ++ branch_lines (optional_of step))))
  unfolding statement_lines
  of_for line first test step body is = ap statement_lines (erased.statement_of-For s line first test step body is)

  pub of_break : (line : ℕ) → s ≡ Break line → statement_lines (statement_of s) ≡ []
  unfolding statement_lines
  of_break line is = ap statement_lines (erased.statement_of-Break s line is)

  pub of_continue : (line : ℕ) → s ≡ Continue line → statement_lines (statement_of s) ≡ []
  unfolding statement_lines
  of_continue line is = ap statement_lines (erased.statement_of-Continue s line is)

  pub of_return : (line : ℕ) (value : Expr) → s ≡ Return line value → statement_lines (statement_of s) ≡ expression_lines line (expression_of value)
  unfolding statement_lines
  of_return line value is = ap statement_lines (erased.statement_of-Return s line value is)

  pub of_empty : s ≡ Empty → statement_lines (statement_of s) ≡ []
  unfolding statement_lines
  of_empty is = ap statement_lines (erased.statement_of-Empty s is)

  pub of_call : (line : ℕ) (target : Option Target) (function at : ℕ) (arguments : List Expr) → s ≡ Call line target function at arguments
      → statement_lines (statement_of s) ≡ []
  unfolding statement_lines
  of_call line target function at arguments is = ap statement_lines (erased.statement_of-Call s line target function at arguments is)

  pub of_empty_or_call : (s ≡ Empty) ⊎ ((line : ℕ) × (target : Option Target) × (function : ℕ) × (at : ℕ) × (arguments : List Expr)
      × (s ≡ Call line target function at arguments)) → statement_lines (statement_of s) ≡ []
  of_empty_or_call (inl is) = of_empty is
  of_empty_or_call (inr is) = of_call is.0 is.1 is.2 is.3 is.4 is.5

  pub of_no_nodes : ((symbol : ℕ) × (line : ℕ) × (at : ℕ) × (length : ℕ) × (values : List Const) × (s ≡ Array symbol line at length values))
      ⊎ (((line : ℕ) × (s ≡ Break line)) ⊎ ((line : ℕ) × (s ≡ Continue line))) → statement_lines (statement_of s) ≡ []
  of_no_nodes (inl is) = of_array is.0 is.1 is.2 is.3 is.4 is.5
  of_no_nodes (inr (inl is)) = of_break is.0 is.1
  of_no_nodes (inr (inr is)) = of_continue is.0 is.1

-- a statement that may be left out
pub of_none : (held : Option (Box Stmt Global)) → held ≡ None → branch_lines (optional_of held) ≡ []
unfolding statement_lines
of_none held is = ap branch_lines (erased.optional_of-None held is)

pub of_some : (held : Option (Box Stmt Global)) (boxed : Box Stmt Global) → held ≡ Some boxed
    → branch_lines (optional_of held) ≡ statement_lines (statement_of boxed.value)
unfolding statement_lines
of_some held boxed is = ap branch_lines (erased.optional_of-Some held boxed is)

-- ---- lists

of_appended : (front rest : SourceList) → list_lines (appended front rest) ≡ list_lines front ++ list_lines rest
unfolding statement_lines
of_appended No_more rest = refl
of_appended (More first front) rest =
    ap (λ (l : List ℕ). statement_lines first ++ l) (of_appended front rest) ∙ sym (append_assoc (statement_lines first) (list_lines front) (list_lines rest))

pub of_nothing : list_lines (list_of []) ≡ []
unfolding statement_lines
of_nothing = ap list_lines erased.list_of-empty

-- the lines of statements with one more after them
pub of_one_more : (items : List Stmt) (i : ℕ) (item : Stmt) → i < length items → item ≡ get_or items i item
    → list_lines (list_of (take (i + 1) items)) ≡ list_lines (list_of (take i items)) ++ statement_lines (statement_of item)
unfolding statement_lines
of_one_more items i item below read =
    ap list_lines (list_of-more items i item below read) ∙ of_appended (list_of (take i items)) (More (statement_of item) No_more)
    ∙ ap (λ (l : List ℕ). list_lines (list_of (take i items)) ++ l) (append-nil (statement_lines (statement_of item)))

pub ruleset expressions = (of_lit, of_name, of_read, of_element, of_unary, of_binary, of_both, of_either, of_choose)

pub ruleset statements = (
  of_block,
  of_scalar,
  of_array,
  of_assign,
  of_print,
  of_eval,
  of_if,
  of_while,
  of_do,
  of_for,
  of_break,
  of_continue,
  of_return,
  of_empty,
  of_call,
  of_none,
  of_some,
  of_nothing,
)
