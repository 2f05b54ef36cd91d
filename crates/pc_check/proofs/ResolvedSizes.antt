-- Resolving changes no size.
use Rattle.std.proofs.Common.{◌≡◌, refl, ap, ℕ, ◌+◌, Option, Some, None}
use Rattle.pc_syntax.specs.declared.operator.BinaryOp.{BinaryOp}
use Rattle.pc_syntax.specs.Source.{SourceExpression, Literal, Variable, Input, Indexed, Prefixed, Combined, Conjunction, Disjunction, Conditional}
use Rattle.pc_syntax.specs.Source.{SourceStatement, Scope, ScalarDeclaration, ArrayDeclaration, Assignment, Printing, Evaluation}
use Rattle.pc_syntax.specs.Source.{Branch, WhileLoop, DoLoop, ForLoop, BreakOut, ContinueOn, ReturnFrom, Nothing}
use Rattle.pc_syntax.specs.Source.{OptionalStatement, Absent, Present, SourceList, No_more, More, SourceProgram}
use Rattle.pc_check.specs.Names.{Names, no_names, entered, with_scalar}
use Rattle.pc_check.specs.Sizes.{expression_size, optional_size, target_size, statement_size, branch_size, list_size, size, resolved_size}
use Rattle.pc_check.specs.Faults.{names_behind, names_behind_optional, names_behind_list}
use Rattle.pc_check.specs.Resolution.{resolved_expression, resolved_optional, resolved_statement, resolved_branch, resolved_list, resolved}

-- an expression with numbers for names has as many nodes as with names
pub expression_size-resolved : (n : Names) (e : SourceExpression) → expression_size (resolved_expression n e) ≡ expression_size e
unfolding expression_size resolved_expression
expression_size-resolved n (Literal value) = refl
expression_size-resolved n (Variable symbol line) = refl
expression_size-resolved n (Input line) = refl
expression_size-resolved n (Indexed symbol line at index) = let i = expression_size-resolved n index in cc
expression_size-resolved n (Prefixed op operand) = let i = expression_size-resolved n operand in cc
expression_size-resolved n (Combined op at left right) =
    let l = expression_size-resolved n left in let r = expression_size-resolved n right in cc
expression_size-resolved n (Conjunction left right) =
    let l = expression_size-resolved n left in let r = expression_size-resolved n right in cc
expression_size-resolved n (Disjunction left right) =
    let l = expression_size-resolved n left in let r = expression_size-resolved n right in cc
expression_size-resolved n (Conditional test one other) =
    let t = expression_size-resolved n test in
    let l = expression_size-resolved n one in let r = expression_size-resolved n other in cc

-- the same of an expression that may be left out
pub optional_size-resolved : (n : Names) (e : Option SourceExpression) → optional_size (resolved_optional n e) ≡ optional_size e
optional_size-resolved n None = refl
optional_size-resolved n (Some e) = expression_size-resolved n e

-- what an assignment has beyond its parts
target_size-resolved : (n : Names) (index : Option SourceExpression) (op : Option BinaryOp) → target_size (resolved_optional n index) op ≡ target_size index op
target_size-resolved n None op = refl
target_size-resolved n (Some index) None = refl
target_size-resolved n (Some index) (Some op) = refl

mutual
  unfolding statement_size resolved_statement names_behind

  -- a statement
  pub statement_size-resolved : (s : SourceStatement) (n : Names) → statement_size (resolved_statement s n) ≡ statement_size s
  statement_size-resolved (Scope items) n = list_size-resolved items (entered n)
  statement_size-resolved (ScalarDeclaration symbol line initial) n =
      ap (λ (k : ℕ). k + 1) (optional_size-resolved (with_scalar n symbol) initial)
  statement_size-resolved (ArrayDeclaration symbol line at length values) n = refl
  statement_size-resolved (Assignment symbol line index bracket op at value) n =
      let i = optional_size-resolved n index in
      let v = expression_size-resolved n value in
      let t = target_size-resolved n index op in cc
  statement_size-resolved (Printing line value) n = let v = expression_size-resolved n value in cc
  statement_size-resolved (Evaluation line value) n = expression_size-resolved n value
  statement_size-resolved (Branch line test body otherwise) n =
      let t = expression_size-resolved n test in
      let b = statement_size-resolved body n in
      let o = branch_size-resolved otherwise (names_behind body n) in cc
  statement_size-resolved (WhileLoop line test body) n =
      let t = expression_size-resolved n test in let b = statement_size-resolved body n in cc
  statement_size-resolved (DoLoop line body test) n =
      let b = statement_size-resolved body n in let t = expression_size-resolved (names_behind body n) test in cc
  statement_size-resolved (ForLoop line first test step body) n =
      let inside = names_behind_list first (entered n) in
      let f = list_size-resolved first (entered n) in
      let t = expression_size-resolved inside test in
      let s = branch_size-resolved step inside in
      let b = statement_size-resolved body (names_behind_optional step inside) in cc
  statement_size-resolved (BreakOut line) n = refl
  statement_size-resolved (ContinueOn line) n = refl
  statement_size-resolved (ReturnFrom line value) n = expression_size-resolved n value
  statement_size-resolved Nothing n = refl

  -- a statement that may be left out
  pub branch_size-resolved : (s : OptionalStatement) (n : Names) → branch_size (resolved_branch s n) ≡ branch_size s
  branch_size-resolved Absent n = refl
  branch_size-resolved (Present s) n = statement_size-resolved s n

  -- statements in order
  pub list_size-resolved : (s : SourceList) (n : Names) → list_size (resolved_list s n) ≡ list_size s
  list_size-resolved No_more n = refl
  list_size-resolved (More first rest) n =
      let f = statement_size-resolved first n in let r = list_size-resolved rest (names_behind first n) in cc

-- a program
pub size-resolved : (program : SourceProgram) → resolved_size (resolved program) ≡ size program
size-resolved program = ap (λ (k : ℕ). k + 1) (list_size-resolved program.items no_names)
