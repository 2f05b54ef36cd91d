-- There are as many lines as nodes.
use Rattle.std.proofs.Common.{◌≡◌, ℕ, suc, ◌+◌, List, [], ◌++◌, length, length-append, replicate, refl, ap, ◌∙◌, arith}
use Rattle.std.specs.Prelude.{Option, Some, None}
use Rattle.pc_syntax.specs.declared.operator.BinaryOp.{BinaryOp}
use Rattle.pc_syntax.specs.Source.{SourceExpression, Literal, Variable, Input, Indexed, Prefixed, Combined, Conjunction, Disjunction, Conditional}
use Rattle.pc_syntax.specs.Source.{SourceStatement, Scope, ScalarDeclaration, ArrayDeclaration, Assignment, Printing, Evaluation, Branch, WhileLoop}
use Rattle.pc_syntax.specs.Source.{DoLoop, ForLoop, BreakOut, ContinueOn, ReturnFrom, Nothing, OptionalStatement, Absent, Present, SourceList}
use Rattle.pc_syntax.specs.Source.{No_more, More}
use Rattle.pc_check.specs.Sizes.{operator_size, expression_size, optional_size, compound_size, target_size, statement_size, branch_size, list_size}
use Rattle.pc_lines.specs.Lines.{expression_lines, optional_lines, compound_lines, assignment_lines, statement_lines, branch_lines, list_lines}
use Rattle.std.proofs.lemmas.List.{length-replicate}
use Rattle.pc_lines.specs.Laws.{EachNodeHasALine}

-- ---- two and three parts, one after the other

two : {A : Type 0} (xs ys : List A) {m n : ℕ} → length xs ≡ m → length ys ≡ n → length (xs ++ ys) ≡ m + n
two xs ys h k = let both = length-append xs ys in omega (arith, both, h, k)

times : (n line : ℕ) → length (replicate n line) ≡ n
times n line = length-replicate n line

-- ---- expressions

expression_sized : (around : ℕ) (e : SourceExpression) → length (expression_lines around e) ≡ expression_size e
unfolding expression_lines expression_size
expression_sized around (Literal value) = refl
expression_sized around (Variable symbol line) = refl
expression_sized around (Input line) = times 4 line
expression_sized around (Indexed symbol line at index) =
    two (expression_lines at index) (replicate 4 at) (expression_sized at index) (times 4 at)
expression_sized around (Prefixed op operand) =
    two (expression_lines around operand) (replicate 1 around) (expression_sized around operand) (times 1 around)
expression_sized around (Combined op at left right) =
    let e = two (expression_lines at left) (expression_lines at right ++ replicate (operator_size op) at) (expression_sized at left)
    (two (expression_lines at right) (replicate (operator_size op) at) (expression_sized at right) (times (operator_size op) at)) in
    omega (arith, e)
expression_sized around (Conjunction left right) =
    let e = two (expression_lines around left) (replicate 1 around ++ (expression_lines around right ++ replicate 2 around)) (expression_sized around left)
    (two (replicate 1 around) (expression_lines around right ++ replicate 2 around) (times 1 around)
    (two (expression_lines around right) (replicate 2 around) (expression_sized around right) (times 2 around))) in
    omega (arith, e)
expression_sized around (Disjunction left right) =
    let e = two (expression_lines around left) (replicate 1 around ++ (expression_lines around right ++ replicate 2 around)) (expression_sized around left)
    (two (replicate 1 around) (expression_lines around right ++ replicate 2 around) (times 1 around)
    (two (expression_lines around right) (replicate 2 around) (expression_sized around right) (times 2 around))) in
    omega (arith, e)
expression_sized around (Conditional test one other) =
    let last = two (expression_lines around other) (replicate 1 around) (expression_sized around other) (times 1 around) in
    let middle = two (expression_lines around one) (replicate 1 around ++ (expression_lines around other ++ replicate 1 around)) (expression_sized around one)
    (two (replicate 1 around) (expression_lines around other ++ replicate 1 around) (times 1 around) last) in
    let e = two (expression_lines around test)
    (replicate 1 around ++ (expression_lines around one ++ (replicate 1 around ++ (expression_lines around other ++ replicate 1 around))))
    (expression_sized around test)
    (two (replicate 1 around) (expression_lines around one ++ (replicate 1 around ++ (expression_lines around other ++ replicate 1 around))) (times 1 around)
    middle) in
    omega (arith, e)

optional_sized : (around : ℕ) (e : Option SourceExpression) → length (optional_lines around e) ≡ optional_size e
optional_sized around None = refl
optional_sized around (Some e) = expression_sized around e

compound_sized : (op : Option BinaryOp) (at : ℕ) → length (compound_lines op at) ≡ compound_size op
compound_sized None at = refl
compound_sized (Some op) at = times (operator_size op) at

assignment_sized : (line : ℕ) (index : Option SourceExpression) (bracket : ℕ) (op : Option BinaryOp) (at : ℕ) (value : SourceExpression)
    → length (assignment_lines line index bracket op at value) ≡ optional_size index + expression_size value + target_size index op
assignment_sized line None bracket op at value =
    let e = two (expression_lines line value) (compound_lines op at ++ replicate 1 line) (expression_sized line value)
    (two (compound_lines op at) (replicate 1 line) (compound_sized op at) (times 1 line)) in
    omega (arith, e)
assignment_sized line (Some index) bracket None at value =
    let e = two (expression_lines bracket index) (expression_lines line value ++ (replicate 3 bracket ++ replicate 1 line)) (expression_sized bracket index)
    (two (expression_lines line value) (replicate 3 bracket ++ replicate 1 line) (expression_sized line value)
    (two (replicate 3 bracket) (replicate 1 line) (times 3 bracket) (times 1 line))) in
    omega (arith, e)
assignment_sized line (Some index) bracket (Some op) at value =
    let last = two (expression_lines line value) (replicate (operator_size op) at ++ replicate 1 line) (expression_sized line value)
    (two (replicate (operator_size op) at) (replicate 1 line) (times (operator_size op) at) (times 1 line)) in
    let e = two (expression_lines bracket index) (replicate 4 bracket ++ (expression_lines line value ++ (replicate (operator_size op) at ++ replicate 1 line)))
    (expression_sized bracket index)
    (two (replicate 4 bracket) (expression_lines line value ++ (replicate (operator_size op) at ++ replicate 1 line)) (times 4 bracket) last) in
    omega (arith, e)

-- ---- statements

condition_sized : (line : ℕ) (test : SourceExpression) (rest : List ℕ) {n : ℕ} → length rest ≡ n
    → length (expression_lines line test ++ (replicate 1 line ++ rest)) ≡ expression_size test + (1 + n)
condition_sized line test rest h =
    two (expression_lines line test) (replicate 1 line ++ rest) (expression_sized line test) (two (replicate 1 line) rest (times 1 line) h)

mutual
  unfolding statement_lines statement_size

  statement_sized : (statement : SourceStatement) → length (statement_lines statement) ≡ statement_size statement
  statement_sized (Scope items) = list_sized items
  statement_sized (ScalarDeclaration symbol line initial) =
      two (optional_lines line initial) (replicate 1 line) (optional_sized line initial) (times 1 line)
  statement_sized (ArrayDeclaration symbol line at length values) = refl
  statement_sized (Assignment symbol line index bracket op at value) = assignment_sized line index bracket op at value
  statement_sized (Printing line value) = two (expression_lines line value) (replicate 1 line) (expression_sized line value) (times 1 line)
  statement_sized (Evaluation line value) = expression_sized line value
  statement_sized (Branch line test body otherwise) =
      let e = condition_sized line test (statement_lines body ++ branch_lines otherwise)
      (two (statement_lines body) (branch_lines otherwise) (statement_sized body) (branch_sized otherwise)) in
      omega (arith, e)
  statement_sized (WhileLoop line test body) =
      let e = condition_sized line test (statement_lines body) (statement_sized body) in omega (arith, e)
  statement_sized (DoLoop line body test) =
      let e = two (statement_lines body) (expression_lines line test ++ replicate 1 line) (statement_sized body)
      (two (expression_lines line test) (replicate 1 line) (expression_sized line test) (times 1 line)) in
      omega (arith, e)
  statement_sized (ForLoop line first test step body) =
      let turns = condition_sized line test (statement_lines body ++ branch_lines step)
      (two (statement_lines body) (branch_lines step) (statement_sized body) (branch_sized step)) in
      let e = two (list_lines first) (expression_lines line test ++ (replicate 1 line ++ (statement_lines body ++ branch_lines step))) (list_sized first) turns in
      omega (arith, e)
  statement_sized (BreakOut line) = refl
  statement_sized (ContinueOn line) = refl
  statement_sized (ReturnFrom line value) = expression_sized line value
  statement_sized Nothing = refl

  branch_sized : (statement : OptionalStatement) → length (branch_lines statement) ≡ branch_size statement
  branch_sized Absent = refl
  branch_sized (Present statement) = statement_sized statement

  list_sized : (items : SourceList) → length (list_lines items) ≡ list_size items
  list_sized No_more = refl
  list_sized (More first rest) = two (statement_lines first) (list_lines rest) (statement_sized first) (list_sized rest)

pub each_has_one : EachNodeHasALine
each_has_one program = let e = list_sized program.body in omega (arith, e)

pub ruleset lines = (each_has_one)
