-- What is read without calls is a program's.
use Rattle.std.proofs.Common.{◌≡◌, refl, sym, ap, ◌∙◌, ℕ, ◌+◌, List}
use Rattle.pc_lexer.specs.declared.token.Token.{Token}
use Rattle.pc_syntax.specs.declared.statement.Stmt.{Stmt}
use Rattle.pc_syntax.specs.Source.{SourceStatement, OptionalStatement, SourceList, Scope, ScalarDeclaration, ArrayDeclaration, Assignment, Printing, Evaluation, Branch}
use Rattle.pc_syntax.specs.Source.{WhileLoop, DoLoop, ForLoop, BreakOut, ContinueOn, ReturnFrom, Nothing, Absent, Present, No_more, More}
use Rattle.pc_syntax.specs.Unit.{UnitStatement, UnitOptional, UnitList, Block, If, While, Do, For, Without, With, Finish, Item, unit_appended}
use Rattle.pc_syntax.specs.Plain.{plain_statement, plain_optional, plain_list}
use Rattle.pc_syntax.specs.Erasure.{list_of}
use Rattle.pc_syntax.specs.UnitErasure.{unit_list_of}
use Rattle.pc_syntax.proofs.WithoutCalls.{without_calls, optional_without_calls, list_without_calls, trees_without_calls}
use Rattle.pc_parser.specs.declared.calls.Calls.TheVariants.{Refused}
use Rattle.pc_parser.specs.declared.storage.Storage.{Storage}
use Rattle.pc_parser.specs.Places.{line_at}
use Rattle.pc_parser.specs.Statements.{ReadsSimple, ReadsDeclarator, ReadsDeclarators, ReadsDeclaration, ReadsFirst, ReadsStep, ReadsStatement, ReadsItems, ReadsMain}

mutual
  unfolding without_calls plain_statement

  -- a program's statement has no calls to take away
  statement-again : (s : SourceStatement) → without_calls (plain_statement s) ≡ s
  statement-again (Scope items) = ap Scope (list-again items)
  statement-again (ScalarDeclaration symbol line initial) = refl
  statement-again (ArrayDeclaration symbol line at length values) = refl
  statement-again (Assignment symbol line index bracket op at value) = refl
  statement-again (Printing line value) = refl
  statement-again (Evaluation line value) = refl
  statement-again (Branch line test body otherwise) =
      ap (λ (x : SourceStatement). Branch line test x (optional_without_calls (plain_optional otherwise))) (statement-again body) ∙ ap (Branch line test body) (optional-again otherwise)
  statement-again (WhileLoop line test body) = ap (WhileLoop line test) (statement-again body)
  statement-again (DoLoop line body test) = ap (λ (x : SourceStatement). DoLoop line x test) (statement-again body)
  statement-again (ForLoop line first test step body) =
      ap (λ (x : SourceList). ForLoop line x test (optional_without_calls (plain_optional step)) (without_calls (plain_statement body))) (list-again first)
      ∙ ap (λ (x : OptionalStatement). ForLoop line first test x (without_calls (plain_statement body))) (optional-again step) ∙ ap (ForLoop line first test step) (statement-again body)
  statement-again (BreakOut line) = refl
  statement-again (ContinueOn line) = refl
  statement-again (ReturnFrom line value) = refl
  statement-again Nothing = refl

  optional-again : (o : OptionalStatement) → optional_without_calls (plain_optional o) ≡ o
  optional-again Absent = refl
  optional-again (Present s) = ap Present (statement-again s)

  list-again : (l : SourceList) → list_without_calls (plain_list l) ≡ l
  list-again No_more = refl
  list-again (More first rest) = ap (λ (x : SourceStatement). More x (list_without_calls (plain_list rest))) (statement-again first) ∙ ap (More first) (list-again rest)

-- two programs' lists that are the same with calls are the same
pub same-plain : (one other : SourceList) → plain_list one ≡ plain_list other → one ≡ other
same-plain one other same = sym (list-again one) ∙ ap list_without_calls same ∙ list-again other

-- a statement, what may be left out, and a list, that have no calls
abbrev IsPlain : UnitStatement → Type 0
IsPlain s = plain_statement (without_calls s) ≡ s

abbrev IsPlainOptional : UnitOptional → Type 0
IsPlainOptional o = plain_optional (optional_without_calls o) ≡ o

abbrev ArePlain : UnitList → Type 0
ArePlain l = plain_list (list_without_calls l) ≡ l

item-plain : (first : UnitStatement) (rest : UnitList) → IsPlain first → ArePlain rest → ArePlain (Item first rest)
unfolding without_calls plain_statement
item-plain first rest one others = ap (λ (x : UnitStatement). Item x (plain_list (list_without_calls rest))) one ∙ ap (Item first) others

append-plain : (list rest : UnitList) → ArePlain list → ArePlain rest → ArePlain (unit_appended list rest)
unfolding without_calls plain_statement
append-plain Finish rest one others = others
append-plain (Item first list) rest one others =
    let head : plain_statement (without_calls first) ≡ first = cc in
    let tail : plain_list (list_without_calls list) ≡ list = cc in
    item-plain first (unit_appended list rest) head (append-plain list rest tail others)

module _ (tokens : List Token) where
  simple-plain : (p : ℕ) (s : UnitStatement) (h q : ℕ) → ReadsSimple tokens Refused p s h q → IsPlain s
  unfolding without_calls plain_statement
  simple-plain p s h q (ReadsSimple.assignment d is found e) = refl
  simple-plain p s h q (ReadsSimple.step_behind d is found) = refl
  simple-plain p s h q (ReadsSimple.step_before is found d) = refl
  simple-plain p s h q (ReadsSimple.print is d) = refl
  simple-plain p s h q (ReadsSimple.evaluation d) = refl
  simple-plain p s h q (ReadsSimple.call may d) = cc
  simple-plain p s h q (ReadsSimple.assigned_call may is assign d) = cc

  declarator-plain : (storage : Storage) (p : ℕ) (s : UnitStatement) (h q : ℕ) → ReadsDeclarator tokens Refused storage p s h q → IsPlain s
  unfolding without_calls plain_statement
  declarator-plain storage p s h q (ReadsDeclarator.scalar is) = refl
  declarator-plain storage p s h q (ReadsDeclarator.initialised is assign d) = refl
  declarator-plain storage p s h q (ReadsDeclarator.called may is assign d) = cc
  declarator-plain storage p s h q (ReadsDeclarator.array is open' number close') = refl
  declarator-plain storage p s h q (ReadsDeclarator.initialised_array is open' number close' assign brace d) = refl

  declarators-plain : (storage : Storage) (p : ℕ) (trees : UnitList) (h q : ℕ) → ReadsDeclarators tokens Refused storage p trees h q → ArePlain trees
  unfolding without_calls plain_statement
  declarators-plain storage p trees h q (ReadsDeclarators.last {q = r} {tree = tree} d close') = item-plain tree Finish (declarator-plain storage p tree h r d) refl
  declarators-plain storage p trees h q (ReadsDeclarators.comma {i = i} {q = r} {j = j} {tree = tree} {rest = rest} d comma e) =
      item-plain tree rest (declarator-plain storage p tree i r d) (declarators-plain storage (r + 1) rest j q e)

  declaration-plain : (storage : Storage) (p : ℕ) (trees : UnitList) (h q : ℕ) → ReadsDeclaration tokens Refused storage p trees h q → ArePlain trees
  declaration-plain storage p trees h q (ReadsDeclaration.automatic is d) = declarators-plain storage (p + 1) trees h q d
  declaration-plain storage p trees h q (ReadsDeclaration.static is int d) = declarators-plain storage (p + 2) trees h q d

  first-plain : (p : ℕ) (trees : UnitList) (h q : ℕ) → ReadsFirst tokens Refused p trees h q → ArePlain trees
  unfolding without_calls plain_statement
  first-plain p trees h q (ReadsFirst.declared {trees = trees'} d) = declaration-plain _ p trees h q d
  first-plain p trees h q (ReadsFirst.simple {q = r} {tree = tree} d close') = item-plain tree Finish (simple-plain p tree h r d) refl
  first-plain p trees h q (ReadsFirst.none is) = refl

  step-plain : (p : ℕ) (step : UnitOptional) (h q : ℕ) → ReadsStep tokens Refused p step h q → IsPlainOptional step
  unfolding without_calls plain_statement
  step-plain p step h q (ReadsStep.given {q = r} {tree = tree} d close') = ap With (simple-plain p tree h r d)
  step-plain p step h q (ReadsStep.none is) = refl

  mutual
    unfolding without_calls plain_statement

    statement-plain : (p : ℕ) (s : UnitStatement) (h q : ℕ) → ReadsStatement tokens Refused p s h q → IsPlain s
    statement-plain p s h q (ReadsStatement.block {height = i} {items = items} is d) = ap Block (items-plain (p + 1) items i q d)
    statement-plain p s h q (ReadsStatement.empty is) = refl
    statement-plain p s h q (ReadsStatement.simple {q = r} d is) = simple-plain p s h r d
    statement-plain p s h q (ReadsStatement.branch {i = i} {q = r} {j = j} {test = test} {body = body} is d e) =
        ap (λ (x : UnitStatement). If (line_at tokens p) test x Without) (statement-plain r body j q e)
    statement-plain p s h q (ReadsStatement.branch_else {i = i} {q = r} {j = j} {r = t} {k = l} {test = test} {body = body} {other = other} is d e closed is' f) =
        ap (λ (x : UnitStatement). If (line_at tokens p) test x (With (plain_statement (without_calls other)))) (statement-plain r body j t e)
        ∙ ap (λ (x : UnitStatement). If (line_at tokens p) test body (With x)) (statement-plain (t + 1) other l q f)
    statement-plain p s h q (ReadsStatement.while_loop {i = i} {q = r} {j = j} {test = test} {body = body} is d e) = ap (While (line_at tokens p) test) (statement-plain r body j q e)
    statement-plain p s h q (ReadsStatement.do_loop {i = i} {q = r} {body = body} {test = test} is d is' e close') =
        ap (λ (x : UnitStatement). Do (line_at tokens p) x test) (statement-plain (p + 1) body i r d)
    statement-plain p s h q (ReadsStatement.for_loop {i = i} {q = r} {j = j} {r = t} {k = l} {s = u} {l = m} {first = first} {test = test} {step = step} {body = body} is open' d e f g) =
        ap (λ (x : UnitList). For (line_at tokens p) x test (plain_optional (optional_without_calls step)) (plain_statement (without_calls body))) (first-plain (p + 2) first i r d)
        ∙ ap (λ (x : UnitOptional). For (line_at tokens p) first test x (plain_statement (without_calls body))) (step-plain t step l u f)
        ∙ ap (For (line_at tokens p) first test step) (statement-plain u body m q g)
    statement-plain p s h q (ReadsStatement.break_out is close') = refl
    statement-plain p s h q (ReadsStatement.continue_on is close') = refl
    statement-plain p s h q (ReadsStatement.return_from is d close') = refl

    items-plain : (p : ℕ) (trees : UnitList) (h q : ℕ) → ReadsItems tokens Refused p trees h q → ArePlain trees
    items-plain p trees h q (ReadsItems.close is) = refl
    items-plain p trees h q (ReadsItems.declared {storage = storage} {i = i} {q = r} {j = j} {trees = some} {rest = rest} d e) =
        append-plain some rest (declaration-plain storage p some i r d) (items-plain r rest j q e)
    items-plain p trees h q (ReadsItems.stated {i = i} {q = r} {j = j} {tree = tree} {rest = rest} d e) =
        item-plain tree rest (statement-plain p tree i r d) (items-plain r rest j q e)

  main-plain : (p : ℕ) (items : UnitList) (h : ℕ) → ReadsMain tokens Refused p items h → ArePlain items
  main-plain p items h (ReadsMain.without_void {height = i} {to = to} main open' close' brace d end') = items-plain (p + 4) items i to d
  main-plain p items h (ReadsMain.with_void {height = i} {to = to} main open' void close' brace d end') = items-plain (p + 5) items i to d

  -- trees that are read without calls have none
  pub main-no_calls : (p : ℕ) (trees : List Stmt) (h : ℕ) → ReadsMain tokens Refused p (unit_list_of trees) h → unit_list_of trees ≡ plain_list (list_of trees)
  main-no_calls p trees h reads = sym (main-plain p (unit_list_of trees) h reads) ∙ ap plain_list (trees_without_calls trees)
