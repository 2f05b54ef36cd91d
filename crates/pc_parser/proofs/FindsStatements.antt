-- The parser of statements and programs finds a reading that the budget allows.
use Rattle.std.proofs.Common.{◌≡◌, refl, ap, ◌∙◌, ℕ, zero, suc, ◌+◌, ◌-◌, ◌<◌, ◌≤◌, true, false, List, length, arith, subst}
use Rattle.std.specs.Prelude.{Option, Some, None, max}
use Rattle.pc_lexer.specs.declared.token.Token.{Token}
use Rattle.pc_lexer.specs.declared.token.TokenKind.{TokenKind}
use Rattle.pc_lexer.specs.declared.token.TokenKind.TheVariants as kinds
use Rattle.pc_lexer.specs.declared.mark.Mark.TheVariants as marks
use Rattle.pc_lexer.specs.declared.keyword.Keyword.TheVariants as keys
use Rattle.pc_syntax.specs.Source.{SourceExpression}
use Rattle.pc_syntax.specs.Unit.{UnitStatement, UnitList, UnitOptional, Block, If, While, Do, For, Break, Continue}
use Rattle.pc_syntax.specs.Unit.{Return, Empty, Without, With, Finish, Item, unit_appended}
use Rattle.pc_parser.specs.declared.calls.Calls.{Calls}
use Rattle.pc_parser.specs.declared.storage.Storage.{Storage}
use Rattle.pc_parser.specs.declared.storage.Storage.TheVariants.{Automatic, Static}
use Rattle.pc_parser.specs.Places.{kind_at, line_at}
use Rattle.pc_parser.specs.models.Tests.{is_mark, is_key}
use Rattle.pc_parser.specs.Statements.{ends_open, ReadsTest, ReadsSimple, ReadsDeclaration, ReadsFirst, ReadsCondition, ReadsStep, ReadsStatement, ReadsItems, ReadsMain}
use Rattle.pc_parser.specs.models.Outcome.{Parsed, after}
use Rattle.pc_parser.specs.models.ExpressionParser.{expression_at}
use Rattle.pc_parser.specs.models.StatementParser.{parenthesized_at, first_at, condition_at, step_at, item_at, items_at, block_at, otherwise_at, branch_at, while_at, do_at, for_body, for_at, lone}
use Rattle.pc_parser.specs.models.StatementParser.{return_at, keyed, started, statement_on, statement_from, statement_at, statement_below, nothing_behind, main_block, main_at}
use Rattle.pc_parser.proofs.Budgets.{below-statement, statement_at-from}
use Rattle.pc_parser.proofs.Tokens.{is_mark-of, is_key-of}
use Rattle.pc_parser.proofs.Finds.{allowed-yes, expect-yes, expect_key-yes, after-parsed, cond-yes, cond-no}
use Rattle.pc_parser.proofs.FindsExpressions.{follows-semicolon, finds-expression, expression-positive}
use Rattle.pc_parser.proofs.Starts.{CanBegin, simple-begins, statement-begins}
use Rattle.pc_parser.proofs.Onward.{inside, declaration-onward, statement-onward}
use Rattle.pc_parser.proofs.FindsSimple.{finds-test, test-positive, finds-ended, finds-declaration, finds-static, first_key, declaration-key, finds-first, finds-condition, finds-step}

module _ (tokens : List Token) (calls : Calls) where
  -- what begins after a statement in a block is no `else`
  items-else : (p : ℕ) (trees : UnitList) (h q : ℕ) → ReadsItems tokens calls p trees h q → is_key keys.Else (kind_at tokens p) ≡ false
  items-else p trees h q (ReadsItems.close is) = ap (is_key keys.Else) is
  items-else p trees h q (ReadsItems.declared {storage = storage} {i = i} {q = r} {trees = some} d e) = ap (is_key keys.Else) (declaration-key tokens calls 0 storage p some i r d) ∙ no_else storage
    where
      no_else : (storage : Storage) → is_key keys.Else (Some (kinds.Key (first_key tokens calls 0 storage))) ≡ false
      no_else Automatic = refl
      no_else Static = refl
  items-else p trees h q (ReadsItems.stated {i = i} {q = r} {tree = tree} d e) = (statement-begins tokens calls p tree i r d).else_not

  items-inside : (p : ℕ) (trees : UnitList) (h q : ℕ) → ReadsItems tokens calls p trees h q → p < length tokens
  items-inside p trees h q (ReadsItems.close is) = inside tokens p _ is
  items-inside p trees h q (ReadsItems.declared {storage = storage} {i = i} {q = r} {trees = some} d e) = inside tokens p _ (declaration-key tokens calls 0 storage p some i r d)
  items-inside p trees h q (ReadsItems.stated {i = i} {q = r} {j = j} {tree = tree} {rest = rest} d e) =
      let a = items-inside r rest j q e in let b = statement-onward tokens calls p tree i r d in omega arith

  statement-positive : (p : ℕ) (s : UnitStatement) (h q : ℕ) → ReadsStatement tokens calls p s h q → 1 ≤ h
  statement-positive p s h q (ReadsStatement.block is d) = omega arith
  statement-positive p s h q (ReadsStatement.empty is) = omega arith
  statement-positive p s h q (ReadsStatement.simple {q = r} d is) = simple-positive p s h r d
    where
      simple-positive : (p : ℕ) (s : UnitStatement) (h q : ℕ) → ReadsSimple tokens calls p s h q → 1 ≤ h
      simple-positive p s h q (ReadsSimple.assignment d is found e) = omega arith
      simple-positive p s h q (ReadsSimple.step_behind d is found) = omega arith
      simple-positive p s h q (ReadsSimple.step_before is found d) = omega arith
      simple-positive p s h q (ReadsSimple.print is d) = omega arith
      simple-positive p s h q (ReadsSimple.evaluation d) = omega arith
      simple-positive p s h q (ReadsSimple.call may d) = omega arith
      simple-positive p s h q (ReadsSimple.assigned_call may is assign d) = omega arith
  statement-positive p s h q (ReadsStatement.branch is d e) = omega arith
  statement-positive p s h q (ReadsStatement.branch_else is d e closed is' f) = omega arith
  statement-positive p s h q (ReadsStatement.while_loop is d e) = omega arith
  statement-positive p s h q (ReadsStatement.do_loop is d is' e close') = omega arith
  statement-positive p s h q (ReadsStatement.for_loop is open' d e f g) = omega arith
  statement-positive p s h q (ReadsStatement.break_out is close') = omega arith
  statement-positive p s h q (ReadsStatement.continue_on is close') = omega arith
  statement-positive p s h q (ReadsStatement.return_from is d close') = omega arith

  module _ (b : ℕ) where
    -- a statement, by the token that it begins with
    by_token : (p : ℕ) (kind : Option TokenKind) → kind_at tokens p ≡ kind → statement_at tokens calls b p ≡ statement_on tokens calls (statement_below tokens calls b) b kind p
    unfolding statement_from
    by_token p kind is = statement_at-from tokens calls b p ∙ ap (λ k. statement_on tokens calls (statement_below tokens calls b) b k p) is

    -- a statement with a budget that is one less
    inner : (p : ℕ) (s : UnitStatement) (h q : ℕ) → 1 ≤ b → statement_at tokens calls (b - 1) p ≡ Parsed s h q → statement_below tokens calls b p ≡ Parsed s h q
    inner p s h q some is = below-statement tokens calls b p some ∙ is

    finds-simple_statement : (p : ℕ) (s : UnitStatement) (h q : ℕ) → ReadsSimple tokens calls p s h q → kind_at tokens q ≡ Some (kinds.Mark marks.Semicolon) → h ≤ b →
        statement_at tokens calls b p ≡ Parsed s h (q + 1)
    finds-simple_statement p s h q d close' fits =
        by_token p (kind_at tokens p) refl ∙ (simple-begins tokens calls p s h q d).ended tokens calls (statement_below tokens calls b) b p ∙ finds-ended tokens calls b p s h q d close' fits

    finds-block : (p : ℕ) (items : UnitList) (h q : ℕ) → kind_at tokens p ≡ Some (kinds.Mark marks.LeftBrace) →
        items_at tokens calls (statement_below tokens calls b) b (length tokens + 1) (p + 1) ≡ Parsed items h q → 1 ≤ b →
        statement_at tokens calls b p ≡ Parsed (Block items) (h + 1) q
    unfolding statement_on started block_at
    finds-block p items h q is found some =
        by_token p _ is ∙ ap (λ o. after o (λ items' height to. Parsed (Block items') height to))
        (allowed-yes 1 b p _ some ∙ after-parsed (items_at tokens calls (statement_below tokens calls b) b (length tokens + 1) (p + 1)) _ items h q found)

    finds-empty : (p : ℕ) → kind_at tokens p ≡ Some (kinds.Mark marks.Semicolon) → 1 ≤ b → statement_at tokens calls b p ≡ Parsed Empty 1 (p + 1)
    unfolding statement_on started
    finds-empty p is some = by_token p _ is ∙ allowed-yes 1 b p _ some

    finds-branch : (p : ℕ) (test : SourceExpression) (i q : ℕ) (body : UnitStatement) (j to : ℕ) → kind_at tokens p ≡ Some (kinds.Key keys.If) → ReadsTest tokens (p + 1) test i q →
        statement_at tokens calls (b - 1) q ≡ Parsed body j to → max i j + 1 ≤ b →
        statement_at tokens calls b p ≡ otherwise_at tokens (statement_below tokens calls b) b (line_at tokens p) test body i j to
    unfolding statement_on keyed branch_at
    finds-branch p test i q body j to is d found fits =
        let some = test-positive tokens calls (p + 1) test i q d in
        by_token p _ is ∙ allowed-yes 2 b p _ (omega arith) ∙ after-parsed (parenthesized_at tokens (b - 1) (p + 1)) _ test i q (finds-test tokens calls (b - 1) (p + 1) test i q d (omega arith)) ∙
        after-parsed (statement_below tokens calls b q) _ body j to (inner q body j to (omega arith) found)

    without-else : (line : ℕ) (test : SourceExpression) (body : UnitStatement) (i j at : ℕ) → is_key keys.Else (kind_at tokens at) ≡ false →
        otherwise_at tokens (statement_below tokens calls b) b line test body i j at ≡ Parsed (If line test body Without) (max i j + 1) at
    unfolding otherwise_at
    without-else line test body i j at no' = cond-no _ _ _ no'

    with-else : (line : ℕ) (test : SourceExpression) (body other : UnitStatement) (i j at l to : ℕ) → kind_at tokens at ≡ Some (kinds.Key keys.Else) →
        statement_at tokens calls (b - 1) (at + 1) ≡ Parsed other l to → 1 ≤ b →
        otherwise_at tokens (statement_below tokens calls b) b line test body i j at ≡ Parsed (If line test body (With other)) (max i (max j l) + 1) to
    unfolding otherwise_at
    with-else line test body other i j at l to is found some =
        cond-yes _ _ _ (is_key-of keys.Else (kind_at tokens at) is) ∙ after-parsed (statement_below tokens calls b (at + 1)) _ other l to (inner (at + 1) other l to some found)

    finds-while : (p : ℕ) (test : SourceExpression) (i q : ℕ) (body : UnitStatement) (j to : ℕ) → kind_at tokens p ≡ Some (kinds.Key keys.While) → ReadsTest tokens (p + 1) test i q →
        statement_at tokens calls (b - 1) q ≡ Parsed body j to → max i j + 1 ≤ b → statement_at tokens calls b p ≡ Parsed (While (line_at tokens p) test body) (max i j + 1) to
    unfolding statement_on keyed while_at
    finds-while p test i q body j to is d found fits =
        let some = test-positive tokens calls (p + 1) test i q d in
        by_token p _ is ∙ allowed-yes 2 b p _ (omega arith) ∙ after-parsed (parenthesized_at tokens (b - 1) (p + 1)) _ test i q (finds-test tokens calls (b - 1) (p + 1) test i q d (omega arith)) ∙
        after-parsed (statement_below tokens calls b q) _ body j to (inner q body j to (omega arith) found)

    finds-do : (p : ℕ) (body : UnitStatement) (i q : ℕ) (test : SourceExpression) (j r : ℕ) → kind_at tokens p ≡ Some (kinds.Key keys.Do) →
        statement_at tokens calls (b - 1) (p + 1) ≡ Parsed body i q →
        kind_at tokens q ≡ Some (kinds.Key keys.While) → ReadsTest tokens (q + 1) test j r → kind_at tokens r ≡ Some (kinds.Mark marks.Semicolon) → max i j + 1 ≤ b →
        statement_at tokens calls b p ≡ Parsed (Do (line_at tokens p) body test) (max i j + 1) (r + 1)
    unfolding statement_on keyed do_at
    finds-do p body i q test j r is found is' d close' fits =
        let some = test-positive tokens calls (q + 1) test j r d in
        by_token p _ is ∙ allowed-yes 2 b p _ (omega arith) ∙ after-parsed (statement_below tokens calls b (p + 1)) _ body i q (inner (p + 1) body i q (omega arith) found) ∙
        expect_key-yes tokens keys.While q _ is' ∙ after-parsed (parenthesized_at tokens (b - 1) (q + 1)) _ test j r (finds-test tokens calls (b - 1) (q + 1) test j r d (omega arith))
        ∙ expect-yes tokens marks.Semicolon r _ close'

    finds-for : (p : ℕ) (first : UnitList) (i q : ℕ) (test : SourceExpression) (j r : ℕ) (step : UnitOptional) (k' s : ℕ) (body : UnitStatement) (l to : ℕ) →
        kind_at tokens p ≡ Some (kinds.Key keys.For) → kind_at tokens (p + 1) ≡ Some (kinds.Mark marks.LeftParen) → ReadsFirst tokens calls (p + 2) first i q →
        ReadsCondition tokens q test j r → ReadsStep tokens calls r step k' s →
        statement_at tokens calls (b - 1) s ≡ Parsed body l to → 1 ≤ l → max (max i (max j k')) l + 1 ≤ b →
        statement_at tokens calls b p ≡ Parsed (For (line_at tokens p) first test step body) (max (max i (max j k')) l + 1) to
    unfolding statement_on keyed for_at for_body
    finds-for p first i q test j r step k' s body l to is open' d e f found some fits =
        by_token p _ is ∙ allowed-yes 2 b p _ (omega arith) ∙ expect-yes tokens marks.LeftParen (p + 1) _ open' ∙
        after-parsed (first_at tokens calls (b - 1) (p + 2)) _ first i q (finds-first tokens calls (b - 1) (p + 2) first i q d (omega arith)) ∙
        after-parsed (condition_at tokens (b - 1) q) _ test j r (finds-condition tokens calls (b - 1) q test j r e (omega arith)) ∙
        after-parsed (step_at tokens calls (b - 1) r) _ step k' s (finds-step tokens calls (b - 1) r step k' s f (omega arith)) ∙
        after-parsed (statement_below tokens calls b s) _ body l to (inner s body l to (omega arith) found)

    finds-break : (p : ℕ) → kind_at tokens p ≡ Some (kinds.Key keys.Break) → kind_at tokens (p + 1) ≡ Some (kinds.Mark marks.Semicolon) → 1 ≤ b →
        statement_at tokens calls b p ≡ Parsed (Break (line_at tokens p)) 1 (p + 2)
    unfolding statement_on keyed lone
    finds-break p is close' some = by_token p _ is ∙ allowed-yes 1 b p _ some ∙ expect-yes tokens marks.Semicolon (p + 1) _ close'

    finds-continue : (p : ℕ) → kind_at tokens p ≡ Some (kinds.Key keys.Continue) → kind_at tokens (p + 1) ≡ Some (kinds.Mark marks.Semicolon) → 1 ≤ b →
        statement_at tokens calls b p ≡ Parsed (Continue (line_at tokens p)) 1 (p + 2)
    unfolding statement_on keyed lone
    finds-continue p is close' some = by_token p _ is ∙ allowed-yes 1 b p _ some ∙ expect-yes tokens marks.Semicolon (p + 1) _ close'

    finds-return : (p : ℕ) (value : SourceExpression) (h q : ℕ) → kind_at tokens p ≡ Some (kinds.Key keys.Return) →
        expression_at tokens (b - 1) 0 (p + 1) ≡ Parsed value h q → kind_at tokens q ≡ Some (kinds.Mark marks.Semicolon) → 2 ≤ b →
        statement_at tokens calls b p ≡ Parsed (Return (line_at tokens p) value) (h + 1) (q + 1)
    unfolding statement_on keyed return_at
    finds-return p value h q is found close' low = by_token p _ is ∙ allowed-yes 2 b p _ low ∙ after-parsed (expression_at tokens (b - 1) 0 (p + 1)) _ value h q found
        ∙ expect-yes tokens marks.Semicolon q _ close'

    -- the items of a block
    closes-items : (n p : ℕ) → kind_at tokens p ≡ Some (kinds.Mark marks.RightBrace) → items_at tokens calls (statement_below tokens calls b) b (suc n) p ≡ Parsed Finish 0 (p + 1)
    unfolding items_at
    closes-items n p is = cond-yes _ _ _ (is_mark-of marks.RightBrace (kind_at tokens p) is)

    declared-item : (storage : Storage) (p : ℕ) (trees : UnitList) (i q : ℕ) → ReadsDeclaration tokens calls storage p trees i q → i ≤ b - 1 →
        item_at tokens calls (statement_below tokens calls b) b p ≡ Parsed trees i q
    unfolding item_at
    declared-item Automatic p trees i q d fits =
        cond-yes _ _ _ (is_key-of keys.Int (kind_at tokens p) (declaration-key tokens calls 0 Automatic p trees i q d)) ∙ finds-declaration tokens calls (b - 1) p trees i q d fits
    declared-item Static p trees i q d fits =
        let is = declaration-key tokens calls 0 Static p trees i q d in
        cond-no _ _ _ (ap (is_key keys.Int) is) ∙ cond-yes _ _ _ (is_key-of keys.Static (kind_at tokens p) is) ∙ finds-static tokens calls (b - 1) p trees i q d fits

    declares-item : (storage : Storage) (n p : ℕ) (trees rest : UnitList) (i q j to : ℕ) → ReadsDeclaration tokens calls storage p trees i q → i ≤ b - 1 →
        items_at tokens calls (statement_below tokens calls b) b n q ≡ Parsed rest j to →
        items_at tokens calls (statement_below tokens calls b) b (suc n) p ≡ Parsed (unit_appended trees rest) (max i j) to
    unfolding items_at
    declares-item storage n p trees rest i q j to d fits found =
        cond-no _ _ _ (ap (is_mark marks.RightBrace) (declaration-key tokens calls 0 storage p trees i q d)) ∙
        after-parsed (item_at tokens calls (statement_below tokens calls b) b p) _ trees i q (declared-item storage p trees i q d fits) ∙
        after-parsed (items_at tokens calls (statement_below tokens calls b) b n q) _ rest j to found

    states-item : (n p : ℕ) (tree : UnitStatement) (rest : UnitList) (i q j to : ℕ) → CanBegin (kind_at tokens p) → statement_at tokens calls (b - 1) p ≡ Parsed tree i q →
        1 ≤ b → items_at tokens calls (statement_below tokens calls b) b n q ≡ Parsed rest j to →
        items_at tokens calls (statement_below tokens calls b) b (suc n) p ≡ Parsed (Item tree rest) (max i j) to
    unfolding items_at item_at
    states-item n p tree rest i q j to begins one some found =
        cond-no _ _ _ begins.brace_not ∙
        after-parsed (item_at tokens calls (statement_below tokens calls b) b p) _ (Item tree Finish) i q
        (cond-no _ _ _ begins.int_not ∙ cond-no _ _ _ begins.static_not ∙ after-parsed (statement_below tokens calls b p) _ tree i q (inner p tree i q some one)) ∙
        after-parsed (items_at tokens calls (statement_below tokens calls b) b n q) _ rest j to found

  mutual
    pub finds-statement : (b p : ℕ) (s : UnitStatement) (h q : ℕ) → ReadsStatement tokens calls p s h q → (ends_open s ≡ true → is_key keys.Else (kind_at tokens q) ≡ false) →
        h ≤ b → statement_at tokens calls b p ≡ Parsed s h q
    finds-statement b p s h q (ReadsStatement.block {height = i} {items = items} is d) open' fits =
        finds-block b p items i q is (finds-items b (length tokens + 1) (p + 1) items i q d (omega arith) (omega arith) (omega arith)) (omega arith)
    finds-statement b p s h q (ReadsStatement.empty is) open' fits = finds-empty b p is fits
    finds-statement b p s h q (ReadsStatement.simple {q = r} d is) open' fits = finds-simple_statement b p s h r d is fits
    finds-statement b p s h q (ReadsStatement.branch {i = i} {q = r} {j = j} {test = test} {body = body} is d e) open' fits =
        finds-branch b p test i r body j q is d (finds-statement (b - 1) r body j q e (λ o. open' refl) (omega arith)) fits ∙ without-else b (line_at tokens p) test body i j q (open' refl)
    finds-statement b p s h q (ReadsStatement.branch_else {i = i} {q = r} {j = j} {r = t} {k = l} {test = test} {body = body} {other = other} is d e closed is' f) open' fits =
        finds-branch b p test i r body j t is d (finds-statement (b - 1) r body j t e (λ o. cc) (omega arith)) (omega arith) ∙
        with-else b (line_at tokens p) test body other i j t l q is' (finds-statement (b - 1) (t + 1) other l q f open' (omega arith)) (omega arith)
    finds-statement b p s h q (ReadsStatement.while_loop {i = i} {q = r} {j = j} {test = test} {body = body} is d e) open' fits =
        finds-while b p test i r body j q is d (finds-statement (b - 1) r body j q e open' (omega arith)) fits
    finds-statement b p s h q (ReadsStatement.do_loop {i = i} {q = r} {j = j} {r = t} {body = body} {test = test} is d is' e close') open' fits =
        finds-do b p body i r test j t is (finds-statement (b - 1) (p + 1) body i r d (λ o. ap (is_key keys.Else) is') (omega arith)) is' e close' fits
    finds-statement b p s h q (ReadsStatement.for_loop {i = i} {q = r} {j = j} {r = t} {k = l} {s = u} {l = m} {first = first} {test = test} {step = step} {body = body} is open'' d e f g) open' fits =
        finds-for b p first i r test j t step l u body m q is open'' d e f (finds-statement (b - 1) u body m q g open' (omega arith)) (statement-positive u body m q g) fits
    finds-statement b p s h q (ReadsStatement.break_out is close') open' fits = finds-break b p is close' fits
    finds-statement b p s h q (ReadsStatement.continue_on is close') open' fits = finds-continue b p is close' fits
    finds-statement b p s h q (ReadsStatement.return_from {height = i} {q = r} {value = value} is d close') open' fits =
        let some = expression-positive tokens (p + 1) value i r d in
        finds-return b p value i r is (finds-expression tokens (b - 1) (p + 1) value i r d (follows-semicolon (kind_at tokens r) close') (omega arith)) close' (omega arith)

    pub finds-items : (b n p : ℕ) (trees : UnitList) (h q : ℕ) → ReadsItems tokens calls p trees h q → length tokens < p + n → h ≤ b - 1 → 1 ≤ b →
        items_at tokens calls (statement_below tokens calls b) b n p ≡ Parsed trees h q
    finds-items b zero p trees h q d enough fits some = let a = items-inside p trees h q d in absurd (omega arith)
    finds-items b (suc n) p trees h q (ReadsItems.close is) enough fits some = closes-items b n p is
    finds-items b (suc n) p trees h q (ReadsItems.declared {storage = storage} {i = i} {q = r} {j = j} {trees = some'} {rest = rest} d e) enough fits some =
        let onward = declaration-onward tokens calls storage p some' i r d in
        declares-item b storage n p some' rest i r j q d (omega arith) (finds-items b n r rest j q e (omega arith) (omega arith) some)
    finds-items b (suc n) p trees h q (ReadsItems.stated {i = i} {q = r} {j = j} {tree = tree} {rest = rest} d e) enough fits some =
        let onward = statement-onward tokens calls p tree i r d in
        states-item b n p tree rest i r j q (statement-begins tokens calls p tree i r d)
        (finds-statement (b - 1) p tree i r d (λ o. items-else r rest j q e) (omega arith)) some (finds-items b n r rest j q e (omega arith) (omega arith) some)

  -- the block of a program
  finds-main : (b p : ℕ) (items : UnitList) (h q : ℕ) → kind_at tokens p ≡ Some (kinds.Mark marks.RightParen) →
      kind_at tokens (p + 1) ≡ Some (kinds.Mark marks.LeftBrace) → ReadsItems tokens calls (p + 1 + 1) items h q → kind_at tokens q ≡ None → h + 1 ≤ b →
      main_block tokens calls b p ≡ Parsed items (h + 1) q
  unfolding main_block block_at nothing_behind
  finds-main b p items h q close' open' d end' fits =
      expect-yes tokens marks.RightParen p _ close' ∙ expect-yes tokens marks.LeftBrace (p + 1) _ open' ∙
      after-parsed (block_at tokens calls (statement_below tokens calls b) b (p + 1)) _ items (h + 1) q
      (allowed-yes 1 b (p + 1) _ (omega arith)
      ∙ after-parsed (items_at tokens calls (statement_below tokens calls b) b (length tokens + 1) (p + 1 + 1)) _ items h q
      (finds-items b (length tokens + 1) (p + 1 + 1) items h q d (omega arith) (omega arith) (omega arith))) ∙
      ap (nothing_behind items (h + 1) q) end'

  -- the same at a place that is spelled another way
  pub brace-at : (p q : ℕ) → p ≡ q → kind_at tokens p ≡ Some (kinds.Mark marks.LeftBrace) → kind_at tokens q ≡ Some (kinds.Mark marks.LeftBrace)
  brace-at p q same is = subst (λ n. kind_at tokens n ≡ Some (kinds.Mark marks.LeftBrace)) same is

  pub items-at : (p q : ℕ) (items : UnitList) (h to : ℕ) → p ≡ q → ReadsItems tokens calls p items h to → ReadsItems tokens calls q items h to
  items-at p q items h to same d = subst (λ n. ReadsItems tokens calls n items h to) same d

  -- a `main` that the budget allows is found
  pub finds-main_part : (b p : ℕ) (items : UnitList) (h : ℕ) → ReadsMain tokens calls p items h → h ≤ b → (to : ℕ) × (main_at tokens calls b p ≡ Parsed items h to)
  unfolding main_at
  finds-main_part b p items h (ReadsMain.without_void {height = i} {to = to} main open' close' brace d end') fits = (
    to,
    expect_key-yes tokens keys.Main p _ main ∙ expect-yes tokens marks.LeftParen (p + 1) _ open' ∙ cond-no _ _ _ (ap (is_key keys.Void) close') ∙
        finds-main b (p + 2) items i to close' (brace-at (p + 3) (p + 2 + 1) (omega arith) brace) (items-at (p + 4) (p + 2 + 1 + 1) items i to (omega arith) d) end' fits,
  )
  finds-main_part b p items h (ReadsMain.with_void {height = i} {to = to} main open' void close' brace d end') fits = (
    to,
    expect_key-yes tokens keys.Main p _ main ∙ expect-yes tokens marks.LeftParen (p + 1) _ open' ∙ cond-yes _ _ _ (is_key-of keys.Void (kind_at tokens (p + 2)) void) ∙
        finds-main b (p + 3) items i to close' (brace-at (p + 4) (p + 3 + 1) (omega arith) brace) (items-at (p + 5) (p + 3 + 1 + 1) items i to (omega arith) d) end' fits,
  )
