-- What the parser of statements and programs gives is what the grammar reads.
use Rattle.std.proofs.Common.{◌≡◌, refl, ap, ◌∙◌, subst, ℕ, zero, suc, ◌+◌, ◌-◌, ◌≤◌, true, false, List, length, arith, cond}
use Rattle.std.specs.Prelude.{Option, Some, None, max}
use Rattle.pc_lexer.specs.declared.token.Token.{Token}
use Rattle.pc_lexer.specs.declared.token.TokenKind.{TokenKind}
use Rattle.pc_lexer.specs.declared.token.TokenKind.TheVariants as kinds
use Rattle.pc_lexer.specs.declared.mark.Mark.{Mark}
use Rattle.pc_lexer.specs.declared.mark.Mark.TheVariants as marks
use Rattle.pc_lexer.specs.declared.keyword.Keyword.{Keyword}
use Rattle.pc_lexer.specs.declared.keyword.Keyword.TheVariants as keys
use Rattle.pc_syntax.specs.Source.{SourceExpression}
use Rattle.pc_syntax.specs.Unit.{UnitStatement, UnitList, Block, Break, Continue, Finish, Item, unit_appended}
use Rattle.pc_parser.specs.declared.calls.Calls.{Calls}
use Rattle.pc_parser.specs.declared.storage.Storage.{Storage}
use Rattle.pc_parser.specs.declared.storage.Storage.TheVariants.{Automatic, Static}
use Rattle.pc_parser.specs.Places.{kind_at, line_at}
use Rattle.pc_parser.specs.models.Tests.{is_key, mark_is, key_is}
use Rattle.pc_parser.specs.Statements.{ends_open, ReadsSimple, ReadsStatement, ReadsItems, ReadsMain}
use Rattle.pc_parser.specs.models.Outcome.{ParseOutcome, Parsed, Unreadable, TooHigh, after}
use Rattle.pc_parser.specs.models.ExpressionParser.{expression_at}
use Rattle.pc_parser.specs.models.StatementParser.{parenthesized_at, ended_at, declaration_at, static_at, first_at, condition_at, step_at}
use Rattle.pc_parser.specs.models.StatementParser.{item_at, items_at, block_at, otherwise_at, branch_at, while_at, do_at}
use Rattle.pc_parser.specs.models.StatementParser.{for_body, for_at, lone, return_at, keyed, started, statement_on, statement_from, statement_at, statement_below, nothing_behind, main_block}
use Rattle.pc_parser.specs.models.StatementParser.{main_at}
use Rattle.pc_parser.proofs.Tokens.{is_key-of, mark_is-true, key_is-true}
use Rattle.pc_parser.proofs.Finds.{false_from}
use Rattle.pc_parser.proofs.FindsStatements.{brace-at, items-at}
use Rattle.pc_parser.proofs.Onward.{inside, test-onward, simple-onward, items-onward}
use Rattle.pc_parser.proofs.Holds.{Good, after-good, cond-good, allowed-good, expect-good, expect_key-good, on_mark-good, on_key-good}
use Rattle.pc_parser.proofs.HoldsExpressions.{Sound, expression_at-holds}
use Rattle.pc_parser.proofs.HoldsSimple.{IsTest, IsClosed, IsDeclaration, FirstPart, IsCondition, IsStep, parenthesized_at-holds, ended_at-holds, declaration_at-holds, static_at-holds, first_at-holds}
use Rattle.pc_parser.proofs.HoldsSimple.{condition_at-holds, step_at-holds}

module _ (tokens : List Token) (calls : Calls) where
  -- a statement that the budget allows, and after which no `else` stands that would be its own
  pub record IsStatement (b p : ℕ) (s : UnitStatement) (h q : ℕ) : Type 0 where
    pub reads : ReadsStatement tokens calls p s h q
    pub low : h ≤ b
    pub within : q ≤ length tokens
    pub onward : p ≤ q
    pub shut : ends_open s ≡ true → is_key keys.Else (kind_at tokens q) ≡ false

  -- items, with the `}` after them
  pub record IsItems (b p : ℕ) (trees : UnitList) (h q : ℕ) : Type 0 where
    pub reads : ReadsItems tokens calls p trees h q
    pub low : h ≤ b
    pub within : q ≤ length tokens

  -- the items of a block, one lower than the block
  pub record IsBlock (b p : ℕ) (trees : UnitList) (h q : ℕ) : Type 0 where
    pub height : ℕ
    pub is : height + 1 ≡ h
    pub items : IsItems (b - 1) (p + 1) trees height q
    pub some : 1 ≤ b

  -- a declaration, or a statement
  data IsItem (b p : ℕ) : (trees : UnitList) → (h q : ℕ) → Type 0 where
    declared : {storage : Storage} {trees : UnitList} {h q : ℕ} → IsDeclaration tokens calls storage b p trees h q → IsItem b p trees h q
    stated : {tree : UnitStatement} {h q : ℕ} → IsStatement b p tree h q → IsItem b p (Item tree Finish) h q

  simple-shut : (p : ℕ) (s : UnitStatement) (h q : ℕ) → ReadsSimple tokens calls p s h q → ends_open s ≡ false
  simple-shut p s h q (ReadsSimple.assignment d is found e) = refl
  simple-shut p s h q (ReadsSimple.step_behind d is found) = refl
  simple-shut p s h q (ReadsSimple.step_before is found d) = refl
  simple-shut p s h q (ReadsSimple.print is d) = refl
  simple-shut p s h q (ReadsSimple.evaluation d) = refl
  simple-shut p s h q (ReadsSimple.call may d) = refl
  simple-shut p s h q (ReadsSimple.assigned_call may is assign d) = refl

  abbrev pub InnerHolds : ℕ → ((from : ℕ) → ParseOutcome UnitStatement) → Type 0
  InnerHolds b inner = (from : ℕ) → from ≤ length tokens → Good (length tokens) (b - 1 - 1 + from) (IsStatement (b - 1) from) (inner from)

  ended-holds : (b p : ℕ) → p ≤ length tokens → Good (length tokens) (b - 1 + p) (IsStatement b p) (ended_at tokens calls b p)
  ended-holds b p within = weaker (ended_at tokens calls b p) (ended_at-holds tokens calls b p within)
    where
      weaker : (o : ParseOutcome UnitStatement) → Good (length tokens) (b - 1 + p) (IsClosed tokens calls marks.Semicolon b p) o → Good (length tokens) (b - 1 + p) (IsStatement b p) o
      weaker (Parsed s h q) good = let onward = simple-onward tokens calls p s h good.at good.reads in let is = good.is in let shut = simple-shut p s h good.at good.reads in
          record {
            reads = subst (ReadsStatement tokens calls p s h) good.is
                (ReadsStatement.simple good.reads good.behind);
            low = good.low;
            within = good.within;
            onward = omega arith;
            shut = λ t. cc;
          }
      weaker (Unreadable at) good = good
      weaker (TooHigh at) good = good

  module _ (inner : (from : ℕ) → ParseOutcome UnitStatement) (b : ℕ) (holds : InnerHolds b inner) where
    item_at-holds : (p : ℕ) → 1 ≤ b → p ≤ length tokens → Good (length tokens) (b - 1 - 1 + p) (IsItem (b - 1) p) (item_at tokens calls inner b p)
    unfolding item_at
    item_at-holds p some within =
        on_key-good tokens (b - 1 - 1 + p) keys.Int p (IsItem (b - 1) p) _ _
        (λ int below'. weaker Automatic (declaration_at tokens calls (b - 1) p) (declaration_at-holds tokens calls (b - 1) p int)) (λ no'.
        on_key-good tokens (b - 1 - 1 + p) keys.Static p (IsItem (b - 1) p) _ _ (λ static below'. weaker Static (static_at tokens calls (b - 1) p) (static_at-holds tokens calls (b - 1) p static))
        (λ no''.
        after-good (length tokens) (b - 1 - 1 + p) (b - 1 - 1 + p) (IsStatement (b - 1) p) (IsItem (b - 1) p) (inner p) _ (omega arith) (holds p within) (λ s h q good. IsItem.stated good)))
      where
        weaker : (storage : Storage) (o : ParseOutcome UnitList) →
            Good (length tokens) (b - 1 - 1 + p) (IsDeclaration tokens calls storage (b - 1) p) o → Good (length tokens) (b - 1 - 1 + p) (IsItem (b - 1) p) o
        weaker storage (Parsed t h q) good = IsItem.declared good
        weaker storage (Unreadable at) good = good
        weaker storage (TooHigh at) good = good

    item-inside : (p : ℕ) (trees : UnitList) (h q : ℕ) → IsItem (b - 1) p trees h q → (q ≤ length tokens) × (p ≤ q) × (h ≤ b - 1)
    item-inside p trees h q (IsItem.declared good) = (good.within, good.onward, good.low)
    item-inside p trees h q (IsItem.stated good) = (good.within, good.onward, good.low)

    item-reads : (p : ℕ) (trees rest : UnitList) (h q j to : ℕ) → IsItem (b - 1) p trees h q → ReadsItems tokens calls q rest j to → ReadsItems tokens calls p (unit_appended trees rest) (max h j) to
    item-reads p trees rest h q j to (IsItem.declared good) d = ReadsItems.declared good.reads d
    item-reads p trees rest h q j to (IsItem.stated good) d = ReadsItems.stated good.reads d

    items_at-holds : (n p : ℕ) → 1 ≤ b → p ≤ length tokens → Good (length tokens) (b - 1 - 1 + p) (IsItems (b - 1) p) (items_at tokens calls inner b n p)
    unfolding items_at
    items_at-holds zero p some within = within
    items_at-holds (suc n) p some within =
        on_mark-good tokens (b - 1 - 1 + p) marks.RightBrace p (IsItems (b - 1) p) _ _ (λ close' below'. record { reads = ReadsItems.close close'; low = omega arith; within = omega arith }) (λ no'.
        after-good (length tokens) (b - 1 - 1 + p) (b - 1 - 1 + p) (IsItem (b - 1) p) (IsItems (b - 1) p) (item_at tokens calls inner b p) _ (omega arith) (item_at-holds p some within)
        (λ trees h q item.
        let w = item-inside p trees h q item in let w0 = w.0 in let w1 = w.1 in let w2 = w.2 in
        after-good (length tokens) (b - 1 - 1 + p) (b - 1 - 1 + q) (IsItems (b - 1) q) (IsItems (b - 1) p) (items_at tokens calls inner b n q) _ (omega arith)
        (items_at-holds n q some w0) (λ rest j to others.
        let low' = others.low in record { reads = item-reads p trees rest h q j to item others.reads; low = omega arith; within = others.within })))

    pub block_at-holds : (p : ℕ) → kind_at tokens p ≡ Some (kinds.Mark marks.LeftBrace) → Good (length tokens) (b - 1 + p) (IsBlock b p) (block_at tokens calls inner b p)
    unfolding block_at
    block_at-holds p is =
        let within = inside tokens p _ is in
        allowed-good (length tokens) (b - 1 + p) 1 b p (IsBlock b p) _ (λ high. omega arith) (omega arith) (λ low.
        after-good (length tokens) (b - 1 + p) (b - 1 - 1 + (p + 1)) (IsItems (b - 1) (p + 1)) (IsBlock b p) (items_at tokens calls inner b (length tokens + 1) (p + 1)) _
        (omega arith) (items_at-holds (length tokens + 1) (p + 1) low (omega arith)) (λ trees h q items. record { height = h; is = refl; items = items; some = low }))

    otherwise_at-holds : (p : ℕ) (test : SourceExpression) (body : UnitStatement) (i q j at : ℕ) → 2 ≤ b → kind_at tokens p ≡ Some (kinds.Key keys.If) →
        IsTest tokens calls (b - 1) (p + 1) test i q → IsStatement (b - 1) q body j at →
        Good (length tokens) (b - 1 + p) (IsStatement b p) (otherwise_at tokens inner b (line_at tokens p) test body i j at)
    unfolding otherwise_at
    otherwise_at-holds p test body i q j at low is first good =
        let a = first.low in let c = good.low in let onward = test-onward tokens (p + 1) test i q first.reads in let onward' = good.onward in
        on_key-good tokens (b - 1 + p) keys.Else at (IsStatement b p) _ _
        (λ else' below'. after-good (length tokens) (b - 1 + p) (b - 1 - 1 + (at + 1)) (IsStatement (b - 1) (at + 1)) (IsStatement b p) (inner (at + 1)) _ (omega arith)
        (holds (at + 1) (omega arith)) (λ other l to last.
        let e = last.low in let onward'' = last.onward in
        let closed : ends_open body ≡ false = false_from (ends_open body) (λ open'. let no' = good.shut open' in let yes' = is_key-of keys.Else (kind_at tokens at) else' in cc) in
        record { reads = ReadsStatement.branch_else is first.reads good.reads closed else' last.reads; low = omega arith; within = last.within; onward = omega arith; shut = last.shut }))
        (λ no'. record { reads = ReadsStatement.branch is first.reads good.reads; low = omega arith; within = good.within; onward = omega arith; shut = λ open'. no' })

    branch_at-holds : (p : ℕ) → kind_at tokens p ≡ Some (kinds.Key keys.If) → Good (length tokens) (b - 1 + p) (IsStatement b p) (branch_at tokens inner b p)
    unfolding branch_at
    branch_at-holds p is =
        let within = inside tokens p _ is in
        allowed-good (length tokens) (b - 1 + p) 2 b p (IsStatement b p) _ (λ high. omega arith) (omega arith) (λ low.
        after-good (length tokens) (b - 1 + p) (b - 1 + (p + 1)) (IsTest tokens calls (b - 1) (p + 1)) (IsStatement b p) (parenthesized_at tokens (b - 1) (p + 1)) _ (omega arith)
        (parenthesized_at-holds tokens calls (b - 1) (p + 1) (omega arith)) (λ test i q first.
        let onward = test-onward tokens (p + 1) test i q first.reads in
        after-good (length tokens) (b - 1 + p) (b - 1 - 1 + q) (IsStatement (b - 1) q) (IsStatement b p) (inner q) _ (omega arith) (holds q first.within) (λ body j at good.
        otherwise_at-holds p test body i q j at low is first good)))

    while_at-holds : (p : ℕ) → kind_at tokens p ≡ Some (kinds.Key keys.While) → Good (length tokens) (b - 1 + p) (IsStatement b p) (while_at tokens inner b p)
    unfolding while_at
    while_at-holds p is =
        let within = inside tokens p _ is in
        allowed-good (length tokens) (b - 1 + p) 2 b p (IsStatement b p) _ (λ high. omega arith) (omega arith) (λ low.
        after-good (length tokens) (b - 1 + p) (b - 1 + (p + 1)) (IsTest tokens calls (b - 1) (p + 1)) (IsStatement b p) (parenthesized_at tokens (b - 1) (p + 1)) _ (omega arith)
        (parenthesized_at-holds tokens calls (b - 1) (p + 1) (omega arith)) (λ test i q first.
        let a = first.low in let onward = test-onward tokens (p + 1) test i q first.reads in
        after-good (length tokens) (b - 1 + p) (b - 1 - 1 + q) (IsStatement (b - 1) q) (IsStatement b p) (inner q) _ (omega arith) (holds q first.within) (λ body j to good.
        let c = good.low in let onward' = good.onward in
        record { reads = ReadsStatement.while_loop is first.reads good.reads; low = omega arith; within = good.within; onward = omega arith; shut = good.shut })))

    do_at-holds : (p : ℕ) → kind_at tokens p ≡ Some (kinds.Key keys.Do) → Good (length tokens) (b - 1 + p) (IsStatement b p) (do_at tokens inner b p)
    unfolding do_at
    do_at-holds p is =
        let within = inside tokens p _ is in
        allowed-good (length tokens) (b - 1 + p) 2 b p (IsStatement b p) _ (λ high. omega arith) (omega arith) (λ low.
        after-good (length tokens) (b - 1 + p) (b - 1 - 1 + (p + 1)) (IsStatement (b - 1) (p + 1)) (IsStatement b p) (inner (p + 1)) _ (omega arith) (holds (p + 1) (omega arith)) (λ body i q good.
        let c = good.low in let onward' = good.onward in
        expect_key-good tokens (b - 1 + p) keys.While q (IsStatement b p) _ good.within (λ while' below'.
        after-good (length tokens) (b - 1 + p) (b - 1 + (q + 1)) (IsTest tokens calls (b - 1) (q + 1)) (IsStatement b p) (parenthesized_at tokens (b - 1) (q + 1)) _ (omega arith)
        (parenthesized_at-holds tokens calls (b - 1) (q + 1) (omega arith)) (λ test j r last.
        let a = last.low in let onward = test-onward tokens (q + 1) test j r last.reads in
        expect-good tokens (b - 1 + p) marks.Semicolon r (IsStatement b p) _ last.within (λ close' below''.
        record { reads = ReadsStatement.do_loop is good.reads while' last.reads close'; low = omega arith; within = omega arith; onward = omega arith; shut = λ t. cc })))))

    for_at-holds : (p : ℕ) → kind_at tokens p ≡ Some (kinds.Key keys.For) → Good (length tokens) (b - 1 + p) (IsStatement b p) (for_at tokens calls inner b p)
    unfolding for_at for_body
    for_at-holds p is =
        let here = inside tokens p _ is in
        allowed-good (length tokens) (b - 1 + p) 2 b p (IsStatement b p) _ (λ high. omega arith) (omega arith) (λ low.
        expect-good tokens (b - 1 + p) marks.LeftParen (p + 1) (IsStatement b p) _ (omega arith) (λ open' below'.
        after-good (length tokens) (b - 1 + p) (b - 1 - 1 + (p + 2)) (FirstPart tokens calls (b - 1) (p + 2)) (IsStatement b p) (first_at tokens calls (b - 1) (p + 2)) _
        (omega arith) (first_at-holds tokens calls (b - 1) (p + 2) (omega arith)) (λ first i q one.
        let a = one.low in let on1 = one.onward in
        after-good (length tokens) (b - 1 + p) (b - 1 - 1 + q) (IsCondition tokens calls (b - 1) q) (IsStatement b p) (condition_at tokens (b - 1) q) _ (omega arith)
        (condition_at-holds tokens calls (b - 1) q one.within) (λ test j r two.
        let c = two.low in let on2 = two.onward in
        after-good (length tokens) (b - 1 + p) (b - 1 - 1 + r) (IsStep tokens calls (b - 1) r) (IsStatement b p) (step_at tokens calls (b - 1) r) _ (omega arith)
        (step_at-holds tokens calls (b - 1) r two.within) (λ step l s three.
        let d = three.low in let on3 = three.onward in
        after-good (length tokens) (b - 1 + p) (b - 1 - 1 + s) (IsStatement (b - 1) s) (IsStatement b p) (inner s) _ (omega arith) (holds s three.within) (λ body m to good.
        let e = good.low in let on4 = good.onward in
        record { reads = ReadsStatement.for_loop is open' one.reads two.reads three.reads good.reads; low = omega arith; within = good.within; onward = omega arith; shut = good.shut }))))))

    break-holds : (p : ℕ) → kind_at tokens p ≡ Some (kinds.Key keys.Break) → Good (length tokens) (b - 1 + p) (IsStatement b p) (lone tokens b (Break (line_at tokens p)) p)
    unfolding lone
    break-holds p is =
        let within = inside tokens p _ is in
        allowed-good (length tokens) (b - 1 + p) 1 b p (IsStatement b p) _ (λ high. omega arith) (omega arith) (λ low.
        expect-good tokens (b - 1 + p) marks.Semicolon (p + 1) (IsStatement b p) _ (omega arith) (λ close' below'.
        record { reads = ReadsStatement.break_out is close'; low = low; within = omega arith; onward = omega arith; shut = λ t. cc }))

    continue-holds : (p : ℕ) → kind_at tokens p ≡ Some (kinds.Key keys.Continue) → Good (length tokens) (b - 1 + p) (IsStatement b p) (lone tokens b (Continue (line_at tokens p)) p)
    unfolding lone
    continue-holds p is =
        let within = inside tokens p _ is in
        allowed-good (length tokens) (b - 1 + p) 1 b p (IsStatement b p) _ (λ high. omega arith) (omega arith) (λ low.
        expect-good tokens (b - 1 + p) marks.Semicolon (p + 1) (IsStatement b p) _ (omega arith) (λ close' below'.
        record { reads = ReadsStatement.continue_on is close'; low = low; within = omega arith; onward = omega arith; shut = λ t. cc }))

    return_at-holds : (p : ℕ) → kind_at tokens p ≡ Some (kinds.Key keys.Return) → Good (length tokens) (b - 1 + p) (IsStatement b p) (return_at tokens b p)
    unfolding return_at
    return_at-holds p is =
        let within = inside tokens p _ is in
        allowed-good (length tokens) (b - 1 + p) 2 b p (IsStatement b p) _ (λ high. omega arith) (omega arith) (λ low.
        after-good (length tokens) (b - 1 + p) (b - 1 + (p + 1)) (Sound tokens (b - 1) 0 (p + 1)) (IsStatement b p) (expression_at tokens (b - 1) 0 (p + 1)) _
        (omega arith) (expression_at-holds tokens (b - 1) 0 (p + 1) (omega arith) (omega arith)) (λ t h q sound.
        let size = sound.size in let a = size.low in let l = size.long in
        expect-good tokens (b - 1 + p) marks.Semicolon q (IsStatement b p) _ size.within (λ close' below'.
        record { reads = ReadsStatement.return_from is (sound.whole refl) close'; low = omega arith; within = omega arith; onward = omega arith; shut = λ t. cc })))

    keyed-holds : (key : Keyword) (p : ℕ) → kind_at tokens p ≡ Some (kinds.Key key) → p ≤ length tokens → Good (length tokens) (b - 1 + p) (IsStatement b p) (keyed tokens calls inner b key p)
    unfolding keyed
    keyed-holds key p is within =
        either keys.If _ _ (λ e. branch_at-holds p e)
        (either keys.While _ _ (λ e. while_at-holds p e)
        (either keys.Do _ _ (λ e. do_at-holds p e)
        (either keys.For _ _ (λ e. for_at-holds p e)
        (either keys.Break _ _ (λ e. break-holds p e)
        (either keys.Continue _ _ (λ e. continue-holds p e)
        (either keys.Return _ _ (λ e. return_at-holds p e) (ended-holds b p within)))))))
      where
        either : (key' : Keyword) (x y : ParseOutcome UnitStatement) →
            (kind_at tokens p ≡ Some (kinds.Key key') → Good (length tokens) (b - 1 + p) (IsStatement b p) x) → Good (length tokens) (b - 1 + p) (IsStatement b p) y →
            Good (length tokens) (b - 1 + p) (IsStatement b p) (cond (key_is key key') x y)
        either key' x y one other =
            cond-good (length tokens) (b - 1 + p) (IsStatement b p) (key_is key key') x y (λ yes'. one (is ∙ ap (λ k. Some (kinds.Key k)) (key_is-true key key' yes')))
            (λ no'. other)

    started-holds : (mark : Mark) (p : ℕ) → kind_at tokens p ≡ Some (kinds.Mark mark) → p ≤ length tokens → Good (length tokens) (b - 1 + p) (IsStatement b p) (started tokens calls inner b mark p)
    unfolding started
    started-holds mark p is within =
        let here = inside tokens p _ is in
        cond-good (length tokens) (b - 1 + p) (IsStatement b p) (mark_is mark marks.LeftBrace) _ _
        (λ yes'. let brace = is ∙ ap (λ m. Some (kinds.Mark m)) (mark_is-true mark marks.LeftBrace yes') in block-holds brace)
        (λ no'. cond-good (length tokens) (b - 1 + p) (IsStatement b p) (mark_is mark marks.Semicolon) _ _
        (λ yes'. allowed-good (length tokens) (b - 1 + p) 1 b p (IsStatement b p) _ (λ high. omega arith) within (λ low.
        record { reads = ReadsStatement.empty (is ∙ ap (λ m. Some (kinds.Mark m)) (mark_is-true mark marks.Semicolon yes')); low = low; within = omega arith; onward = omega arith; shut = λ t. cc }))
        (λ no''. ended-holds b p within))
      where
        block-holds : kind_at tokens p ≡ Some (kinds.Mark marks.LeftBrace) →
            Good (length tokens) (b - 1 + p) (IsStatement b p) (after (block_at tokens calls inner b p) (λ items height to. Parsed (Block items) height to))
        block-holds brace =
            after-good (length tokens) (b - 1 + p) (b - 1 + p) (IsBlock b p) (IsStatement b p) (block_at tokens calls inner b p) _ (omega arith) (block_at-holds p brace) (λ items h q block.
            let low = block.items.low in let onward = items-onward tokens calls (p + 1) items block.height q block.items.reads in let is' = block.is in let some = block.some in
            record {
              reads = subst (λ n. ReadsStatement tokens calls p (Block items) n q) block.is (ReadsStatement.block brace block.items.reads);
              low = omega arith;
              within =
                  block.items.within;
              onward = omega arith;
              shut = λ t. cc;
            })

    statement_from-holds : (p : ℕ) → p ≤ length tokens → Good (length tokens) (b - 1 + p) (IsStatement b p) (statement_from tokens calls inner b p)
    unfolding statement_from statement_on
    statement_from-holds p within = by (kind_at tokens p) refl
      where
        by : (kind : Option TokenKind) → kind_at tokens p ≡ kind → Good (length tokens) (b - 1 + p) (IsStatement b p) (statement_on tokens calls inner b kind p)
        by (Some (kinds.Key key)) is = keyed-holds key p is within
        by (Some (kinds.Mark mark)) is = started-holds mark p is within
        by (Some (kinds.Name symbol)) is = ended-holds b p within
        by (Some (kinds.Number value)) is = ended-holds b p within
        by None is = ended-holds b p within

  pub statement_at-holds : (b p : ℕ) → p ≤ length tokens → Good (length tokens) (b - 1 + p) (IsStatement b p) (statement_at tokens calls b p)
  unfolding statement_at
  statement_at-holds zero p within = statement_from-holds (λ from. TooHigh from) 0 (λ from within'. (omega arith, within')) p within
  statement_at-holds (suc b) p within = statement_from-holds (statement_at tokens calls b) (suc b) (λ from within'. lower b from (statement_at-holds b from within')) p within
    where
      lower : (b from : ℕ) → Good (length tokens) (b - 1 + from) (IsStatement b from) (statement_at tokens calls b from) →
          Good (length tokens) (suc b - 1 - 1 + from) (IsStatement (suc b - 1) from) (statement_at tokens calls b from)
      lower b from good = let same : b ≡ suc b - 1 = omega arith in subst (λ n. Good (length tokens) (n - 1 + from) (IsStatement n from) (statement_at tokens calls b from)) same good

  pub below-holds : (b : ℕ) → InnerHolds b (statement_below tokens calls b)
  unfolding statement_below
  below-holds zero from within = (omega arith, within)
  below-holds (suc b) from within = let same : b ≡ suc b - 1 = omega arith in
      subst (λ n. Good (length tokens) (n - 1 + from) (IsStatement n from) (statement_at tokens calls b from)) same (statement_at-holds b from within)

  -- the block of a program, with nothing after it
  record IsMain (b p : ℕ) (items : UnitList) (h q : ℕ) : Type 0 where
    pub height : ℕ
    pub is : height + 1 ≡ h
    pub close : kind_at tokens p ≡ Some (kinds.Mark marks.RightParen)
    pub open' : kind_at tokens (p + 1) ≡ Some (kinds.Mark marks.LeftBrace)
    pub reads : ReadsItems tokens calls (p + 1 + 1) items height q
    pub end' : kind_at tokens q ≡ None
    pub low : h ≤ b

  main_block-holds : (b p : ℕ) → p ≤ length tokens → Good (length tokens) (b - 1 + p) (IsMain b p) (main_block tokens calls b p)
  unfolding main_block nothing_behind
  main_block-holds b p within =
      expect-good tokens (b - 1 + p) marks.RightParen p (IsMain b p) _ within (λ close' below'.
      expect-good tokens (b - 1 + p) marks.LeftBrace (p + 1) (IsMain b p) _ (omega arith) (λ open' below''.
      after-good (length tokens) (b - 1 + p) (b - 1 + (p + 1)) (IsBlock b (p + 1)) (IsMain b p) (block_at tokens calls (statement_below tokens calls b) b (p + 1)) _ (omega arith)
      (block_at-holds (statement_below tokens calls b) b (below-holds b) (p + 1) open') (λ items h q block.
      by close' open' items h q block (kind_at tokens q) refl)))
    where
      by : kind_at tokens p ≡ Some (kinds.Mark marks.RightParen) → kind_at tokens (p + 1) ≡ Some (kinds.Mark marks.LeftBrace) → (items : UnitList) (h q : ℕ) →
          IsBlock b (p + 1) items h q → (kind : Option TokenKind) → kind_at tokens q ≡ kind →
          Good (length tokens) (b - 1 + p) (IsMain b p) (nothing_behind items h q kind)
      by close' open' items h q block None is = let low = block.items.low in let is' = block.is in let some = block.some in
          record { height = block.height; is = block.is; close = close'; open' = open'; reads = block.items.reads; end' = is; low = omega arith }
      by close' open' items h q block (Some kind) is = block.items.within

  -- a `main` that is given is read by the grammar, and the budget allows it
  pub record IsMainPart (b p : ℕ) (items : UnitList) (h q : ℕ) : Type 0 where
    pub reads : ReadsMain tokens calls p items h
    pub low : h ≤ b

  pub main_at-holds : (b p : ℕ) → p ≤ length tokens → Good (length tokens) (b - 1 + (p + 2)) (IsMainPart b p) (main_at tokens calls b p)
  unfolding main_at
  main_at-holds b p within =
      expect_key-good tokens (b - 1 + (p + 2)) keys.Main p (IsMainPart b p) _ within (λ main below1.
      expect-good tokens (b - 1 + (p + 2)) marks.LeftParen (p + 1) (IsMainPart b p) _ (omega arith) (λ open' below2.
      on_key-good tokens (b - 1 + (p + 2)) keys.Void (p + 2) (IsMainPart b p) _ _
      (λ void below3. with-void main open' void (main_block tokens calls b (p + 3)) (main_block-holds b (p + 3) (omega arith)))
      (λ no'. without-void main open' (main_block tokens calls b (p + 2)) (main_block-holds b (p + 2) (omega arith)))))
    where
      with-void : kind_at tokens p ≡ Some (kinds.Key keys.Main) → kind_at tokens (p + 1) ≡ Some (kinds.Mark marks.LeftParen) → kind_at tokens (p + 2) ≡ Some (kinds.Key keys.Void) →
          (o : ParseOutcome UnitList) → Good (length tokens) (b - 1 + (p + 3)) (IsMain b (p + 3)) o → Good (length tokens) (b - 1 + (p + 2)) (IsMainPart b p) o
      with-void main open' void (Parsed items h q) good =
          record {
            reads = subst (ReadsMain tokens calls p items) good.is
                (ReadsMain.with_void main open' void good.close (brace-at tokens calls (p + 3 + 1) (p + 4) (omega arith) good.open')
                (items-at tokens calls (p + 3 + 1 + 1) (p + 5) items good.height q (omega arith) good.reads) good.end');
            low = good.low;
          }
      with-void main open' void (Unreadable at) good = good
      with-void main open' void (TooHigh at) good = let a = good.0 in (omega arith, good.1)

      without-void : kind_at tokens p ≡ Some (kinds.Key keys.Main) → kind_at tokens (p + 1) ≡ Some (kinds.Mark marks.LeftParen) →
          (o : ParseOutcome UnitList) → Good (length tokens) (b - 1 + (p + 2)) (IsMain b (p + 2)) o → Good (length tokens) (b - 1 + (p + 2)) (IsMainPart b p) o
      without-void main open' (Parsed items h q) good =
          record {
            reads = subst (ReadsMain tokens calls p items) good.is
                (ReadsMain.without_void main open' good.close (brace-at tokens calls (p + 2 + 1) (p + 3) (omega arith) good.open')
                (items-at tokens calls (p + 2 + 1 + 1) (p + 4) items good.height q (omega arith) good.reads) good.end');
            low = good.low;
          }
      without-void main open' (Unreadable at) good = good
      without-void main open' (TooHigh at) good = good
