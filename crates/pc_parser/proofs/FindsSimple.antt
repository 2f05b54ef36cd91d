-- The parser of simple statements and declarations finds a reading that the budget allows.
use Rattle.std.proofs.Common.{◌≡◌, refl, sym, ap, ◌∙◌, ℕ, zero, suc, pos, ◌+◌, ◌-◌, ◌<◌, ◌≤◌, ◌⊎◌, inl, inr, Bool, true, false, List, length, arith, subst}
use Rattle.std.specs.Prelude.{Option, Some, None, max}
use Rattle.pc_lexer.specs.declared.token.Token.{Token}
use Rattle.pc_lexer.specs.declared.token.TokenKind.{TokenKind}
use Rattle.pc_lexer.specs.declared.token.TokenKind.TheVariants as kinds
use Rattle.pc_lexer.specs.declared.mark.Mark.{Mark}
use Rattle.pc_lexer.specs.declared.mark.Mark.TheVariants as marks
use Rattle.pc_lexer.specs.declared.keyword.Keyword.{Keyword}
use Rattle.pc_lexer.specs.declared.keyword.Keyword.TheVariants as keys
use Rattle.pc_syntax.specs.declared.operator.BinaryOp.{BinaryOp}
use Rattle.pc_syntax.specs.Source.{SourceExpression, Literal}
use Rattle.pc_syntax.specs.Unit.{UnitStatement, UnitList, UnitOptional, Print, Eval, Call}
use Rattle.pc_parser.specs.declared.calls.Calls.{Calls}
use Rattle.pc_parser.specs.declared.operator.Operator.{Operator}
use Rattle.pc_parser.specs.declared.calls.Calls.TheVariants.{Allowed, Refused}
use Rattle.pc_parser.specs.declared.storage.Storage.{Storage}
use Rattle.pc_parser.specs.declared.storage.Storage.TheVariants.{Automatic, Static}
use Rattle.pc_parser.specs.Places.{kind_at, line_at}
use Rattle.pc_parser.specs.models.Tests.{is_mark, is_key, mark_is, symbol_of}
use Rattle.pc_parser.specs.Operators.{operator_of, assignment_of, step_of}
use Rattle.pc_parser.specs.Expressions.{ReadsExpression}
use Rattle.pc_parser.specs.Calls.{ReadsArguments, ReadsCall}
use Rattle.pc_parser.specs.Statements.{Lvalue, assigned, ReadsLvalue, ReadsTest, ReadsSimple, ReadsDeclarator, ReadsDeclarators, ReadsDeclaration, ReadsFirst, ReadsCondition, ReadsStep}
use Rattle.pc_parser.specs.models.Outcome.{ParseOutcome, Parsed, Unreadable, TooHigh, after}
use Rattle.pc_parser.specs.models.ExpressionParser.{operator_from, tight, lvalue_named, lvalue_tree, lvalue_height, climb, choice}
use Rattle.pc_parser.specs.models.ExpressionParser.{expression_at, below}
use Rattle.pc_parser.specs.models.StatementParser.{assignment_from, step_from, length_of, name_budget, parenthesized_at, closed_behind, closed, lvalue_on, lvalue_at, evaluation}
use Rattle.pc_parser.specs.models.StatementParser.{evaluation_from, print_at, step_before, assignment, assigning, behind_lvalue, on_lvalue}
use Rattle.pc_parser.specs.models.StatementParser.{after_lvalue, named, marked, simple_on, simple_at, ended_at, array}
use Rattle.pc_parser.specs.models.StatementParser.{initialising, initialised, declarator_on, declarator_at, last_declarator, declarators_at, declaration_at, static_at, first_at, condition_at, step_at}
use Rattle.pc_parser.specs.models.CallParser.{callable, opens_call}
use Rattle.pc_parser.proofs.Tokens.{is_mark-of, is_key-of, is_mark-true, mark_is-true}
use Rattle.pc_parser.proofs.Names.{split-name}
use Rattle.pc_parser.proofs.Finds.{allowed-yes, expect-yes, expect_key-yes, after-parsed, cond-yes, cond-no, false_from, climb-ends}
use Rattle.pc_parser.proofs.FindsArrays.{finds-fixed}
use Rattle.pc_parser.proofs.FindsCalls.{finds-call, finds-right_call, finds-right_value}
use Rattle.pc_parser.proofs.FindsExpressions.{FollowsWhole, follows-paren, follows-bracket, follows-semicolon, follows-comma, finds-lone, finds-indexed, finds-expression, expression-positive}
use Rattle.pc_parser.proofs.Starts.{expression-begins, simple-begins}
use Rattle.pc_parser.proofs.Onward.{inside, declarator-onward}

-- what stands after a simple statement
pub record Closes (kind : Option TokenKind) : Type 0 where
  pub follows : FollowsWhole kind
  pub assignment_not : assignment_from kind ≡ None
  pub step_not : step_from kind ≡ None

pub closes-semicolon : (kind : Option TokenKind) → kind ≡ Some (kinds.Mark marks.Semicolon) → Closes kind
unfolding assignment_from step_from assignment_of step_of
closes-semicolon kind is = record { follows = follows-semicolon kind is; assignment_not = ap assignment_from is; step_not = ap step_from is }

pub closes-paren : (kind : Option TokenKind) → kind ≡ Some (kinds.Mark marks.RightParen) → Closes kind
unfolding assignment_from step_from assignment_of step_of
closes-paren kind is = record { follows = follows-paren kind is; assignment_not = ap assignment_from is; step_not = ap step_from is }

-- no operator, and no bracket, assigns or steps
assigns-only : (mark : Mark) → (assignment_of mark ≡ None) ⊎ ((operator_of mark ≡ None) × (step_of mark ≡ None) × (is_mark marks.LeftBracket (Some (kinds.Mark mark)) ≡ false))
unfolding assignment_of operator_of step_of
assigns-only marks.Assign = inr (refl, refl, refl)
assigns-only marks.AddAssign = inr (refl, refl, refl)
assigns-only marks.SubAssign = inr (refl, refl, refl)
assigns-only marks.MulAssign = inr (refl, refl, refl)
assigns-only marks.DivAssign = inr (refl, refl, refl)
assigns-only marks.RemAssign = inr (refl, refl, refl)
assigns-only marks.ShiftLeftAssign = inr (refl, refl, refl)
assigns-only marks.ShiftRightAssign = inr (refl, refl, refl)
assigns-only marks.AndAssign = inr (refl, refl, refl)
assigns-only marks.XorAssign = inr (refl, refl, refl)
assigns-only marks.OrAssign = inr (refl, refl, refl)
assigns-only mark = inl refl

steps-only : (mark : Mark) → (step_of mark ≡ None) ⊎ ((operator_of mark ≡ None) × (assignment_of mark ≡ None) × (is_mark marks.LeftBracket (Some (kinds.Mark mark)) ≡ false))
unfolding assignment_of operator_of step_of
steps-only marks.PlusPlus = inr (refl, refl, refl)
steps-only marks.MinusMinus = inr (refl, refl, refl)
steps-only mark = inl refl

-- the test of an assignment or a step at a token that is an operator, or `?`
operator-assigns : (kind : Option TokenKind) (found : Operator × ℕ) → operator_from 1 kind ≡ Some found →
    (assignment_from kind ≡ None) × (step_from kind ≡ None) × (is_mark marks.LeftParen kind ≡ false)
unfolding operator_from operator_of assignment_from step_from
operator-assigns (Some (kinds.Mark mark)) found is = (one (assigns-only mark), two (steps-only mark), false_from (mark_is mark marks.LeftParen) three)
  where
    three : mark_is mark marks.LeftParen ≡ true → ⊥
    three yes' = let same = mark_is-true mark marks.LeftParen yes' in let none : tight 1 (operator_of mark) ≡ None = ap (λ m. tight 1 (operator_of m)) same in cc

    one : ((assignment_of mark ≡ None) ⊎ ((operator_of mark ≡ None) × (step_of mark ≡ None) × (is_mark marks.LeftBracket (Some (kinds.Mark mark)) ≡ false))) → assignment_of mark ≡ None
    one (inl no') = no'
    one (inr w) = let bad : tight 1 (operator_of mark) ≡ None = ap (tight 1) w.0 in cc

    two : ((step_of mark ≡ None) ⊎ ((operator_of mark ≡ None) × (assignment_of mark ≡ None) × (is_mark marks.LeftBracket (Some (kinds.Mark mark)) ≡ false))) → step_of mark ≡ None
    two (inl no') = no'
    two (inr w) = let bad : tight 1 (operator_of mark) ≡ None = ap (tight 1) w.0 in cc
operator-assigns (Some (kinds.Key key)) found is = cc
operator-assigns (Some (kinds.Name symbol)) found is = cc
operator-assigns (Some (kinds.Number value)) found is = cc
operator-assigns None found is = cc

question-assigns : (kind : Option TokenKind) → kind ≡ Some (kinds.Mark marks.Question) →
    (assignment_from kind ≡ None) × (step_from kind ≡ None) × (is_mark marks.LeftParen kind ≡ false)
unfolding assignment_from step_from assignment_of step_of
question-assigns kind is = (ap assignment_from is, ap step_from is, ap (is_mark marks.LeftParen) is)

-- where an outcome that is gone on with gives a tree, it gave one
pub gave : {A B : Type 0} (x : ParseOutcome A) (f : A → ℕ → ℕ → ParseOutcome B) (tree : B) (height to : ℕ) → after x f ≡ Parsed tree height to →
    (first : A) × (i : ℕ) × (q : ℕ) × (x ≡ Parsed first i q) × (f first i q ≡ Parsed tree height to)
gave (Parsed first i q) f tree height to is = (first, i, q, refl, is)
gave (Unreadable at) f tree height to is = cc
gave (TooHigh at) f tree height to is = cc

-- what is no `(` opens no arguments
opens-no : (calls : Calls) (kind : Option TokenKind) → is_mark marks.LeftParen kind ≡ false → opens_call calls kind ≡ false
unfolding opens_call
opens-no Refused kind no' = refl
opens-no Allowed kind no' = no'

opens-yes : (kind : Option TokenKind) → kind ≡ Some (kinds.Mark marks.LeftParen) → opens_call Allowed kind ≡ true
unfolding opens_call
opens-yes kind is = is_mark-of marks.LeftParen kind is

-- no mark that assigns or steps is `(`
assigns-paren : (mark : Mark) (op : Option BinaryOp) → assignment_of mark ≡ Some op → is_mark marks.LeftParen (Some (kinds.Mark mark)) ≡ false
unfolding assignment_of
assigns-paren marks.LeftParen op is = cc
assigns-paren mark op is = refl

steps-paren : (mark : Mark) (op : BinaryOp) → step_of mark ≡ Some op → is_mark marks.LeftParen (Some (kinds.Mark mark)) ≡ false
unfolding step_of
steps-paren marks.LeftParen op is = cc
steps-paren mark op is = refl

module _ (tokens : List Token) (calls : Calls) where
  pub finds-test : (b p : ℕ) (t : SourceExpression) (h q : ℕ) → ReadsTest tokens p t h q → h ≤ b → parenthesized_at tokens b p ≡ Parsed t h q
  unfolding parenthesized_at
  finds-test b p t h q (ReadsTest.tested {q = r} is d close') fits =
      expect-yes tokens marks.LeftParen p _ is
      ∙ after-parsed (expression_at tokens b 0 (p + 1)) _ t h r (finds-expression tokens b (p + 1) t h r d (follows-paren (kind_at tokens r) close') fits)
      ∙ expect-yes tokens marks.RightParen r _ close'

  pub test-positive : (p : ℕ) (t : SourceExpression) (h q : ℕ) → ReadsTest tokens p t h q → 1 ≤ h
  test-positive p t h q (ReadsTest.tested {q = r} is d close') = expression-positive tokens (p + 1) t h r d

  module _ (b : ℕ) where
    -- the lvalue that is read, in front of what is no bracket
    finds-lvalue : (p : ℕ) (lvalue : Lvalue) (i q : ℕ) → ReadsLvalue tokens p lvalue i q → is_mark marks.LeftBracket (kind_at tokens q) ≡ false → i + 1 ≤ b → lvalue_at tokens b p ≡ Parsed lvalue i q
    unfolding lvalue_at lvalue_on symbol_of
    finds-lvalue p lvalue i q (ReadsLvalue.name {symbol = symbol} is) bracket fits =
        ap (λ k. lvalue_on tokens b (symbol_of k) p) is ∙ finds-lone tokens (name_budget b) p symbol bracket
    finds-lvalue p lvalue i q (ReadsLvalue.element {symbol = symbol} {height = height} {q = r} {index = index} is open' d close') bracket fits =
        let some = expression-positive tokens (p + 2) index height r d in
        ap (λ k. lvalue_on tokens b (symbol_of k) p) is ∙
        finds-indexed tokens (name_budget b) p symbol index height r open'
        (finds-expression tokens (name_budget b - 1) (p + 2) index height r d (follows-bracket (kind_at tokens r) close') (omega arith)) close' (omega arith)

    -- a name at the beginning
    named-at : (p : ℕ) (lvalue : Lvalue) (i q : ℕ) → ReadsLvalue tokens p lvalue i q → simple_at tokens calls b p ≡ named tokens calls b p
    unfolding simple_at simple_on
    named-at p lvalue i q (ReadsLvalue.name is) = ap (λ k. simple_on tokens calls b k p) is
    named-at p lvalue i q (ReadsLvalue.element is open' d close') = ap (λ k. simple_on tokens calls b k p) is

    assignment-bracket : (q : ℕ) (mark : Mark) (op : Option BinaryOp) → kind_at tokens q ≡ Some (kinds.Mark mark) → assignment_of mark ≡ Some op → is_mark marks.LeftBracket (kind_at tokens q) ≡ false
    assignment-bracket q mark op is found = ap (is_mark marks.LeftBracket) is ∙ by (assigns-only mark)
      where
        by : ((assignment_of mark ≡ None) ⊎ ((operator_of mark ≡ None) × (step_of mark ≡ None) × (is_mark marks.LeftBracket (Some (kinds.Mark mark)) ≡ false))) →
            is_mark marks.LeftBracket (Some (kinds.Mark mark)) ≡ false
        by (inl no') = cc
        by (inr w) = w.2

    step-bracket : (q : ℕ) (mark : Mark) (op : BinaryOp) → kind_at tokens q ≡ Some (kinds.Mark mark) → step_of mark ≡ Some op → is_mark marks.LeftBracket (kind_at tokens q) ≡ false
    step-bracket q mark op is found = ap (is_mark marks.LeftBracket) is ∙ by (steps-only mark)
      where
        by : ((step_of mark ≡ None) ⊎ ((operator_of mark ≡ None) × (assignment_of mark ≡ None) × (is_mark marks.LeftBracket (Some (kinds.Mark mark)) ≡ false))) →
            is_mark marks.LeftBracket (Some (kinds.Mark mark)) ≡ false
        by (inl no') = cc
        by (inr w) = w.2

    step-assigns : (q : ℕ) (mark : Mark) (op : BinaryOp) → kind_at tokens q ≡ Some (kinds.Mark mark) → step_of mark ≡ Some op → assignment_from (kind_at tokens q) ≡ None
    unfolding assignment_from
    step-assigns q mark op is found = ap assignment_from is ∙ by (steps-only mark)
      where
        by : ((step_of mark ≡ None) ⊎ ((operator_of mark ≡ None) × (assignment_of mark ≡ None) × (is_mark marks.LeftBracket (Some (kinds.Mark mark)) ≡ false))) → assignment_of mark ≡ None
        by (inl no') = cc
        by (inr w) = w.1

    -- what goes on after the lvalue at the beginning, where no call does
    on-lvalue : (p : ℕ) (lvalue : Lvalue) (i q : ℕ) → 1 ≤ b → lvalue_at tokens b p ≡ Parsed lvalue i q → is_mark marks.LeftParen (kind_at tokens q) ≡ false →
        named tokens calls b p ≡ on_lvalue tokens calls b p lvalue i q (assignment_from (kind_at tokens q))
    unfolding named after_lvalue
    on-lvalue p lvalue i q some found no' =
        allowed-yes 1 b p _ some ∙ after-parsed (lvalue_at tokens b p) _ lvalue i q found ∙ cond-no _ _ _ (opens-no (callable calls None lvalue.index) (kind_at tokens q) no')

    finds-assignment : (p : ℕ) (lvalue : Lvalue) (i q : ℕ) (mark : Mark) (op : Option BinaryOp) (value : SourceExpression) (j to : ℕ) → ReadsLvalue tokens p lvalue i q →
        kind_at tokens q ≡ Some (kinds.Mark mark) → assignment_of mark ≡ Some op → ReadsExpression tokens (q + 1) value j to → FollowsWhole (kind_at tokens to) → max i j + 1 ≤ b →
        simple_at tokens calls b p ≡ Parsed (assigned lvalue op (line_at tokens q) value) (max i j + 1) to
    unfolding on_lvalue assignment assignment_from
    finds-assignment p lvalue i q mark op value j to d is found e follows fits =
        let some = expression-positive tokens (q + 1) value j to e in
        named-at p lvalue i q d ∙
        on-lvalue p lvalue i q (omega arith) (finds-lvalue p lvalue i q d (assignment-bracket q mark op is found) (omega arith)) (ap (is_mark marks.LeftParen) is ∙ assigns-paren mark op found) ∙
        ap (on_lvalue tokens calls b p lvalue i q) (ap assignment_from is ∙ found) ∙
        finds-right_value tokens b (record { symbol = lvalue.symbol; line = lvalue.line; declared = false }) q (q + 1) (assigning tokens lvalue op i q)
        (callable calls op lvalue.index) value j to e follows
        (omega arith)

    finds-step_behind : (p : ℕ) (lvalue : Lvalue) (i q : ℕ) (mark : Mark) (op : BinaryOp) → ReadsLvalue tokens p lvalue i q →
        kind_at tokens q ≡ Some (kinds.Mark mark) → step_of mark ≡ Some op → i + 1 ≤ b →
        simple_at tokens calls b p ≡ Parsed (assigned lvalue (Some op) (line_at tokens q) (Literal (pos 1))) (i + 1) (q + 1)
    unfolding on_lvalue behind_lvalue step_from
    finds-step_behind p lvalue i q mark op d is found fits =
        named-at p lvalue i q d ∙
        on-lvalue p lvalue i q (omega arith) (finds-lvalue p lvalue i q d (step-bracket q mark op is found) (omega arith)) (ap (is_mark marks.LeftParen) is ∙ steps-paren mark op found) ∙
        ap (on_lvalue tokens calls b p lvalue i q) (step-assigns q mark op is found) ∙ ap (behind_lvalue tokens b p lvalue i q) (ap step_from is ∙ found)

    finds-call_statement : (p function : ℕ) (arguments : List SourceExpression) (h q : ℕ) → calls ≡ Allowed → ReadsCall tokens p function arguments h q → h + 1 ≤ b →
        simple_at tokens calls b p ≡ Parsed (Call (line_at tokens p) None function (line_at tokens p) arguments) (h + 1) q
    unfolding named after_lvalue callable
    finds-call_statement p function arguments h q may (ReadsCall.call is open' d) fits =
        let lvalue : Lvalue = record { symbol = function; line = line_at tokens p; index = None; bracket = line_at tokens p } in
        let next' : p + 2 ≡ p + 1 + 1 = omega arith in
        named-at p lvalue 0 (p + 1) (ReadsLvalue.name is) ∙ allowed-yes 1 b p _ (omega arith) ∙
        after-parsed (lvalue_at tokens b p) _ lvalue 0 (p + 1) (finds-lvalue p lvalue 0 (p + 1) (ReadsLvalue.name is) (ap (is_mark marks.LeftBracket) open') (omega arith)) ∙
        cond-yes _ _ _ (ap (λ c. opens_call c (kind_at tokens (p + 1))) may ∙ opens-yes (kind_at tokens (p + 1)) open') ∙
        finds-call tokens b (line_at tokens p) None function (line_at tokens p) (p + 1 + 1) arguments h q (subst (λ n. ReadsArguments tokens n arguments h q) next' d) fits

    finds-assigned_call : (p symbol function : ℕ) (arguments : List SourceExpression) (h q : ℕ) → calls ≡ Allowed → kind_at tokens p ≡ Some (kinds.Name symbol) →
        kind_at tokens (p + 1) ≡ Some (kinds.Mark marks.Assign) → ReadsCall tokens (p + 2) function arguments h q → h + 1 ≤ b →
        simple_at tokens calls b p
        ≡ Parsed (Call (line_at tokens p) (Some record { symbol = symbol; line = line_at tokens p; declared = false }) function (line_at tokens (p + 2)) arguments) (h + 1) q
    unfolding on_lvalue assignment assignment_from assignment_of callable
    finds-assigned_call p symbol function arguments h q may is assign d fits =
        let lvalue : Lvalue = record { symbol = symbol; line = line_at tokens p; index = None; bracket = line_at tokens p } in
        let next' : p + 2 ≡ p + 1 + 1 = omega arith in
        named-at p lvalue 0 (p + 1) (ReadsLvalue.name is) ∙
        on-lvalue p lvalue 0 (p + 1) (omega arith) (finds-lvalue p lvalue 0 (p + 1) (ReadsLvalue.name is) (ap (is_mark marks.LeftBracket) assign) (omega arith))
        (ap (is_mark marks.LeftParen) assign) ∙
        ap (on_lvalue tokens calls b p lvalue 0 (p + 1)) (ap assignment_from assign) ∙
        finds-right_call tokens b (record { symbol = symbol; line = line_at tokens p; declared = false }) (p + 1) (p + 1 + 1) (assigning tokens lvalue None 0 (p + 1)) calls function arguments h q may
        (subst (λ n. ReadsCall tokens n function arguments h q) next' d) fits ∙
        ap (λ n. Parsed (Call (line_at tokens p) (Some record { symbol = symbol; line = line_at tokens p; declared = false }) function (line_at tokens n) arguments) (h + 1) q) (sym next')

    finds-step_before : (p : ℕ) (lvalue : Lvalue) (i q : ℕ) (mark : Mark) (op : BinaryOp) → kind_at tokens p ≡ Some (kinds.Mark mark) → step_of mark ≡ Some op →
        ReadsLvalue tokens (p + 1) lvalue i q → is_mark marks.LeftBracket (kind_at tokens q) ≡ false → i + 1 ≤ b →
        simple_at tokens calls b p ≡ Parsed (assigned lvalue (Some op) (line_at tokens p) (Literal (pos 1))) (i + 1) q
    unfolding simple_at simple_on marked step_before
    finds-step_before p lvalue i q mark op is found d bracket fits =
        ap (λ k. simple_on tokens calls b k p) is ∙ ap (λ s. marked tokens b s p) found ∙ allowed-yes 1 b p _ (omega arith) ∙
        after-parsed (lvalue_at tokens b (p + 1)) _ lvalue i q (finds-lvalue (p + 1) lvalue i q d bracket fits)

    finds-print : (p : ℕ) (value : SourceExpression) (h q : ℕ) → kind_at tokens p ≡ Some (kinds.Key keys.Print) → ReadsTest tokens (p + 1) value h q → h + 1 ≤ b →
        simple_at tokens calls b p ≡ Parsed (Print (line_at tokens p) value) (h + 1) q
    unfolding simple_at simple_on print_at
    finds-print p value h q is d fits =
        let some = test-positive (p + 1) value h q d in
        ap (λ k. simple_on tokens calls b k p) is ∙ allowed-yes 2 b p _ (omega arith)
        ∙ after-parsed (parenthesized_at tokens (b - 1) (p + 1)) _ value h q (finds-test (b - 1) (p + 1) value h q d (omega arith))

    -- after an lvalue with which an expression goes on, nothing is assigned
    goes-on : (e at : ℕ) (tree : SourceExpression) (height : ℕ) (value : SourceExpression) (h q : ℕ) → Closes (kind_at tokens q) →
        after (climb tokens (below tokens e) e 1 e tree height at) (choice tokens (below tokens e) e) ≡ Parsed value h q →
        (assignment_from (kind_at tokens at) ≡ None) × (step_from (kind_at tokens at) ≡ None) × (is_mark marks.LeftParen (kind_at tokens at) ≡ false)
    unfolding choice
    goes-on e at tree height value h q closes is = by_operator (operator_from 1 (kind_at tokens at)) refl
      where
        by_question : (t : Bool) → is_mark marks.Question (kind_at tokens at) ≡ t → operator_from 1 (kind_at tokens at) ≡ None →
            (assignment_from (kind_at tokens at) ≡ None) × (step_from (kind_at tokens at) ≡ None) × (is_mark marks.LeftParen (kind_at tokens at) ≡ false)
        by_question true yes' none = question-assigns (kind_at tokens at) (is_mark-true marks.Question (kind_at tokens at) yes')
        by_question false no' none =
            let ends : Parsed tree height at ≡ Parsed value h q =
            sym (ap (λ o. after o (choice tokens (below tokens e) e)) (climb-ends tokens (below tokens e) e 1 e tree height at none) ∙ cond-no _ _ _ no') ∙ is in
            let same : at ≡ q = cc in (
              ap (λ n. assignment_from (kind_at tokens n)) same ∙ closes.assignment_not,
              ap (λ n. step_from (kind_at tokens n)) same ∙
                  closes.step_not,
              ap (λ n. is_mark marks.LeftParen (kind_at tokens n)) same ∙ closes.follows.paren,
            )

        by_operator : (found : Option (Operator × ℕ)) → operator_from 1 (kind_at tokens at) ≡ found →
            (assignment_from (kind_at tokens at) ≡ None) × (step_from (kind_at tokens at) ≡ None) × (is_mark marks.LeftParen (kind_at tokens at) ≡ false)
        by_operator (Some found) found_is = operator-assigns (kind_at tokens at) found found_is
        by_operator None none = by_question (is_mark marks.Question (kind_at tokens at)) refl none

    finds-evaluation-name : (p : ℕ) (value : SourceExpression) (h q symbol : ℕ) → kind_at tokens p ≡ Some (kinds.Name symbol) →
        expression_at tokens (b - 1) 0 p ≡ Parsed value h q → Closes (kind_at tokens q) → 1 ≤ h → h + 1 ≤ b →
        simple_at tokens calls b p ≡ Parsed (Eval (line_at tokens p) value) (h + 1) q
    unfolding simple_at simple_on lvalue_at lvalue_on symbol_of on_lvalue behind_lvalue evaluation_from
    finds-evaluation-name p value h q symbol is found closes some fits =
        let e = b - 1 in
        let budget : name_budget b ≡ b - 1 = omega arith in
        let whole = sym (split-name tokens (b - 1) p symbol is (omega arith)) ∙ found in
        let outer = gave _ _ value h q whole in
        let inner = gave _ _ outer.0 outer.1 outer.2 outer.3 in
        let first = gave _ _ inner.0 inner.1 inner.2 inner.3 in
        let lvalue = first.0 in
        let same : Parsed (lvalue_tree first.0) (lvalue_height first.0 first.1) first.2 ≡ Parsed inner.0 inner.1 inner.2 = first.4 in
        let rest : after (climb tokens (below tokens (b - 1)) (b - 1) 1 (b - 1) (lvalue_tree first.0) (lvalue_height first.0 first.1) first.2)
        (choice tokens (below tokens (b - 1)) (b - 1)) ≡ Parsed value h q =
        ap (λ o. after (after o (λ tree height to. climb tokens (below tokens (b - 1)) (b - 1) 1 (b - 1) tree height to))
        (choice tokens (below tokens (b - 1)) (b - 1))) same ∙ ap (λ o. after o (choice tokens (below tokens (b - 1)) (b - 1))) inner.4 ∙ outer.4 in
        let none = goes-on (b - 1) first.2 (lvalue_tree first.0) (lvalue_height first.0 first.1) value h q closes rest in
        ap (λ k. simple_on tokens calls b k p) is ∙
        on-lvalue p first.0 first.1 first.2 (omega arith) (ap (λ k. lvalue_on tokens b (symbol_of k) p) is ∙ ap (λ n. lvalue_named tokens (below tokens n) n symbol p) budget ∙ first.3) none.2 ∙
        ap (on_lvalue tokens calls b p first.0 first.1 first.2) none.0 ∙ ap (behind_lvalue tokens b p first.0 first.1 first.2) none.1 ∙
        ap (λ n. after (climb tokens (below tokens n) n 1 n (lvalue_tree first.0) (lvalue_height first.0 first.1) first.2)
        (λ left i r. after (choice tokens (below tokens n) n left i r) (λ value' j to. Parsed (Eval (line_at tokens p) value') (j + 1) to))) budget ∙
        regrouped (climb tokens (below tokens (b - 1)) (b - 1) 1 (b - 1) (lvalue_tree first.0) (lvalue_height first.0 first.1) first.2)
        (choice tokens (below tokens (b - 1)) (b - 1)) (λ value' j to. Parsed (Eval (line_at tokens p) value') (j + 1) to) ∙
        ap (λ o. after o (λ value' j to. Parsed (Eval (line_at tokens p) value') (j + 1) to)) rest
      where
        regrouped : (x : ParseOutcome SourceExpression) (f : SourceExpression → ℕ → ℕ → ParseOutcome SourceExpression)
            (g : SourceExpression → ℕ → ℕ → ParseOutcome UnitStatement) → after x (λ tree height to. after (f tree height to) g) ≡ after (after x f) g
        regrouped (Parsed tree height to) f g = refl
        regrouped (Unreadable at) f g = refl
        regrouped (TooHigh at) f g = refl

    finds-evaluation : (p : ℕ) (value : SourceExpression) (h q : ℕ) → ReadsExpression tokens p value h q → Closes (kind_at tokens q) → h + 1 ≤ b →
        simple_at tokens calls b p ≡ Parsed (Eval (line_at tokens p) value) (h + 1) q
    unfolding simple_at evaluation
    finds-evaluation p value h q d closes fits = by (expression-begins tokens p value h q d).route
      where
        found : expression_at tokens (b - 1) 0 p ≡ Parsed value h q
        found = finds-expression tokens (b - 1) p value h q d closes.follows (omega arith)

        by : (((symbol : ℕ) × (kind_at tokens p ≡ Some (kinds.Name symbol))) ⊎
            ((tokens' : List Token) (calls' : Calls) (budget from : ℕ) → simple_on tokens' calls' budget (kind_at tokens p) from ≡ evaluation tokens' budget from)) →
            simple_on tokens calls b (kind_at tokens p) p ≡ Parsed (Eval (line_at tokens p) value) (h + 1) q
        by (inl (symbol, is)) = finds-evaluation-name p value h q symbol is found closes (expression-positive tokens p value h q d) fits
        by (inr route) = route tokens calls b p ∙ after-parsed (expression_at tokens (b - 1) 0 p) _ value h q found

    pub finds-simple : (p : ℕ) (s : UnitStatement) (h q : ℕ) → ReadsSimple tokens calls p s h q → Closes (kind_at tokens q) → h ≤ b → simple_at tokens calls b p ≡ Parsed s h q
    finds-simple p s h q (ReadsSimple.assignment {i = i} {q = r} {j = j} {lvalue = lvalue} {mark = mark} {op = op} {value = value} d is found e) closes fits =
        finds-assignment p lvalue i r mark op value j q d is found e closes.follows fits
    finds-simple p s h q (ReadsSimple.step_behind {height = i} {q = r} {lvalue = lvalue} {mark = mark} {op = op} d is found) closes fits = finds-step_behind p lvalue i r mark op d is found fits
    finds-simple p s h q (ReadsSimple.step_before {height = i} {lvalue = lvalue} {mark = mark} {op = op} is found d) closes fits =
        finds-step_before p lvalue i q mark op is found d closes.follows.bracket fits
    finds-simple p s h q (ReadsSimple.print {height = i} {value = value} is d) closes fits = finds-print p value i q is d fits
    finds-simple p s h q (ReadsSimple.evaluation {height = i} {value = value} d) closes fits = finds-evaluation p value i q d closes fits
    finds-simple p s h q (ReadsSimple.call {function = function} {height = i} {arguments = arguments} may d) closes fits = finds-call_statement p function arguments i q may d fits
    finds-simple p s h q (ReadsSimple.assigned_call {symbol = symbol} {function = function} {height = i} {arguments = arguments} may is assign d) closes fits =
        finds-assigned_call p symbol function arguments i q may is assign d fits

    pub closed-yes : (mark : Mark) (x : ParseOutcome UnitStatement) (s : UnitStatement) (h q : ℕ) → x ≡ Parsed s h q → kind_at tokens q ≡ Some (kinds.Mark mark) →
        h ≤ b → closed tokens mark b x ≡ Parsed s h (q + 1)
    unfolding closed closed_behind
    closed-yes mark x s h q is close' fits = after-parsed x _ s h q is ∙ expect-yes tokens mark q _ close' ∙ allowed-yes h b q _ fits

    pub finds-ended : (p : ℕ) (s : UnitStatement) (h q : ℕ) → ReadsSimple tokens calls p s h q → kind_at tokens q ≡ Some (kinds.Mark marks.Semicolon) → h ≤ b →
        ended_at tokens calls b p ≡ Parsed s h (q + 1)
    unfolding ended_at
    finds-ended p s h q d close' fits = closed-yes marks.Semicolon (simple_at tokens calls b p) s h q (finds-simple p s h q d (closes-semicolon (kind_at tokens q) close') fits) close' fits

    -- what ends a declarator
    record EndsDeclarator (kind : Option TokenKind) : Type 0 where
      pub follows : FollowsWhole kind
      pub assign_not : is_mark marks.Assign kind ≡ false

    ends-comma : (kind : Option TokenKind) → kind ≡ Some (kinds.Mark marks.Comma) → EndsDeclarator kind
    ends-comma kind is = record { follows = follows-comma kind is; assign_not = ap (is_mark marks.Assign) is }

    ends-semicolon : (kind : Option TokenKind) → kind ≡ Some (kinds.Mark marks.Semicolon) → EndsDeclarator kind
    ends-semicolon kind is = record { follows = follows-semicolon kind is; assign_not = ap (is_mark marks.Assign) is }

    declarator-named : (p symbol : ℕ) → kind_at tokens p ≡ Some (kinds.Name symbol) → declarator_at tokens calls b Automatic p ≡ declarator_on tokens calls b (Some symbol) p
    unfolding declarator_at symbol_of
    declarator-named p symbol is = ap (λ k. declarator_on tokens calls b (symbol_of k) p) is

    finds-declarator : (storage : Storage) (p : ℕ) (s : UnitStatement) (h q : ℕ) → ReadsDeclarator tokens calls storage p s h q → EndsDeclarator (kind_at tokens q) → h ≤ b →
        declarator_at tokens calls b storage p ≡ Parsed s h q
    unfolding declarator_at declarator_on initialised array length_of
    finds-declarator Static p s h q d ends fits = finds-fixed tokens calls p s h q d ends.assign_not
    finds-declarator Automatic p s h q (ReadsDeclarator.scalar {symbol = symbol} is) ends fits =
        declarator-named p symbol is ∙ cond-no _ _ _ ends.assign_not ∙ cond-no _ _ _ ends.follows.bracket
    finds-declarator Automatic p s h q (ReadsDeclarator.initialised {symbol = symbol} {height = i} {value = value} is assign d) ends fits =
        declarator-named p symbol is ∙ cond-yes _ _ _ (is_mark-of marks.Assign (kind_at tokens (p + 1)) assign) ∙
        finds-right_value tokens b (record { symbol = symbol; line = line_at tokens p; declared = true }) (p + 1) (p + 2) (initialising tokens symbol p) calls value i q d ends.follows fits
    finds-declarator Automatic p s h q (ReadsDeclarator.called {symbol = symbol} {function = function} {height = i} {arguments = arguments} may is assign d) ends fits =
        declarator-named p symbol is ∙ cond-yes _ _ _ (is_mark-of marks.Assign (kind_at tokens (p + 1)) assign) ∙
        finds-right_call tokens b (record { symbol = symbol; line = line_at tokens p; declared = true }) (p + 1) (p + 2) (initialising tokens symbol p) calls function arguments i q may d fits
    finds-declarator Automatic p s h q (ReadsDeclarator.array {symbol = symbol} {length = size} is open' number close') ends fits =
        declarator-named p symbol is ∙ cond-no _ _ _ (ap (is_mark marks.Assign) open') ∙ cond-yes _ _ _ (is_mark-of marks.LeftBracket (kind_at tokens (p + 1)) open') ∙
        ap (λ k. array tokens symbol p (length_of k)) number ∙ expect-yes tokens marks.RightBracket (p + 3) _ close'

    declarator-positive : (storage : Storage) (p : ℕ) (s : UnitStatement) (h q : ℕ) → ReadsDeclarator tokens calls storage p s h q → 1 ≤ h
    declarator-positive storage p s h q (ReadsDeclarator.scalar is) = omega arith
    declarator-positive storage p s h q (ReadsDeclarator.initialised is assign d) = omega arith
    declarator-positive storage p s h q (ReadsDeclarator.called may is assign d) = omega arith
    declarator-positive storage p s h q (ReadsDeclarator.array is open' number close') = omega arith
    declarator-positive storage p s h q (ReadsDeclarator.initialised_array is open' number close' assign brace d) = omega arith

    declarators-positive : (storage : Storage) (p : ℕ) (trees : UnitList) (h q : ℕ) → ReadsDeclarators tokens calls storage p trees h q → 1 ≤ h
    declarators-positive storage p trees h q (ReadsDeclarators.last {q = r} {tree = tree} d close') = declarator-positive storage p tree h r d
    declarators-positive storage p trees h q (ReadsDeclarators.comma {i = i} {q = r} {tree = tree} d comma e) = let some = declarator-positive storage p tree i r d in omega arith

    declarator-inside : (storage : Storage) (p : ℕ) (s : UnitStatement) (h q : ℕ) → ReadsDeclarator tokens calls storage p s h q → p < length tokens
    declarator-inside storage p s h q (ReadsDeclarator.scalar is) = inside tokens p _ is
    declarator-inside storage p s h q (ReadsDeclarator.initialised is assign d) = inside tokens p _ is
    declarator-inside storage p s h q (ReadsDeclarator.called may is assign d) = inside tokens p _ is
    declarator-inside storage p s h q (ReadsDeclarator.array is open' number close') = inside tokens p _ is
    declarator-inside storage p s h q (ReadsDeclarator.initialised_array is open' number close' assign brace d) = inside tokens p _ is

    finds-declarators : (storage : Storage) (n p : ℕ) (trees : UnitList) (h q : ℕ) → ReadsDeclarators tokens calls storage p trees h q → length tokens < p + n → h ≤ b →
        declarators_at tokens calls b storage n p ≡ Parsed trees h q
    unfolding declarators_at last_declarator
    finds-declarators storage zero p trees h q (ReadsDeclarators.last {q = r} {tree = tree} d close') enough fits = let a = declarator-inside storage p tree h r d in absurd (omega arith)
    finds-declarators storage zero p trees h q (ReadsDeclarators.comma {i = i} {q = r} {tree = tree} d comma e) enough fits = let a = declarator-inside storage p tree i r d in absurd (omega arith)
    finds-declarators storage (suc n) p trees h q (ReadsDeclarators.last {q = r} {tree = tree} d close') enough fits =
        after-parsed (declarator_at tokens calls b storage p) _ tree h r (finds-declarator storage p tree h r d (ends-semicolon (kind_at tokens r) close') fits) ∙
        cond-no _ _ _ (ap (is_mark marks.Comma) close') ∙ expect-yes tokens marks.Semicolon r _ close'
    finds-declarators storage (suc n) p trees h q (ReadsDeclarators.comma {i = i} {q = r} {j = j} {tree = tree} {rest = rest} d comma e) enough fits =
        let onward = declarator-onward tokens calls storage p tree i r d in
        after-parsed (declarator_at tokens calls b storage p) _ tree i r (finds-declarator storage p tree i r d (ends-comma (kind_at tokens r) comma) (omega arith)) ∙
        cond-yes _ _ _ (is_mark-of marks.Comma (kind_at tokens r) comma) ∙
        after-parsed (declarators_at tokens calls b storage n (r + 1)) _ rest j q (finds-declarators storage n (r + 1) rest j q e (omega arith) (omega arith))

    pub finds-declaration : (p : ℕ) (trees : UnitList) (h q : ℕ) → ReadsDeclaration tokens calls Automatic p trees h q → h ≤ b → declaration_at tokens calls b p ≡ Parsed trees h q
    unfolding declaration_at
    finds-declaration p trees h q (ReadsDeclaration.automatic is d) fits =
        let some = declarators-positive Automatic (p + 1) trees h q d in
        allowed-yes 1 b p _ (omega arith) ∙ finds-declarators Automatic (length tokens + 1) (p + 1) trees h q d (omega arith) fits

    pub finds-static : (p : ℕ) (trees : UnitList) (h q : ℕ) → ReadsDeclaration tokens calls Static p trees h q → h ≤ b → static_at tokens calls b p ≡ Parsed trees h q
    unfolding static_at
    finds-static p trees h q (ReadsDeclaration.static is int d) fits =
        let some = declarators-positive Static (p + 2) trees h q d in
        allowed-yes 1 b p _ (omega arith) ∙ expect_key-yes tokens keys.Int (p + 1) _ int ∙ finds-declarators Static (length tokens + 1) (p + 2) trees h q d (omega arith) fits

    -- the keyword that a declaration begins with
    abbrev pub first_key : Storage → Keyword
    first_key Automatic = keys.Int
    first_key Static = keys.Static

    pub declaration-key : (storage : Storage) (p : ℕ) (trees : UnitList) (h q : ℕ) → ReadsDeclaration tokens calls storage p trees h q → kind_at tokens p ≡ Some (kinds.Key (first_key storage))
    declaration-key storage p trees h q (ReadsDeclaration.automatic is d) = is
    declaration-key storage p trees h q (ReadsDeclaration.static is int d) = is

    pub finds-first : (p : ℕ) (trees : UnitList) (h q : ℕ) → ReadsFirst tokens calls p trees h q → h ≤ b → first_at tokens calls b p ≡ Parsed trees h q
    unfolding first_at
    finds-first p trees h q (ReadsFirst.declared d) fits =
        cond-yes _ _ _ (is_key-of keys.Int (kind_at tokens p) (declaration-key Automatic p trees h q d)) ∙ finds-declaration p trees h q d fits
    finds-first p trees h q (ReadsFirst.simple {q = r} {tree = tree} d close') fits =
        let begins = simple-begins tokens calls p tree h r d in
        cond-no _ _ _ begins.begins.int_not ∙ cond-no _ _ _ begins.semicolon_not ∙ after-parsed (ended_at tokens calls b p) _ tree h (r + 1) (finds-ended p tree h r d close' fits)
    finds-first p trees h q (ReadsFirst.none is) fits =
        cond-no _ _ _ (ap (is_key keys.Int) is) ∙ cond-yes _ _ _ (is_mark-of marks.Semicolon (kind_at tokens p) is)

    pub finds-condition : (p : ℕ) (t : SourceExpression) (h q : ℕ) → ReadsCondition tokens p t h q → h ≤ b → condition_at tokens b p ≡ Parsed t h q
    unfolding condition_at
    finds-condition p t h q (ReadsCondition.given {q = r} d close') fits =
        let begins = expression-begins tokens p t h r d in
        cond-no _ _ _ begins.simple.semicolon_not
        ∙ after-parsed (expression_at tokens b 0 p) _ t h r (finds-expression tokens b p t h r d (follows-semicolon (kind_at tokens r) close') fits)
        ∙ expect-yes tokens marks.Semicolon r _ close'
    finds-condition p t h q (ReadsCondition.none is) fits = cond-yes _ _ _ (is_mark-of marks.Semicolon (kind_at tokens p) is)

    pub finds-step : (p : ℕ) (t : UnitOptional) (h q : ℕ) → ReadsStep tokens calls p t h q → h ≤ b → step_at tokens calls b p ≡ Parsed t h q
    unfolding step_at
    finds-step p t h q (ReadsStep.given {q = r} {tree = tree} d close') fits =
        let begins = simple-begins tokens calls p tree h r d in
        cond-no _ _ _ begins.paren_not ∙ after-parsed (closed tokens marks.RightParen b (simple_at tokens calls b p)) _ tree h (r + 1)
        (closed-yes marks.RightParen (simple_at tokens calls b p) tree h r (finds-simple p tree h r d (closes-paren (kind_at tokens r) close') fits) close' fits)
    finds-step p t h q (ReadsStep.none is) fits = cond-yes _ _ _ (is_mark-of marks.RightParen (kind_at tokens p) is)
