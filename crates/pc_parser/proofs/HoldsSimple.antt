-- What the parser of simple statements and declarations gives is what the grammar reads.
use Rattle.std.proofs.Common.{◌≡◌, refl, ap, ◌∙◌, subst, ℕ, zero, suc, ◌+◌, ◌-◌, ◌≤◌, List, length, arith, sym, true, false}
use Rattle.std.specs.Prelude.{Option, Some, None}
use Rattle.pc_lexer.specs.declared.token.Token.{Token}
use Rattle.pc_lexer.specs.declared.token.TokenKind.{TokenKind}
use Rattle.pc_lexer.specs.declared.token.TokenKind.TheVariants as kinds
use Rattle.pc_lexer.specs.declared.mark.Mark.{Mark}
use Rattle.pc_lexer.specs.declared.mark.Mark.TheVariants as marks
use Rattle.pc_lexer.specs.declared.keyword.Keyword.TheVariants as keys
use Rattle.pc_syntax.specs.declared.operator.BinaryOp.{BinaryOp}
use Rattle.pc_syntax.specs.Source.{SourceExpression}
use Rattle.pc_syntax.specs.Unit.{UnitStatement, UnitList, UnitOptional, With, Finish, Item, Call}
use Rattle.pc_parser.specs.declared.calls.Calls.{Calls}
use Rattle.pc_parser.specs.declared.calls.Calls.TheVariants.{Allowed, Refused}
use Rattle.pc_parser.specs.declared.storage.Storage.{Storage}
use Rattle.pc_parser.specs.declared.storage.Storage.TheVariants.{Automatic, Static}
use Rattle.pc_parser.specs.Places.{kind_at, line_at}
use Rattle.pc_parser.specs.models.Tests.{key_is, symbol_of}
use Rattle.pc_parser.specs.Operators.{assignment_of, step_of}
use Rattle.pc_parser.specs.Expressions.{ReadsUnary}
use Rattle.pc_parser.specs.Calls.{ReadsArguments, ReadsCall}
use Rattle.pc_parser.specs.Statements.{Lvalue, ReadsLvalue, ReadsTest, ReadsSimple, ReadsDeclarator, ReadsDeclarators, ReadsDeclaration, ReadsFirst, ReadsCondition, ReadsStep}
use Rattle.pc_parser.specs.models.Outcome.{ParseOutcome, Parsed, Unreadable, TooHigh}
use Rattle.pc_parser.specs.models.ExpressionParser.{lvalue_tree, lvalue_height, climb, choice, expression_at, below}
use Rattle.pc_parser.specs.models.StatementParser.{assignment_from, step_from, length_of, name_budget, parenthesized_at, closed_behind, closed, lvalue_on, lvalue_at, evaluation}
use Rattle.pc_parser.specs.models.StatementParser.{evaluation_from, print_at, step_before, assignment, assigning, behind_lvalue, on_lvalue}
use Rattle.pc_parser.specs.models.StatementParser.{after_lvalue, named, marked, simple_on, simple_at, ended_at, array}
use Rattle.pc_parser.specs.models.StatementParser.{initialising, initialised, declarator_on, declarator_at, last_declarator, fixed_on}
use Rattle.pc_parser.specs.models.StatementParser.{declarators_at, declaration_at, static_at, first_at, condition_at, step_at}
use Rattle.pc_parser.specs.models.CallParser.{callable, opens_call, call_at}
use Rattle.pc_parser.proofs.Tokens.{is_mark-true, key_is-true}
use Rattle.pc_parser.proofs.Names.{symbol-is}
use Rattle.pc_parser.proofs.Onward.{inside, simple-onward, declarators-onward}
use Rattle.pc_parser.proofs.Holds.{Good, after-good, cond-good, allowed-good, expect-good, expect_key-good, on_mark-good, on_key-good}
use Rattle.pc_parser.proofs.HoldsArrays.{length-is, IsFixed, fixed_on-holds}
use Rattle.pc_parser.proofs.HoldsCalls.{AreArguments, call_at-holds, right_side_at-holds}
use Rattle.pc_parser.proofs.HoldsExpressions.{Sound, IsLvalue, IsUnary, fresh, lvalue-primary, lvalue-height-low, lvalue_named-holds, climb-holds, choice-holds, expression_at-holds, below-holds}

-- what assigns and steps
assignment-is : (kind : Option TokenKind) (op : Option BinaryOp) → assignment_from kind ≡ Some op → (mark : Mark) × (kind ≡ Some (kinds.Mark mark)) × (assignment_of mark ≡ Some op)
unfolding assignment_from
assignment-is (Some (kinds.Mark mark)) op is = (mark, refl, is)
assignment-is (Some (kinds.Key key)) op is = cc
assignment-is (Some (kinds.Name symbol)) op is = cc
assignment-is (Some (kinds.Number value)) op is = cc
assignment-is None op is = cc

step-is : (kind : Option TokenKind) (op : BinaryOp) → step_from kind ≡ Some op → (mark : Mark) × (kind ≡ Some (kinds.Mark mark)) × (step_of mark ≡ Some op)
unfolding step_from
step-is (Some (kinds.Mark mark)) op is = (mark, refl, is)
step-is (Some (kinds.Key key)) op is = cc
step-is (Some (kinds.Name symbol)) op is = cc
step-is (Some (kinds.Number value)) op is = cc
step-is None op is = cc

-- `=` alone assigns by no operator
assign-mark : (mark : Mark) → assignment_of mark ≡ Some None → mark ≡ marks.Assign
unfolding assignment_of
assign-mark marks.Assign is = refl
assign-mark mark is = cc

-- what opens the arguments of a call
opens-is : (calls : Calls) (kind : Option TokenKind) → opens_call calls kind ≡ true → (calls ≡ Allowed) × (kind ≡ Some (kinds.Mark marks.LeftParen))
unfolding opens_call
opens-is Refused kind is = cc
opens-is Allowed kind is = (refl, is_mark-true marks.LeftParen kind is)

module _ (tokens : List Token) (calls : Calls) where
  -- a lone name that may be called, or get a call's value
  record IsLone (op : Option BinaryOp) (p : ℕ) (lvalue : Lvalue) (i at : ℕ) : Type 0 where
    pub allowed : calls ≡ Allowed
    pub plain : op ≡ None
    pub is : kind_at tokens p ≡ Some (kinds.Name lvalue.symbol)
    pub line : lvalue.line ≡ line_at tokens p
    pub height : i ≡ 0
    pub place : at ≡ p + 1

  pub record IsTest (b p : ℕ) (t : SourceExpression) (h q : ℕ) : Type 0 where
    pub reads : ReadsTest tokens p t h q
    pub low : h ≤ b
    pub within : q ≤ length tokens
    pub long : h + p ≤ q

  pub record IsSimple (b p : ℕ) (s : UnitStatement) (h q : ℕ) : Type 0 where
    pub reads : ReadsSimple tokens calls p s h q
    pub low : h ≤ b + 1
    pub long : h + p ≤ q + 1
    pub within : q ≤ length tokens

  -- a simple statement with the mark after it
  pub record IsClosed (mark : Mark) (b p : ℕ) (s : UnitStatement) (h q : ℕ) : Type 0 where
    pub at : ℕ
    pub is : at + 1 ≡ q
    pub reads : ReadsSimple tokens calls p s h at
    pub behind : kind_at tokens at ≡ Some (kinds.Mark mark)
    pub low : h ≤ b
    pub within : q ≤ length tokens

  pub parenthesized_at-holds : (b p : ℕ) → p ≤ length tokens → Good (length tokens) (b + p) (IsTest b p) (parenthesized_at tokens b p)
  unfolding parenthesized_at
  parenthesized_at-holds b p within =
      expect-good tokens (b + p) marks.LeftParen p (IsTest b p) _ within (λ open' below'.
      after-good (length tokens) (b + p) (b + (p + 1)) (Sound tokens b 0 (p + 1)) (IsTest b p) (expression_at tokens b 0 (p + 1)) _ (omega arith)
      (expression_at-holds tokens b 0 (p + 1) (omega arith) (omega arith)) (λ t h q sound.
      let size = sound.size in let a = size.low in let l = size.long in let w = size.within in
      expect-good tokens (b + p) marks.RightParen q (IsTest b p) _ w
      (λ close' further. record { reads = ReadsTest.tested open' (sound.whole refl) close'; low = a; within = omega arith; long = omega arith })))

  pub closed-holds : (mark : Mark) (b p late : ℕ) (x : ParseOutcome UnitStatement) → late ≤ b + p → Good (length tokens) late (IsSimple b p) x →
      Good (length tokens) late (IsClosed mark b p) (closed tokens mark b x)
  unfolding closed closed_behind
  closed-holds mark b p late x le good = after-good (length tokens) late late (IsSimple b p) (IsClosed mark b p) x _ (omega arith) good (λ s h q simple.
      let low = simple.low in let long = simple.long in let w = simple.within in
      expect-good tokens late mark q (IsClosed mark b p) _ w (λ behind below'.
      allowed-good (length tokens) late h b q (IsClosed mark b p) _ (λ high. omega arith) w
      (λ fits. record { at = q; is = refl; reads = simple.reads; behind = behind; low = fits; within = omega arith })))

  module _ (b : ℕ) where
    lvalue_at-holds : (p : ℕ) → p ≤ length tokens → Good (length tokens) (name_budget b + p) (IsLvalue tokens (name_budget b) p) (lvalue_at tokens b p)
    unfolding lvalue_at lvalue_on
    lvalue_at-holds p within = by (symbol_of (kind_at tokens p)) refl
      where
        by : (symbol : Option ℕ) → symbol_of (kind_at tokens p) ≡ symbol → Good (length tokens) (name_budget b + p) (IsLvalue tokens (name_budget b) p) (lvalue_on tokens b symbol p)
        by (Some symbol) is = lvalue_named-holds tokens (below tokens (name_budget b)) (name_budget b) (below-holds tokens (name_budget b)) symbol p (symbol-is (kind_at tokens p) symbol is)
        by None is = within

    evaluation-holds : (p : ℕ) → p ≤ length tokens → Good (length tokens) (b - 1 + p) (IsSimple b p) (evaluation tokens b p)
    unfolding evaluation
    evaluation-holds p within =
        after-good (length tokens) (b - 1 + p) (b - 1 + p) (Sound tokens (b - 1) 0 p) (IsSimple b p) (expression_at tokens (b - 1) 0 p) _ (omega arith)
        (expression_at-holds tokens (b - 1) 0 p (omega arith) within) (λ t h q sound.
        let size = sound.size in let a = size.low in let l = size.long in
        record { reads = ReadsSimple.evaluation (sound.whole refl); low = omega arith; long = omega arith; within = size.within })

    evaluation_from-holds : (p : ℕ) (lvalue : Lvalue) (i at : ℕ) → 1 ≤ b → IsLvalue tokens (name_budget b) p lvalue i at →
        Good (length tokens) (b - 1 + p) (IsSimple b p) (evaluation_from tokens b p lvalue i at)
    unfolding evaluation_from
    evaluation_from-holds p lvalue i at some is =
        let e = name_budget b in
        let unary : IsUnary tokens (name_budget b) p (lvalue_tree lvalue) (lvalue_height lvalue i) at = record {
          reads = ReadsUnary.primary (lvalue-primary tokens p lvalue i at is.reads);
          size = lvalue-height-low tokens (name_budget b) p lvalue i at is.reads (omega arith) is.size;
        } in
        after-good (length tokens) (b - 1 + p) (name_budget b + p) (Sound tokens (name_budget b) 1 p) (IsSimple b p)
        (climb tokens (below tokens (name_budget b)) (name_budget b) 1 (name_budget b) (lvalue_tree lvalue) (lvalue_height lvalue i) at) _ (omega arith)
        (climb-holds tokens (below tokens (name_budget b)) (name_budget b) (below-holds tokens (name_budget b)) 1 p (name_budget b) (lvalue_tree lvalue) (lvalue_height lvalue i) at (omega arith)
        (fresh tokens (below tokens (name_budget b)) (name_budget b) (below-holds tokens (name_budget b)) 1 p (lvalue_tree lvalue) (lvalue_height lvalue i) at
        (omega arith) unary) (omega arith)) (λ left h q first.
        after-good (length tokens) (b - 1 + p) (name_budget b + p) (Sound tokens (name_budget b) 0 p) (IsSimple b p)
        (choice tokens (below tokens (name_budget b)) (name_budget b) left h q) _ (omega arith)
        (choice-holds tokens (below tokens (name_budget b)) (name_budget b) (below-holds tokens (name_budget b)) p left h q first) (λ t j to sound.
        let size = sound.size in let a = size.low in let l = size.long in
        record { reads = ReadsSimple.evaluation (sound.whole refl); low = omega arith; long = omega arith; within = size.within }))

    print_at-holds : (p : ℕ) → kind_at tokens p ≡ Some (kinds.Key keys.Print) → Good (length tokens) (b - 1 + p) (IsSimple b p) (print_at tokens b p)
    unfolding print_at
    print_at-holds p is =
        let within = inside tokens p _ is in
        allowed-good (length tokens) (b - 1 + p) 2 b p (IsSimple b p) _ (λ high. omega arith) (omega arith) (λ low.
        after-good (length tokens) (b - 1 + p) (b - 1 + (p + 1)) (IsTest (b - 1) (p + 1)) (IsSimple b p) (parenthesized_at tokens (b - 1) (p + 1)) _ (omega arith)
        (parenthesized_at-holds (b - 1) (p + 1) (omega arith)) (λ t h q test.
        let a = test.low in let l = test.long in record { reads = ReadsSimple.print is test.reads; low = omega arith; long = omega arith; within = test.within }))

    step_before-holds : (mark : Mark) (op : BinaryOp) (p : ℕ) → kind_at tokens p ≡ Some (kinds.Mark mark) → step_of mark ≡ Some op →
        Good (length tokens) (b - 1 + p) (IsSimple b p) (step_before tokens b op p)
    unfolding step_before
    step_before-holds mark op p is found =
        let within = inside tokens p _ is in
        allowed-good (length tokens) (b - 1 + p) 1 b p (IsSimple b p) _ (λ high. omega arith) (omega arith) (λ low.
        after-good (length tokens) (b - 1 + p) (name_budget b + (p + 1)) (IsLvalue tokens (name_budget b) (p + 1)) (IsSimple b p) (lvalue_at tokens b (p + 1)) _
        (omega arith) (lvalue_at-holds (p + 1) (omega arith)) (λ lvalue i q is'.
        let size = is'.size in let a = size.low in let l = size.long in record { reads = ReadsSimple.step_before is found is'.reads; low = omega arith; long = omega arith; within = size.within }))

    -- an lvalue that may be called, or get a call's value, is a name
    lone-name : (op : Option BinaryOp) (p : ℕ) (lvalue : Lvalue) (i at : ℕ) → ReadsLvalue tokens p lvalue i at → callable calls op lvalue.index ≡ Allowed → IsLone op p lvalue i at
    unfolding callable
    lone-name None p lvalue i at (ReadsLvalue.name is) may = record { allowed = may; plain = refl; is = is; line = refl; height = refl; place = refl }
    lone-name None p lvalue i at (ReadsLvalue.element is open' d close') may = cc
    lone-name (Some op) p lvalue i at d may = cc

    assignment-holds : (p : ℕ) (lvalue : Lvalue) (op : Option BinaryOp) (i at : ℕ) → IsLvalue tokens (name_budget b) p lvalue i at → 1 ≤ b →
        assignment_from (kind_at tokens at) ≡ Some op → Good (length tokens) (b - 1 + p) (IsSimple b p) (assignment tokens calls b lvalue op i at)
    unfolding assignment
    assignment-holds p lvalue op i at first some assigns =
        let w = assignment-is (kind_at tokens at) op assigns in
        let within = inside tokens at _ w.1 in
        let size' = first.size in let a' = size'.low in let l' = size'.long in
        right_side_at-holds tokens (IsSimple b p) (b - 1 + p) b (callable calls op lvalue.index) (record { symbol = lvalue.symbol; line = lvalue.line; declared = false }) at (at + 1)
        (assigning tokens lvalue op i at) refl (omega arith) within
        (λ may function arguments h q d given. called-by w.0 w.1 w.2 (lone-name op p lvalue i at first.reads may) function arguments h q d given)
        (λ t j q low sound.
        let size = sound.size in let a = size.low in let l = size.long in
        record { reads = ReadsSimple.assignment first.reads w.1 w.2 (sound.whole refl); low = omega arith; long = omega arith; within = size.within })
      where
        called-by : (mark : Mark) → kind_at tokens at ≡ Some (kinds.Mark mark) → assignment_of mark ≡ Some op → IsLone op p lvalue i at →
            (function : ℕ) (arguments : List SourceExpression) (h q : ℕ) → ReadsCall tokens (at + 1) function arguments h q → AreArguments tokens (b - 1) (at + 1 + 2) arguments h q →
            IsSimple b p (Call lvalue.line (Some record { symbol = lvalue.symbol; line = lvalue.line; declared = false }) function (line_at tokens (at + 1)) arguments) (h + 1) q
        called-by mark is assigns' lone function arguments h q d given =
            let low' = given.low in let long' = given.long in let place = lone.place in let next' : at + 1 ≡ p + 2 = omega arith in
            record {
              reads = subst (λ line. ReadsSimple tokens calls p
                  (Call line (Some record { symbol = lvalue.symbol; line = line; declared = false }) function (line_at tokens (at + 1)) arguments) (h + 1) q) (sym lone.line)
                  (subst (λ n. ReadsSimple tokens calls p
                  (Call (line_at tokens p) (Some record { symbol = lvalue.symbol; line = line_at tokens p; declared = false }) function (line_at tokens n) arguments) (h + 1) q) (sym next')
                  (ReadsSimple.assigned_call lone.allowed lone.is
                  (subst (λ n. kind_at tokens n ≡ Some (kinds.Mark mark)) lone.place is ∙ ap (λ m. Some (kinds.Mark m)) (assign-mark mark (assigns' ∙ ap Some lone.plain)))
                  (subst (λ n. ReadsCall tokens n function arguments h q) next' d)));
              low = omega arith;
              long = omega arith;
              within = given.within;
            }

    behind_lvalue-holds : (p : ℕ) (lvalue : Lvalue) (i at : ℕ) (op : Option BinaryOp) → 1 ≤ b → IsLvalue tokens (name_budget b) p lvalue i at →
        step_from (kind_at tokens at) ≡ op → Good (length tokens) (b - 1 + p) (IsSimple b p) (behind_lvalue tokens b p lvalue i at op)
    unfolding behind_lvalue
    behind_lvalue-holds p lvalue i at (Some op) some first steps =
        let w = step-is (kind_at tokens at) op steps in
        let within = inside tokens at _ w.1 in
        let size = first.size in let a = size.low in let l = size.long in
        record { reads = ReadsSimple.step_behind first.reads w.1 w.2; low = omega arith; long = omega arith; within = omega arith }
    behind_lvalue-holds p lvalue i at None some first steps = evaluation_from-holds p lvalue i at some first

    on_lvalue-holds : (p : ℕ) (lvalue : Lvalue) (i at : ℕ) (op : Option (Option BinaryOp)) → 1 ≤ b → IsLvalue tokens (name_budget b) p lvalue i at →
        assignment_from (kind_at tokens at) ≡ op → Good (length tokens) (b - 1 + p) (IsSimple b p) (on_lvalue tokens calls b p lvalue i at op)
    unfolding on_lvalue
    on_lvalue-holds p lvalue i at (Some op) some first assigns = assignment-holds p lvalue op i at first some assigns
    on_lvalue-holds p lvalue i at None some first assigns = behind_lvalue-holds p lvalue i at (step_from (kind_at tokens at)) some first refl

    opens-call : (p : ℕ) (lvalue : Lvalue) (i at : ℕ) → IsLvalue tokens (name_budget b) p lvalue i at → 1 ≤ b →
        opens_call (callable calls None lvalue.index) (kind_at tokens at) ≡ true →
        Good (length tokens) (b - 1 + p) (IsSimple b p) (call_at tokens b lvalue.line None lvalue.symbol lvalue.line (at + 1))
    opens-call p lvalue i at first some opens =
        let w = opens-is (callable calls None lvalue.index) (kind_at tokens at) opens in
        let lone = lone-name None p lvalue i at first.reads w.0 in
        let within = inside tokens at _ w.1 in
        let size' = first.size in let l' = size'.long in
        let place = lone.place in let next' : at + 1 ≡ p + 2 = omega arith in
        call_at-holds tokens (IsSimple b p) (b - 1 + p) b lvalue.line None lvalue.symbol lvalue.line (at + 1) (omega arith) (omega arith) (λ arguments h q given.
        let low' = given.low in let long' = given.long in
        record {
          reads = subst (λ line. ReadsSimple tokens calls p (Call line None lvalue.symbol line arguments) (h + 1) q) (sym lone.line)
              (ReadsSimple.call lone.allowed (ReadsCall.call lone.is (subst (λ n. kind_at tokens n ≡ Some (kinds.Mark marks.LeftParen)) lone.place w.1)
              (subst (λ n. ReadsArguments tokens n arguments h q) next' given.reads)));
          low = omega arith;
          long = omega arith;
          within = given.within;
        })

    named-holds : (p : ℕ) → p ≤ length tokens → Good (length tokens) (b - 1 + p) (IsSimple b p) (named tokens calls b p)
    unfolding named after_lvalue
    named-holds p within =
        allowed-good (length tokens) (b - 1 + p) 1 b p (IsSimple b p) _ (λ high. omega arith) within (λ low.
        after-good (length tokens) (b - 1 + p) (name_budget b + p) (IsLvalue tokens (name_budget b) p) (IsSimple b p) (lvalue_at tokens b p) _ (omega arith)
        (lvalue_at-holds p within) (λ lvalue i at first.
        cond-good (length tokens) (b - 1 + p) (IsSimple b p) (opens_call (callable calls None lvalue.index) (kind_at tokens at)) _ _
        (λ opens. opens-call p lvalue i at first low opens)
        (λ no'. on_lvalue-holds p lvalue i at (assignment_from (kind_at tokens at)) low first refl)))

    pub simple_at-holds : (p : ℕ) → p ≤ length tokens → Good (length tokens) (b - 1 + p) (IsSimple b p) (simple_at tokens calls b p)
    unfolding simple_at simple_on marked
    simple_at-holds p within = by (kind_at tokens p) refl
      where
        by_op : (mark : Mark) (op : Option BinaryOp) → kind_at tokens p ≡ Some (kinds.Mark mark) → step_of mark ≡ op → Good (length tokens) (b - 1 + p) (IsSimple b p) (marked tokens b op p)
        by_op mark (Some op) is found = step_before-holds mark op p is found
        by_op mark None is found = evaluation-holds p within

        by : (kind : Option TokenKind) → kind_at tokens p ≡ kind → Good (length tokens) (b - 1 + p) (IsSimple b p) (simple_on tokens calls b kind p)
        by (Some (kinds.Name symbol)) is = named-holds p within
        by (Some (kinds.Number value)) is = evaluation-holds p within
        by (Some (kinds.Key key)) is = cond-good (length tokens) (b - 1 + p) (IsSimple b p) (key_is key keys.Print) _ _
            (λ yes'. print_at-holds p (is ∙ ap (λ k. Some (kinds.Key k)) (key_is-true key keys.Print yes'))) (λ no'. evaluation-holds p within)
        by (Some (kinds.Mark mark)) is = by_op mark (step_of mark) is refl
        by None is = evaluation-holds p within

    pub ended_at-holds : (p : ℕ) → p ≤ length tokens → Good (length tokens) (b - 1 + p) (IsClosed marks.Semicolon b p) (ended_at tokens calls b p)
    unfolding ended_at
    ended_at-holds p within = closed-holds marks.Semicolon b p (b - 1 + p) (simple_at tokens calls b p) (omega arith) (simple_at-holds p within)

  -- a tree of a list, of at most the budget's height, that ends among the tokens
  pub record IsDeclarator (storage : Storage) (b p : ℕ) (s : UnitStatement) (h q : ℕ) : Type 0 where
    pub reads : ReadsDeclarator tokens calls storage p s h q
    pub low : h ≤ b
    pub within : q ≤ length tokens
    pub onward : p ≤ q

  pub record IsDeclarators (storage : Storage) (b p : ℕ) (trees : UnitList) (h q : ℕ) : Type 0 where
    pub reads : ReadsDeclarators tokens calls storage p trees h q
    pub low : h ≤ b
    pub within : q ≤ length tokens

  pub record IsDeclaration (storage : Storage) (b p : ℕ) (trees : UnitList) (h q : ℕ) : Type 0 where
    pub reads : ReadsDeclaration tokens calls storage p trees h q
    pub low : h ≤ b
    pub within : q ≤ length tokens
    pub onward : p ≤ q

  pub record FirstPart (b p : ℕ) (trees : UnitList) (h q : ℕ) : Type 0 where
    pub reads : ReadsFirst tokens calls p trees h q
    pub low : h ≤ b
    pub within : q ≤ length tokens
    pub onward : p ≤ q

  pub record IsCondition (b p : ℕ) (t : SourceExpression) (h q : ℕ) : Type 0 where
    pub reads : ReadsCondition tokens p t h q
    pub low : h ≤ b
    pub within : q ≤ length tokens
    pub onward : p ≤ q

  pub record IsStep (b p : ℕ) (t : UnitOptional) (h q : ℕ) : Type 0 where
    pub reads : ReadsStep tokens calls p t h q
    pub low : h ≤ b
    pub within : q ≤ length tokens
    pub onward : p ≤ q

  array-holds : (b symbol p : ℕ) (size : Option ℕ) → 1 ≤ b → kind_at tokens p ≡ Some (kinds.Name symbol) → kind_at tokens (p + 1) ≡ Some (kinds.Mark marks.LeftBracket) →
      length_of (kind_at tokens (p + 2)) ≡ size →
      Good (length tokens) (b - 1 + p) (IsDeclarator Automatic b p) (array tokens symbol p size)
  unfolding array
  array-holds b symbol p (Some size) some is open' found =
      let number = length-is (kind_at tokens (p + 2)) size found in
      let within = inside tokens (p + 2) _ number in
      expect-good tokens (b - 1 + p) marks.RightBracket (p + 3) (IsDeclarator Automatic b p) _ (omega arith)
      (λ close' below'. record { reads = ReadsDeclarator.array is open' number close'; low = some; within = omega arith; onward = omega arith })
  array-holds b symbol p None some is open' found = let within = inside tokens (p + 1) _ open' in omega arith

  module _ (b : ℕ) (some : 1 ≤ b) where
    initialised-holds : (symbol p : ℕ) → kind_at tokens p ≡ Some (kinds.Name symbol) → kind_at tokens (p + 1) ≡ Some (kinds.Mark marks.Assign) →
        Good (length tokens) (b - 1 + p) (IsDeclarator Automatic b p) (initialised tokens calls b symbol p)
    unfolding initialised
    initialised-holds symbol p is assign =
        let within = inside tokens (p + 1) _ assign in
        right_side_at-holds tokens (IsDeclarator Automatic b p) (b - 1 + p) b calls (record { symbol = symbol; line = line_at tokens p; declared = true }) (p + 1) (p + 2)
        (initialising tokens symbol p) (omega arith) (omega arith) within
        (λ may function arguments h q d given.
        let low' = given.low in let long' = given.long in
        record { reads = ReadsDeclarator.called may is assign d; low = omega arith; within = given.within; onward = omega arith })
        (λ t h q low sound.
        let size = sound.size in let a = size.low in let l = size.long in
        record { reads = ReadsDeclarator.initialised is assign (sound.whole refl); low = omega arith; within = size.within; onward = omega arith })

    declarator_at-holds : (storage : Storage) (p : ℕ) → p ≤ length tokens → Good (length tokens) (b - 1 + p) (IsDeclarator storage b p) (declarator_at tokens calls b storage p)
    unfolding declarator_at declarator_on
    declarator_at-holds Static p within =
        weaker (fixed_on tokens (symbol_of (kind_at tokens p)) p) (fixed_on-holds tokens calls (b - 1 + p) p (symbol_of (kind_at tokens p)) within refl)
      where
        weaker : (o : ParseOutcome UnitStatement) → Good (length tokens) (b - 1 + p) (IsFixed tokens calls p) o → Good (length tokens) (b - 1 + p) (IsDeclarator Static b p) o
        weaker (Parsed s h q) good = let one = good.one in record { reads = good.reads; low = omega arith; within = good.within; onward = good.onward }
        weaker (Unreadable at) good = good
        weaker (TooHigh at) good = good
    declarator_at-holds Automatic p within = by (symbol_of (kind_at tokens p)) refl
      where
        by : (symbol : Option ℕ) → symbol_of (kind_at tokens p) ≡ symbol → Good (length tokens) (b - 1 + p) (IsDeclarator Automatic b p) (declarator_on tokens calls b symbol p)
        by (Some symbol) found =
            let is = symbol-is (kind_at tokens p) symbol found in
            let here = inside tokens p _ is in
            on_mark-good tokens (b - 1 + p) marks.Assign (p + 1) (IsDeclarator Automatic b p) _ _ (λ assign below'. initialised-holds symbol p is assign) (λ no'.
            on_mark-good tokens (b - 1 + p) marks.LeftBracket (p + 1) (IsDeclarator Automatic b p) _ _
            (λ open' below'. array-holds b symbol p (length_of (kind_at tokens (p + 2))) some is open' refl) (λ no''.
            record { reads = ReadsDeclarator.scalar is; low = some; within = omega arith; onward = omega arith }))
        by None found = within

    declarators_at-holds : (storage : Storage) (n p : ℕ) → p ≤ length tokens → Good (length tokens) (b - 1 + p) (IsDeclarators storage b p) (declarators_at tokens calls b storage n p)
    unfolding declarators_at last_declarator
    declarators_at-holds storage zero p within = within
    declarators_at-holds storage (suc n) p within =
        after-good (length tokens) (b - 1 + p) (b - 1 + p) (IsDeclarator storage b p) (IsDeclarators storage b p) (declarator_at tokens calls b storage p) _ (omega arith)
        (declarator_at-holds storage p within) (λ s h q first.
        let low' = first.low in let onward' = first.onward in
        on_mark-good tokens (b - 1 + p) marks.Comma q (IsDeclarators storage b p) _ _
        (λ comma below'. after-good (length tokens) (b - 1 + p) (b - 1 + (q + 1)) (IsDeclarators storage b (q + 1)) (IsDeclarators storage b p) (declarators_at tokens calls b storage n (q + 1)) _
        (omega arith) (declarators_at-holds storage n (q + 1) (omega arith)) (λ rest j to others.
        let low'' = others.low in record { reads = ReadsDeclarators.comma first.reads comma others.reads; low = omega arith; within = others.within }))
        (λ no'. expect-good tokens (b - 1 + p) marks.Semicolon q (IsDeclarators storage b p) _ first.within
        (λ close' below'. record { reads = ReadsDeclarators.last first.reads close'; low = low'; within = omega arith })))

  pub declaration_at-holds : (b p : ℕ) → kind_at tokens p ≡ Some (kinds.Key keys.Int) → Good (length tokens) (b - 1 + p) (IsDeclaration Automatic b p) (declaration_at tokens calls b p)
  unfolding declaration_at
  declaration_at-holds b p is =
      let within = inside tokens p _ is in
      allowed-good (length tokens) (b - 1 + p) 1 b p (IsDeclaration Automatic b p) _ (λ high. omega arith) (omega arith) (λ low.
      weaker low (declarators_at tokens calls b Automatic (length tokens + 1) (p + 1)) (declarators_at-holds b low Automatic (length tokens + 1) (p + 1) (omega arith)))
    where
      weaker : 1 ≤ b → (o : ParseOutcome UnitList) → Good (length tokens) (b - 1 + (p + 1)) (IsDeclarators Automatic b (p + 1)) o → Good (length tokens) (b - 1 + p) (IsDeclaration Automatic b p) o
      weaker low (Parsed t h q) good = let onward = declarators-onward tokens calls Automatic (p + 1) t h q good.reads in
          record { reads = ReadsDeclaration.automatic is good.reads; low = good.low; within = good.within; onward = omega arith }
      weaker low (Unreadable at) good = good
      weaker low (TooHigh at) good = let a = good.0 in (omega arith, good.1)

  pub static_at-holds : (b p : ℕ) → kind_at tokens p ≡ Some (kinds.Key keys.Static) → Good (length tokens) (b - 1 + p) (IsDeclaration Static b p) (static_at tokens calls b p)
  unfolding static_at
  static_at-holds b p is =
      let within = inside tokens p _ is in
      allowed-good (length tokens) (b - 1 + p) 1 b p (IsDeclaration Static b p) _ (λ high. omega arith) (omega arith) (λ low.
      expect_key-good tokens (b - 1 + p) keys.Int (p + 1) (IsDeclaration Static b p) _ (omega arith) (λ int below'.
      weaker int (declarators_at tokens calls b Static (length tokens + 1) (p + 2)) (declarators_at-holds b low Static (length tokens + 1) (p + 2) (omega arith))))
    where
      weaker : kind_at tokens (p + 1) ≡ Some (kinds.Key keys.Int) → (o : ParseOutcome UnitList) → Good (length tokens) (b - 1 + (p + 2)) (IsDeclarators Static b (p + 2)) o →
          Good (length tokens) (b - 1 + p) (IsDeclaration Static b p) o
      weaker int (Parsed t h q) good = let onward = declarators-onward tokens calls Static (p + 2) t h q good.reads in
          record { reads = ReadsDeclaration.static is int good.reads; low = good.low; within = good.within; onward = omega arith }
      weaker int (Unreadable at) good = good
      weaker int (TooHigh at) good = let a = good.0 in (omega arith, good.1)

  pub first_at-holds : (b p : ℕ) → p ≤ length tokens → Good (length tokens) (b - 1 + p) (FirstPart b p) (first_at tokens calls b p)
  unfolding first_at
  first_at-holds b p within =
      on_key-good tokens (b - 1 + p) keys.Int p (FirstPart b p) _ _ (λ int below'. weaker (declaration_at tokens calls b p) (declaration_at-holds b p int)) (λ no'.
      on_mark-good tokens (b - 1 + p) marks.Semicolon p (FirstPart b p) _ _
      (λ semicolon below'. record { reads = ReadsFirst.none semicolon; low = omega arith; within = omega arith; onward = omega arith }) (λ no''.
      after-good (length tokens) (b - 1 + p) (b - 1 + p) (IsClosed marks.Semicolon b p) (FirstPart b p) (ended_at tokens calls b p) _ (omega arith) (ended_at-holds b p within) (λ s h q closed'.
      let onward = simple-onward tokens calls p s h closed'.at closed'.reads in let is = closed'.is in
      record {
        reads = subst (ReadsFirst tokens calls p (Item s Finish) h) closed'.is
            (ReadsFirst.simple closed'.reads closed'.behind);
        low = closed'.low;
        within = closed'.within;
        onward = omega arith;
      })))
    where
      weaker : (o : ParseOutcome UnitList) → Good (length tokens) (b - 1 + p) (IsDeclaration Automatic b p) o → Good (length tokens) (b - 1 + p) (FirstPart b p) o
      weaker (Parsed t h q) good = record { reads = ReadsFirst.declared good.reads; low = good.low; within = good.within; onward = good.onward }
      weaker (Unreadable at) good = good
      weaker (TooHigh at) good = good

  pub condition_at-holds : (b p : ℕ) → p ≤ length tokens → Good (length tokens) (b - 1 + p) (IsCondition b p) (condition_at tokens b p)
  unfolding condition_at
  condition_at-holds b p within =
      on_mark-good tokens (b - 1 + p) marks.Semicolon p (IsCondition b p) _ _
      (λ semicolon below'. record { reads = ReadsCondition.none semicolon; low = omega arith; within = omega arith; onward = omega arith }) (λ no'.
      after-good (length tokens) (b - 1 + p) (b + p) (Sound tokens b 0 p) (IsCondition b p) (expression_at tokens b 0 p) _ (omega arith)
      (expression_at-holds tokens b 0 p (omega arith) within) (λ t h q sound.
      let size = sound.size in let a = size.low in let l = size.long in
      expect-good tokens (b - 1 + p) marks.Semicolon q (IsCondition b p) _ size.within
      (λ close' below'. record { reads = ReadsCondition.given (sound.whole refl) close'; low = a; within = omega arith; onward = omega arith })))

  pub step_at-holds : (b p : ℕ) → p ≤ length tokens → Good (length tokens) (b - 1 + p) (IsStep b p) (step_at tokens calls b p)
  unfolding step_at
  step_at-holds b p within =
      on_mark-good tokens (b - 1 + p) marks.RightParen p (IsStep b p) _ _
      (λ close' below'. record { reads = ReadsStep.none close'; low = omega arith; within = omega arith; onward = omega arith }) (λ no'.
      after-good (length tokens) (b - 1 + p) (b - 1 + p) (IsClosed marks.RightParen b p) (IsStep b p) (closed tokens marks.RightParen b (simple_at tokens calls b p)) _ (omega arith)
      (closed-holds marks.RightParen b p (b - 1 + p) (simple_at tokens calls b p) (omega arith) (simple_at-holds b p within)) (λ s h q closed'.
      let onward = simple-onward tokens calls p s h closed'.at closed'.reads in let is = closed'.is in
      record { reads = subst (ReadsStep tokens calls p (With s) h) closed'.is (ReadsStep.given closed'.reads closed'.behind); low = closed'.low; within = closed'.within; onward = omega arith }))
