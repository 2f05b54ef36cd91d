-- The parser of statements, under a budget of height.
use Rattle.std.specs.Prelude.{ℕ, zero, suc, ℤ, pos, negsuc, ◌+◌, ◌-◌, max, Option, Some, None, List, [], ◌∷◌, length, if◌then◌else◌, true, false}
use Rattle.pc_word.specs.Word.{word_sub}
use Rattle.pc_lexer.specs.declared.token.Token.{Token}
use Rattle.pc_lexer.specs.declared.token.TokenKind.{TokenKind}
use Rattle.pc_lexer.specs.declared.token.TokenKind.TheVariants as kinds
use Rattle.pc_lexer.specs.declared.mark.Mark.{Mark}
use Rattle.pc_lexer.specs.declared.mark.Mark.TheVariants as marks
use Rattle.pc_lexer.specs.declared.keyword.Keyword.{Keyword}
use Rattle.pc_lexer.specs.declared.keyword.Keyword.TheVariants as keys
use Rattle.pc_syntax.specs.declared.operator.BinaryOp.{BinaryOp}
use Rattle.pc_syntax.specs.declared.constant.Const.{Const}
use Rattle.pc_syntax.specs.Source.{SourceExpression, Literal}
use Rattle.pc_syntax.specs.Unit.{UnitStatement, UnitList, UnitOptional, Block, Scalar, Array, Print, Eval, If}
use Rattle.pc_syntax.specs.Unit.{While, Do, For, Break, Continue, Return, Empty, Without, With, Finish, Item, unit_appended}
use Rattle.pc_parser.specs.declared.calls.Calls.{Calls}
use Rattle.pc_parser.specs.declared.calls.Calls.TheVariants.{Refused}
use Rattle.pc_parser.specs.declared.storage.Storage.{Storage}
use Rattle.pc_parser.specs.declared.storage.Storage.TheVariants.{Automatic, Static}
use Rattle.pc_parser.specs.Places.{kind_at, line_at}
use Rattle.pc_parser.specs.models.Tests.{is_mark, is_key, mark_is, key_is, symbol_of}
use Rattle.pc_parser.specs.Operators.{assignment_of, step_of}
use Rattle.pc_parser.specs.Statements.{Lvalue, assigned}
use Rattle.pc_parser.specs.models.Outcome.{ParseOutcome, Parsed, Unreadable, TooHigh, after, allowed, expect, expect_key}
use Rattle.pc_parser.specs.models.ExpressionParser.{lvalue_named, lvalue_tree, lvalue_height, climb, choice, expression_at, below}
use Rattle.pc_parser.specs.models.CallParser.{callable, opens_call, call_at, right_side_at}

-- what a token assigns by
unfoldable pub assignment_from : Option TokenKind → Option (Option BinaryOp)
assignment_from (Some (kinds.Mark mark)) = assignment_of mark
assignment_from (Some (kinds.Key key)) = None
assignment_from (Some (kinds.Name symbol)) = None
assignment_from (Some (kinds.Number value)) = None
assignment_from None = None

-- what a token steps by
unfoldable pub step_from : Option TokenKind → Option BinaryOp
step_from (Some (kinds.Mark mark)) = step_of mark
step_from (Some (kinds.Key key)) = None
step_from (Some (kinds.Name symbol)) = None
step_from (Some (kinds.Number value)) = None
step_from None = None

-- a number that is not negative
abbrev pub natural : ℤ → Option ℕ
natural (pos length) = Some length
natural (negsuc length) = None

-- the length that a number gives
unfoldable pub length_of : Option TokenKind → Option ℕ
length_of (Some (kinds.Number value)) = natural value
length_of (Some (kinds.Name symbol)) = None
length_of (Some (kinds.Key key)) = None
length_of (Some (kinds.Mark mark)) = None
length_of None = None

-- the value of a number
unfoldable pub number_of : Option TokenKind → Option ℤ
number_of (Some (kinds.Number value)) = Some value
number_of (Some (kinds.Name symbol)) = None
number_of (Some (kinds.Key key)) = None
number_of (Some (kinds.Mark mark)) = None
number_of None = None

-- the budget of the expression that a name begins in a statement: a lone name is looked at with a
-- budget of 1 even where the statement's is 1, since `x++;` has the height 1
abbrev pub name_budget : ℕ → ℕ
name_budget budget = max (budget - 1) 1

module _ (tokens : List Token) where
  -- `(` expression `)`
  unfoldable pub parenthesized_at : (budget from : ℕ) → ParseOutcome SourceExpression
  parenthesized_at budget from = expect tokens marks.LeftParen from (after (expression_at tokens budget 0 (from + 1)) (λ tree height to.
      expect tokens marks.RightParen to (Parsed tree height (to + 1))))

  -- a statement in front of this mark; only here is its height compared
  unfoldable pub closed_behind : Mark → (budget : ℕ) → UnitStatement → (height to : ℕ) → ParseOutcome UnitStatement
  closed_behind mark budget tree height to = expect tokens mark to (allowed height budget to (Parsed tree height (to + 1)))

  -- the same of a statement that is read first
  unfoldable pub closed : Mark → (budget : ℕ) → ParseOutcome UnitStatement → ParseOutcome UnitStatement
  closed mark budget statement = after statement (closed_behind mark budget)

  -- the length of an array, and its bracket
  unfoldable pub array : (symbol from : ℕ) → Option ℕ → ParseOutcome UnitStatement
  array symbol from (Some length) = expect tokens marks.RightBracket (from + 3)
      (Parsed (Array symbol (line_at tokens from) (line_at tokens (from + 2)) length []) 1 (from + 4))
  array symbol from None = Unreadable (from + 2)

  -- the number of a constant
  unfoldable pub plain : (from : ℕ) → Option ℤ → ParseOutcome Const
  plain from (Some value) = Parsed (record { line = line_at tokens from; value = value }) 1 (from + 1)
  plain from None = Unreadable from

  -- the number after the `-` of a constant
  unfoldable pub negated : (from : ℕ) → Option ℤ → ParseOutcome Const
  negated from (Some value) = Parsed (record { line = line_at tokens from; value = word_sub (pos 0) value }) 1 (from + 2)
  negated from None = Unreadable (from + 1)

  -- a constant
  unfoldable pub constant_at : (from : ℕ) → ParseOutcome Const
  constant_at from =
      if is_mark marks.Minus (kind_at tokens from) then negated from (number_of (kind_at tokens (from + 1)))
      else plain from (number_of (kind_at tokens from))

  -- constants up to a `}`, as many as there are turns
  unfoldable pub constants_at : (turns from : ℕ) → ParseOutcome (List Const)
  constants_at zero from = Unreadable from
  constants_at (suc turns) from = after (constant_at from) (λ tree height at.
      if is_mark marks.Comma (kind_at tokens at)
      then (if is_mark marks.RightBrace (kind_at tokens (at + 1)) then Parsed (tree ∷ []) 1 (at + 2)
      else after (constants_at turns (at + 1)) (λ rest other to. Parsed (tree ∷ rest) 1 to))
      else expect tokens marks.RightBrace at (Parsed (tree ∷ []) 1 (at + 1)))

  -- an array with the values of its initialiser, whose `=` was seen
  unfoldable pub valued : (symbol from length : ℕ) → ParseOutcome UnitStatement
  valued symbol from size = expect tokens marks.LeftBrace (from + 5) (after (constants_at (length tokens + 1) (from + 6)) (λ values height to.
      Parsed (Array symbol (line_at tokens from) (line_at tokens (from + 2)) size values) 1 to))

  -- the length of a static array with its bracket, and its initialiser, where an `=` follows
  unfoldable pub sized : (symbol from : ℕ) → Option ℕ → ParseOutcome UnitStatement
  sized symbol from (Some size) = expect tokens marks.RightBracket (from + 3)
      (if is_mark marks.Assign (kind_at tokens (from + 4)) then valued symbol from size
      else Parsed (Array symbol (line_at tokens from) (line_at tokens (from + 2)) size []) 1 (from + 4))
  sized symbol from None = Unreadable (from + 2)

  -- the declarator of this name in a static declaration, or Unreadable where there is none
  unfoldable pub fixed_on : Option ℕ → (from : ℕ) → ParseOutcome UnitStatement
  fixed_on (Some symbol) from = expect tokens marks.LeftBracket (from + 1) (sized symbol from (length_of (kind_at tokens (from + 2))))
  fixed_on None from = Unreadable from

  -- the last declarator with its `;`
  unfoldable pub last_declarator : UnitStatement → (height at : ℕ) → ParseOutcome UnitList
  last_declarator tree height at = expect tokens marks.Semicolon at (Parsed (Item tree Finish) height (at + 1))

  module _ (budget : ℕ) where
    -- the lvalue at this name, or Unreadable where there is none
    unfoldable pub lvalue_on : Option ℕ → (from : ℕ) → ParseOutcome Lvalue
    lvalue_on (Some symbol) from = lvalue_named tokens (below tokens (name_budget budget)) (name_budget budget) symbol from
    lvalue_on None from = Unreadable from

    unfoldable pub lvalue_at : (from : ℕ) → ParseOutcome Lvalue
    lvalue_at from = lvalue_on (symbol_of (kind_at tokens from)) from

    -- an expression as a statement
    unfoldable pub evaluation : (from : ℕ) → ParseOutcome UnitStatement
    evaluation from = after (expression_at tokens (budget - 1) 0 from) (λ value height to.
        Parsed (Eval (line_at tokens from) value) (height + 1) to)

    -- the expression that goes on after an lvalue, as a statement
    unfoldable pub evaluation_from : (from : ℕ) → Lvalue → (height at : ℕ) → ParseOutcome UnitStatement
    evaluation_from from lvalue height at =
        after (climb tokens (below tokens (name_budget budget)) (name_budget budget) 1 (name_budget budget) (lvalue_tree lvalue) (lvalue_height lvalue height) at) (λ left i q.
        after (choice tokens (below tokens (name_budget budget)) (name_budget budget) left i q) (λ value j to.
        Parsed (Eval (line_at tokens from) value) (j + 1) to))

    -- `print` `(` expression `)`
    unfoldable pub print_at : (from : ℕ) → ParseOutcome UnitStatement
    print_at from = allowed 2 budget from (after (parenthesized_at (budget - 1) (from + 1)) (λ value height to.
        Parsed (Print (line_at tokens from) value) (height + 1) to))

    -- a statement that `++` or `--` begins
    unfoldable pub step_before : BinaryOp → (from : ℕ) → ParseOutcome UnitStatement
    step_before op from = allowed 1 budget from (after (lvalue_at (from + 1)) (λ lvalue height to.
        Parsed (assigned lvalue (Some op) (line_at tokens from) (Literal (pos 1))) (height + 1) to))

    -- what goes on after an lvalue that is not assigned to: `++` or `--`, or an expression
    unfoldable pub behind_lvalue : (from : ℕ) → Lvalue → (height at : ℕ) → Option BinaryOp → ParseOutcome UnitStatement
    behind_lvalue from lvalue height at (Some op) = Parsed (assigned lvalue (Some op) (line_at tokens at) (Literal (pos 1))) (height + 1) (at + 1)
    behind_lvalue from lvalue height at None = evaluation_from from lvalue height at

    -- a statement that a mark begins which steps by this operator, or by none
    unfoldable pub marked : Option BinaryOp → (from : ℕ) → ParseOutcome UnitStatement
    marked (Some op) from = step_before op from
    marked None from = evaluation from

    -- `break` or `continue`, with its `;`
    unfoldable pub lone : UnitStatement → (from : ℕ) → ParseOutcome UnitStatement
    lone tree from = allowed 1 budget from (expect tokens marks.Semicolon (from + 1) (Parsed tree 1 (from + 2)))

    unfoldable pub return_at : (from : ℕ) → ParseOutcome UnitStatement
    return_at from = allowed 2 budget from (after (expression_at tokens (budget - 1) 0 (from + 1)) (λ value height to.
        expect tokens marks.Semicolon to (Parsed (Return (line_at tokens from) value) (height + 1) (to + 1))))

    -- the condition of a `for`, with its `;`
    unfoldable pub condition_at : (from : ℕ) → ParseOutcome SourceExpression
    condition_at from =
        if is_mark marks.Semicolon (kind_at tokens from) then Parsed (Literal (pos 1)) 0 (from + 1)
        else after (expression_at tokens budget 0 from) (λ tree height to. expect tokens marks.Semicolon to (Parsed tree height (to + 1)))

  -- a value that is assigned to an lvalue of this height by the mark at a place
  abbrev pub assigning : Lvalue → Option BinaryOp → (height at : ℕ) → SourceExpression → (other to : ℕ) → ParseOutcome UnitStatement
  assigning lvalue op height at value other to = Parsed (assigned lvalue op (line_at tokens at) value) (max height other + 1) to

  -- a value with which the scalar at a place begins
  abbrev pub initialising : (symbol from : ℕ) → SourceExpression → (height to : ℕ) → ParseOutcome UnitStatement
  initialising symbol from value height to = Parsed (Scalar symbol (line_at tokens from) (Some value)) (height + 1) to

  module _ (calls : Calls) (budget : ℕ) where
    -- what is assigned to an lvalue
    unfoldable pub assignment : Lvalue → Option BinaryOp → (height at : ℕ) → ParseOutcome UnitStatement
    assignment lvalue op height at =
        right_side_at tokens budget (callable calls op lvalue.index) (record { symbol = lvalue.symbol; line = lvalue.line; declared = false }) at (at + 1) (assigning lvalue op height at)

    -- what goes on after an lvalue that is not called
    unfoldable pub on_lvalue : (from : ℕ) → Lvalue → (height at : ℕ) → Option (Option BinaryOp) → ParseOutcome UnitStatement
    on_lvalue from lvalue height at (Some op) = assignment lvalue op height at
    on_lvalue from lvalue height at None = behind_lvalue budget from lvalue height at (step_from (kind_at tokens at))

    -- what goes on after an lvalue
    unfoldable pub after_lvalue : (from : ℕ) → Lvalue → (height at : ℕ) → ParseOutcome UnitStatement
    after_lvalue from lvalue height at =
        if opens_call (callable calls None lvalue.index) (kind_at tokens at) then call_at tokens budget lvalue.line None lvalue.symbol lvalue.line (at + 1)
        else on_lvalue from lvalue height at (assignment_from (kind_at tokens at))

    -- a statement that a name begins
    unfoldable pub named : (from : ℕ) → ParseOutcome UnitStatement
    named from = allowed 1 budget from (after (lvalue_at budget from) (after_lvalue from))

    -- a simple statement; its height is the budget and 1 more where a lone name is the whole of it
    unfoldable pub simple_on : Option TokenKind → (from : ℕ) → ParseOutcome UnitStatement
    simple_on (Some (kinds.Name symbol)) from = named from
    simple_on (Some (kinds.Number value)) from = evaluation budget from
    simple_on (Some (kinds.Key key)) from = if key_is key keys.Print then print_at budget from else evaluation budget from
    simple_on (Some (kinds.Mark mark)) from = marked budget (step_of mark) from
    simple_on None from = evaluation budget from

    unfoldable pub simple_at : (from : ℕ) → ParseOutcome UnitStatement
    simple_at from = simple_on (kind_at tokens from) from

    -- a simple statement with its `;`
    unfoldable pub ended_at : (from : ℕ) → ParseOutcome UnitStatement
    ended_at from = closed marks.Semicolon budget (simple_at from)

    -- the initialiser of a scalar
    unfoldable pub initialised : (symbol from : ℕ) → ParseOutcome UnitStatement
    initialised symbol from =
        right_side_at tokens budget calls (record { symbol = symbol; line = line_at tokens from; declared = true }) (from + 1) (from + 2) (initialising symbol from)

    -- the declarator of this name, or Unreadable where there is none
    unfoldable pub declarator_on : Option ℕ → (from : ℕ) → ParseOutcome UnitStatement
    declarator_on (Some symbol) from =
        if is_mark marks.Assign (kind_at tokens (from + 1)) then initialised symbol from
        else (if is_mark marks.LeftBracket (kind_at tokens (from + 1)) then array symbol from (length_of (kind_at tokens (from + 2)))
        else Parsed (Scalar symbol (line_at tokens from) None) 1 (from + 1))
    declarator_on None from = Unreadable from

    unfoldable pub declarator_at : Storage → (from : ℕ) → ParseOutcome UnitStatement
    declarator_at Automatic from = declarator_on (symbol_of (kind_at tokens from)) from
    declarator_at Static from = fixed_on (symbol_of (kind_at tokens from)) from

    -- declarators up to a `;`, as many as there are turns
    unfoldable pub declarators_at : Storage → (turns from : ℕ) → ParseOutcome UnitList
    declarators_at storage zero from = Unreadable from
    declarators_at storage (suc turns) from = after (declarator_at storage from) (λ tree height at.
        if is_mark marks.Comma (kind_at tokens at)
        then after (declarators_at storage turns (at + 1)) (λ rest other to. Parsed (Item tree rest) (max height other) to)
        else last_declarator tree height at)

    -- a declaration, whose `int` was seen
    unfoldable pub declaration_at : (from : ℕ) → ParseOutcome UnitList
    declaration_at from = allowed 1 budget from (declarators_at Automatic (length tokens + 1) (from + 1))

    -- a declaration, whose `static` was seen
    unfoldable pub static_at : (from : ℕ) → ParseOutcome UnitList
    static_at from = allowed 1 budget from (expect_key tokens keys.Int (from + 1) (declarators_at Static (length tokens + 1) (from + 2)))

    -- the first part of a `for`, with its `;`
    unfoldable pub first_at : (from : ℕ) → ParseOutcome UnitList
    first_at from =
        if is_key keys.Int (kind_at tokens from) then declaration_at from
        else (if is_mark marks.Semicolon (kind_at tokens from) then Parsed Finish 0 (from + 1)
        else after (ended_at from) (λ tree height to. Parsed (Item tree Finish) height to))

    -- the step of a `for`, with its `)`
    unfoldable pub step_at : (from : ℕ) → ParseOutcome UnitOptional
    step_at from =
        if is_mark marks.RightParen (kind_at tokens from) then Parsed Without 0 (from + 1)
        else after (closed marks.RightParen budget (simple_at from)) (λ tree height to. Parsed (With tree) height to)

  -- statements: `inner` is the parser of them with a budget that is one less
  module _ (inner : (from : ℕ) → ParseOutcome UnitStatement) (budget : ℕ) where
    -- the `else` of an `if`, where it follows
    unfoldable pub otherwise_at : (line : ℕ) → SourceExpression → UnitStatement → (i j at : ℕ) → ParseOutcome UnitStatement
    otherwise_at line test body i j at =
        if is_key keys.Else (kind_at tokens at)
        then after (inner (at + 1)) (λ other k to. Parsed (If line test body (With other)) (max i (max j k) + 1) to)
        else Parsed (If line test body Without) (max i j + 1) at

    unfoldable pub branch_at : (from : ℕ) → ParseOutcome UnitStatement
    branch_at from = allowed 2 budget from (after (parenthesized_at (budget - 1) (from + 1)) (λ test i q.
        after (inner q) (λ body j at. otherwise_at (line_at tokens from) test body i j at)))

    unfoldable pub while_at : (from : ℕ) → ParseOutcome UnitStatement
    while_at from = allowed 2 budget from (after (parenthesized_at (budget - 1) (from + 1)) (λ test i q.
        after (inner q) (λ body j to. Parsed (While (line_at tokens from) test body) (max i j + 1) to)))

    unfoldable pub do_at : (from : ℕ) → ParseOutcome UnitStatement
    do_at from = allowed 2 budget from (after (inner (from + 1)) (λ body i q.
        expect_key tokens keys.While q (after (parenthesized_at (budget - 1) (q + 1)) (λ test j r.
        expect tokens marks.Semicolon r (Parsed (Do (line_at tokens from) body test) (max i j + 1) (r + 1))))))

    -- the body of a `for`, after its `)`
    unfoldable pub for_body : (line : ℕ) → UnitList → SourceExpression → UnitOptional → (height at : ℕ) → ParseOutcome UnitStatement
    for_body line first test step height at = after (inner at) (λ body other to.
        Parsed (For line first test step body) (max height other + 1) to)

  module _ (calls : Calls) (inner : (from : ℕ) → ParseOutcome UnitStatement) (budget : ℕ) where
    -- the declaration or statement at a place
    unfoldable pub item_at : (from : ℕ) → ParseOutcome UnitList
    item_at from =
        if is_key keys.Int (kind_at tokens from) then declaration_at calls (budget - 1) from
        else (if is_key keys.Static (kind_at tokens from) then static_at calls (budget - 1) from
        else after (inner from) (λ tree height to. Parsed (Item tree Finish) height to))

    -- declarations and statements up to a `}`, as many as there are turns
    unfoldable pub items_at : (turns from : ℕ) → ParseOutcome UnitList
    items_at zero from = Unreadable from
    items_at (suc turns) from =
        if is_mark marks.RightBrace (kind_at tokens from) then Parsed Finish 0 (from + 1)
        else after (item_at from) (λ trees height at.
        after (items_at turns at) (λ rest other to. Parsed (unit_appended trees rest) (max height other) to))

    -- a block, whose `{` was seen
    unfoldable pub block_at : (from : ℕ) → ParseOutcome UnitList
    block_at from = allowed 1 budget from (after (items_at (length tokens + 1) (from + 1)) (λ trees height to.
        Parsed trees (height + 1) to))

    unfoldable pub for_at : (from : ℕ) → ParseOutcome UnitStatement
    for_at from = allowed 2 budget from (expect tokens marks.LeftParen (from + 1)
        (after (first_at calls (budget - 1) (from + 2)) (λ first i q.
        after (condition_at (budget - 1) q) (λ test j r.
        after (step_at calls (budget - 1) r) (λ step k s.
        for_body inner budget (line_at tokens from) first test step (max i (max j k)) s)))))

    -- the statement that a keyword begins
    unfoldable pub keyed : Keyword → (from : ℕ) → ParseOutcome UnitStatement
    keyed key from =
        if key_is key keys.If then branch_at inner budget from
        else (if key_is key keys.While then while_at inner budget from
        else (if key_is key keys.Do then do_at inner budget from
        else (if key_is key keys.For then for_at from
        else (if key_is key keys.Break then lone budget (Break (line_at tokens from)) from
        else (if key_is key keys.Continue then lone budget (Continue (line_at tokens from)) from
        else (if key_is key keys.Return then return_at budget from
        else ended_at calls budget from))))))

    -- the statement that a mark begins
    unfoldable pub started : Mark → (from : ℕ) → ParseOutcome UnitStatement
    started mark from =
        if mark_is mark marks.LeftBrace then after (block_at from) (λ items height to. Parsed (Block items) height to)
        else (if mark_is mark marks.Semicolon then allowed 1 budget from (Parsed Empty 1 (from + 1))
        else ended_at calls budget from)

    unfoldable pub statement_on : Option TokenKind → (from : ℕ) → ParseOutcome UnitStatement
    statement_on (Some (kinds.Key key)) from = keyed key from
    statement_on (Some (kinds.Mark mark)) from = started mark from
    statement_on (Some (kinds.Name symbol)) from = ended_at calls budget from
    statement_on (Some (kinds.Number value)) from = ended_at calls budget from
    statement_on None from = ended_at calls budget from

    unfoldable pub statement_from : (from : ℕ) → ParseOutcome UnitStatement
    statement_from from = statement_on (kind_at tokens from) from

-- the statement at a place, of at most this height
unfoldable pub statement_at : List Token → Calls → (budget from : ℕ) → ParseOutcome UnitStatement
statement_at tokens calls zero = statement_from tokens calls (λ from. TooHigh from) 0
statement_at tokens calls (suc budget) = statement_from tokens calls (statement_at tokens calls budget) (suc budget)

-- the same with a budget that is one less
unfoldable pub statement_below : List Token → Calls → (budget from : ℕ) → ParseOutcome UnitStatement
statement_below tokens calls zero = λ from. TooHigh from
statement_below tokens calls (suc budget) = statement_at tokens calls budget

-- items, where no token stands after them
unfoldable pub nothing_behind : UnitList → (height to : ℕ) → Option TokenKind → ParseOutcome UnitList
nothing_behind items height to None = Parsed items height to
nothing_behind items height to (Some kind) = Unreadable to

-- the block of `main` after its parentheses, with nothing after it
unfoldable pub main_block : List Token → Calls → (budget from : ℕ) → ParseOutcome UnitList
main_block tokens calls budget from =
    expect tokens marks.RightParen from
    (expect tokens marks.LeftBrace (from + 1)
    (after (block_at tokens calls (statement_below tokens calls budget) budget (from + 1)) (λ items height to.
    nothing_behind items height to (kind_at tokens to))))

-- the `main` at a place, with nothing after it, of at most this height
unfoldable pub main_at : List Token → Calls → (budget from : ℕ) → ParseOutcome UnitList
main_at tokens calls budget from =
    expect_key tokens keys.Main from
    (expect tokens marks.LeftParen (from + 1)
    (if is_key keys.Void (kind_at tokens (from + 2)) then main_block tokens calls budget (from + 3) else main_block tokens calls budget (from + 2)))

-- the program that the tokens are, of at most this height
unfoldable pub program_at : List Token → (budget : ℕ) → ParseOutcome UnitList
program_at tokens budget = expect_key tokens keys.Int 0 (main_at tokens Refused budget 1)
