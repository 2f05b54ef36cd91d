-- The parser of expressions: precedence climbing, under a budget of height. `inner` is the parser with
-- a budget that is one less, of what stands at a level from a place on; level 0 is the whole expression.
use Rattle.std.specs.Prelude.{ℕ, ℤ, zero, suc, ◌+◌, max, nat_le, Option, Some, None, List, if◌then◌else◌}
use Rattle.pc_lexer.specs.declared.token.Token.{Token}
use Rattle.pc_lexer.specs.declared.token.TokenKind.{TokenKind}
use Rattle.pc_lexer.specs.declared.token.TokenKind.TheVariants as kinds
use Rattle.pc_lexer.specs.declared.mark.Mark.TheVariants as marks
use Rattle.pc_lexer.specs.declared.keyword.Keyword.TheVariants as keys
use Rattle.pc_syntax.specs.declared.operator.UnaryOp.{UnaryOp}
use Rattle.pc_syntax.specs.Source.{SourceExpression, Literal, Variable, Input, Indexed, Conditional}
use Rattle.pc_parser.specs.declared.operator.Operator.{Operator}
use Rattle.pc_parser.specs.Places.{kind_at, line_at}
use Rattle.pc_parser.specs.models.Tests.{is_mark, mark_is, key_is}
use Rattle.pc_parser.specs.Operators.{operator_of, prefix_of, infixed, prefixed}
use Rattle.pc_parser.specs.Statements.{Lvalue}
use Rattle.pc_parser.specs.models.Outcome.{ParseOutcome, Parsed, Unreadable, TooHigh, after, allowed, expect}

-- the operator that a mark stands for, where its level is this one or a tighter one
abbrev pub tight : ℕ → Option (Operator × ℕ) → Option (Operator × ℕ)
tight level None = None
tight level (Some found) = if nat_le level found.1 then Some found else None

-- the same of a token
unfoldable pub operator_from : ℕ → Option TokenKind → Option (Operator × ℕ)
operator_from level (Some (kinds.Mark mark)) = tight level (operator_of mark)
operator_from level (Some (kinds.Key key)) = None
operator_from level (Some (kinds.Name symbol)) = None
operator_from level (Some (kinds.Number value)) = None
operator_from level None = None

-- the unary operator that a token stands for
unfoldable pub sign_of : Option TokenKind → Option (Option UnaryOp)
sign_of (Some (kinds.Mark mark)) = prefix_of mark
sign_of (Some (kinds.Key key)) = None
sign_of (Some (kinds.Name symbol)) = None
sign_of (Some (kinds.Number value)) = None
sign_of None = None

-- an lvalue as an expression
abbrev pub indexed : Lvalue → Option SourceExpression → SourceExpression
indexed lvalue None = Variable lvalue.symbol lvalue.line
indexed lvalue (Some index) = Indexed lvalue.symbol lvalue.line lvalue.bracket index

abbrev pub lvalue_tree : Lvalue → SourceExpression
lvalue_tree lvalue = indexed lvalue lvalue.index

-- the height of an lvalue as an expression
abbrev pub at_least_one : ℕ → Option SourceExpression → ℕ
at_least_one height None = 1
at_least_one height (Some index) = height

abbrev pub lvalue_height : Lvalue → ℕ → ℕ
lvalue_height lvalue height = at_least_one height lvalue.index

-- a parser of what stands at a level from a place on
abbrev pub Inner : Type 0
Inner = (level from : ℕ) → ParseOutcome SourceExpression

module _ (tokens : List Token) (inner : Inner) (budget : ℕ) where
  -- the lvalue at the name with this symbol
  unfoldable pub lvalue_named : (symbol from : ℕ) → ParseOutcome Lvalue
  lvalue_named symbol from =
      if is_mark marks.LeftBracket (kind_at tokens (from + 1))
      then allowed 2 budget (from + 1) (after (inner 0 (from + 2)) (λ index height to.
      expect tokens marks.RightBracket to (Parsed record { symbol = symbol; line = line_at tokens from; index = Some index; bracket = line_at tokens (from + 1) } (height + 1) (to + 1))))
      else Parsed record { symbol = symbol; line = line_at tokens from; index = None; bracket = line_at tokens from } 0 (from + 1)

  -- the expression in parentheses
  unfoldable pub grouped : (from : ℕ) → ParseOutcome SourceExpression
  grouped from = allowed 2 budget from (after (inner 0 (from + 1)) (λ tree height to.
      expect tokens marks.RightParen to (Parsed tree (height + 1) (to + 1))))

  -- `read()`
  unfoldable pub input : (from : ℕ) → ParseOutcome SourceExpression
  input from = allowed 1 budget from
      (expect tokens marks.LeftParen (from + 1)
      (expect tokens marks.RightParen (from + 2)
      (Parsed (Input (line_at tokens from)) 1 (from + 3))))

  -- a number
  unfoldable pub literal_at : (value : ℤ) → (from : ℕ) → ParseOutcome SourceExpression
  literal_at value from = allowed 1 budget from (Parsed (Literal value) 1 (from + 1))

  -- a name, or an element of the array with the name
  unfoldable pub name_at : (symbol from : ℕ) → ParseOutcome SourceExpression
  name_at symbol from = allowed 1 budget from (after (lvalue_named symbol from) (λ lvalue height to.
      Parsed (lvalue_tree lvalue) (lvalue_height lvalue height) to))

  -- the primary expression that begins with this token
  unfoldable pub primary_on : Option TokenKind → (from : ℕ) → ParseOutcome SourceExpression
  primary_on (Some (kinds.Number value)) from = literal_at value from
  primary_on (Some (kinds.Name symbol)) from = name_at symbol from
  primary_on (Some (kinds.Key key)) from = if key_is key keys.Read then input from else Unreadable from
  primary_on (Some (kinds.Mark mark)) from = if mark_is mark marks.LeftParen then grouped from else Unreadable from
  primary_on None from = Unreadable from

  -- the operand under a unary operator
  unfoldable pub signed : Option UnaryOp → (from : ℕ) → ParseOutcome SourceExpression
  signed sign from = allowed 2 budget from (after (inner 11 (from + 1)) (λ tree height to.
      Parsed (prefixed sign tree) (height + 1) to))

  -- the unary or primary expression at a place
  unfoldable pub unary_on : Option (Option UnaryOp) → (from : ℕ) → ParseOutcome SourceExpression
  unary_on (Some sign) from = signed sign from
  unary_on None from = primary_on (kind_at tokens from) from

  unfoldable pub unary_at : (from : ℕ) → ParseOutcome SourceExpression
  unary_at from = unary_on (sign_of (kind_at tokens from)) from

  -- an operand, where no operator follows for which there is a turn
  unfoldable pub last_turn : SourceExpression → (height at : ℕ) → Option (Operator × ℕ) → ParseOutcome SourceExpression
  last_turn left height at None = Parsed left height at
  last_turn left height at (Some found) = TooHigh at

  -- an operand joined by an operator to the operand after it
  unfoldable pub infixed_at : SourceExpression → (height at : ℕ) → Operator × ℕ → ParseOutcome SourceExpression
  infixed_at left height at found = allowed (height + 1) budget at (after (inner (found.1 + 1) (at + 1)) (λ right other to.
      Parsed (infixed found.0 (line_at tokens at) left right) (max height other + 1) to))

  -- an operand, and where an operator follows, what goes on after the two that it joins
  unfoldable pub turn : (SourceExpression → (height at : ℕ) → ParseOutcome SourceExpression) →
      SourceExpression → (height at : ℕ) → Option (Operator × ℕ) → ParseOutcome SourceExpression
  turn next left height at None = Parsed left height at
  turn next left height at (Some found) = after (infixed_at left height at found) next

  -- an operand with the operators of a level or a tighter one that follow it, as many as there are turns
  unfoldable pub climb : (level turns : ℕ) → SourceExpression → (height at : ℕ) → ParseOutcome SourceExpression
  climb level zero left height at = last_turn left height at (operator_from level (kind_at tokens at))
  climb level (suc turns) left height at = turn (climb level turns) left height at (operator_from level (kind_at tokens at))

  -- the rest of `?:` after its test, where it follows
  unfoldable pub choice : SourceExpression → (height at : ℕ) → ParseOutcome SourceExpression
  choice test height at =
      if is_mark marks.Question (kind_at tokens at)
      then allowed (height + 1) budget at (after (inner 0 (at + 1)) (λ one i q.
      expect tokens marks.Colon q (after (inner 0 (q + 1)) (λ other j to.
      Parsed (Conditional test one other) (max height (max i j) + 1) to))))
      else Parsed test height at

  -- the operand of a level at a place
  unfoldable pub operand : (level from : ℕ) → ParseOutcome SourceExpression
  operand level from = after (unary_at from) (λ tree height to. climb level budget tree height to)

  -- what stands at a level at a place
  unfoldable pub part : (level from : ℕ) → ParseOutcome SourceExpression
  part zero from = after (operand 1 from) choice
  part (suc level) from = operand (suc level) from

-- the expression at a place, of at most this height
unfoldable pub expression_at : List Token → (budget level from : ℕ) → ParseOutcome SourceExpression
expression_at tokens zero = part tokens (λ level from. TooHigh from) 0
expression_at tokens (suc budget) = part tokens (expression_at tokens budget) (suc budget)

-- the same with a budget that is one less
unfoldable pub below : List Token → (budget : ℕ) → Inner
below tokens zero = λ level from. TooHigh from
below tokens (suc budget) = expression_at tokens budget
