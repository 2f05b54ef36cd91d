-- The parser of calls, under a budget of height.
use Rattle.std.specs.Prelude.{ℕ, zero, suc, ◌+◌, ◌-◌, max, Bool, false, Option, Some, None, List, [], ◌∷◌, length, if◌then◌else◌}
use Rattle.pc_lexer.specs.declared.token.Token.{Token}
use Rattle.pc_lexer.specs.declared.token.TokenKind.{TokenKind}
use Rattle.pc_lexer.specs.declared.mark.Mark.TheVariants as marks
use Rattle.pc_syntax.specs.declared.operator.BinaryOp.{BinaryOp}
use Rattle.pc_syntax.specs.declared.unit.Target.{Target}
use Rattle.pc_syntax.specs.Source.{SourceExpression}
use Rattle.pc_syntax.specs.Unit.{UnitStatement, Call}
use Rattle.pc_parser.specs.declared.calls.Calls.{Calls}
use Rattle.pc_parser.specs.declared.calls.Calls.TheVariants.{Allowed, Refused}
use Rattle.pc_parser.specs.Places.{kind_at, line_at}
use Rattle.pc_parser.specs.models.Tests.{is_mark, symbol_of}
use Rattle.pc_parser.specs.models.Outcome.{ParseOutcome, Parsed, Unreadable, after, allowed, expect}
use Rattle.pc_parser.specs.models.ExpressionParser.{expression_at}

-- whether a call may go on after an lvalue with this index, or stand after the mark that assigns to it by this operator: only a
-- lone name is called, or gets a call's value by `=`
unfoldable pub callable : Calls → Option BinaryOp → Option SourceExpression → Calls
callable calls None None = calls
callable calls (Some op) index = Refused
callable calls None (Some index) = Refused

-- whether a token opens the arguments of a call
unfoldable pub opens_call : Calls → Option TokenKind → Bool
opens_call Refused kind = false
opens_call Allowed kind = is_mark marks.LeftParen kind

-- a name that `(` follows
abbrev pub in_front_of_paren : Option ℕ → (next : Option TokenKind) → Option ℕ
in_front_of_paren (Some symbol) next = if is_mark marks.LeftParen next then Some symbol else None
in_front_of_paren None next = None

-- the symbol of the name that is called, where these two tokens begin a call
unfoldable pub called : Calls → (kind next : Option TokenKind) → Option ℕ
called Refused kind next = None
called Allowed kind next = in_front_of_paren (symbol_of kind) next

-- the place after this one where a name stands here, and else this one
abbrev pub behind_name : Option ℕ → (from : ℕ) → ℕ
behind_name (Some symbol) from = from + 1
behind_name None from = from

-- the place of the first token that shows that no call stands behind the `=` at a place, from the next place on, where this token is
unfoldable pub settled_at : Calls → Option TokenKind → (at from : ℕ) → ℕ
settled_at Refused kind at from = at
settled_at Allowed kind at from = behind_name (symbol_of kind) from

module _ (tokens : List Token) (budget : ℕ) where
  -- arguments up to a `)`, as many as there are turns
  unfoldable pub argument_list_at : (turns from : ℕ) → ParseOutcome (List SourceExpression)
  argument_list_at zero from = Unreadable from
  argument_list_at (suc turns) from = after (expression_at tokens budget 0 from) (λ tree height at.
      if is_mark marks.Comma (kind_at tokens at)
      then after (argument_list_at turns (at + 1)) (λ rest other to. Parsed (tree ∷ rest) (max height other) to)
      else expect tokens marks.RightParen at (Parsed (tree ∷ []) height (at + 1)))

  -- the arguments of a call, after its `(`
  unfoldable pub arguments_at : (from : ℕ) → ParseOutcome (List SourceExpression)
  arguments_at from =
      if is_mark marks.RightParen (kind_at tokens from) then Parsed [] 0 (from + 1)
      else argument_list_at (length tokens + 1) from

module _ (tokens : List Token) (budget : ℕ) where
  -- the call of a function, whose name's line is `at`, from behind its `(`
  unfoldable pub call_at : (line : ℕ) → Option Target → (function at from : ℕ) → ParseOutcome UnitStatement
  call_at line target function at from =
      after (arguments_at tokens (budget - 1) from) (λ arguments height to. Parsed (Call line target function at arguments) (height + 1) to)

  -- an expression, told to be too high at another place
  unfoldable pub value_at : (settled from : ℕ) → ParseOutcome SourceExpression
  value_at settled from = allowed 2 budget settled (expression_at tokens (budget - 1) 0 from)

  -- what stands behind a `=`: the call of this function, or an expression
  unfoldable pub value_or_call : Target → (settled from : ℕ) → (SourceExpression → (height to : ℕ) → ParseOutcome UnitStatement) → Option ℕ → ParseOutcome UnitStatement
  value_or_call target settled from rest (Some function) = call_at target.line (Some target) function (line_at tokens from) (from + 2)
  value_or_call target settled from rest None = after (value_at settled from) rest

  -- the same by the tokens there, where the `=` stands at a place
  unfoldable pub right_side_at : Calls → Target → (at from : ℕ) → (SourceExpression → (height to : ℕ) → ParseOutcome UnitStatement) → ParseOutcome UnitStatement
  right_side_at calls target at from rest = value_or_call target (settled_at calls (kind_at tokens from) at from) from rest (called calls (kind_at tokens from) (kind_at tokens (from + 1)))
