-- How the tokens of a list are read as expressions: one case a rule. `from` is the place of the first
-- token, `to` the place after the last. The height is measured on the text: a number, a name and
-- `read()` have 1, and parentheses, an index, an operator and `?:` one more than their highest part.
use Rattle.std.specs.Prelude.{◌≡◌, ℕ, ℤ, ◌+◌, max, Option, Some, List}
use Rattle.pc_lexer.specs.declared.token.Token.{Token}
use Rattle.pc_lexer.specs.declared.token.TokenKind.TheVariants as kinds
use Rattle.pc_lexer.specs.declared.mark.Mark.{Mark}
use Rattle.pc_lexer.specs.declared.mark.Mark.TheVariants as marks
use Rattle.pc_lexer.specs.declared.keyword.Keyword.TheVariants as keys
use Rattle.pc_syntax.specs.declared.operator.UnaryOp.{UnaryOp}
use Rattle.pc_syntax.specs.Source.{SourceExpression, Literal, Variable, Input, Indexed, Conditional}
use Rattle.pc_parser.specs.declared.operator.Operator.{Operator}
use Rattle.pc_parser.specs.Places.{kind_at, line_at}
use Rattle.pc_parser.specs.Operators.{operator_of, prefix_of, infixed, prefixed}

-- the token at a place is this mark
abbrev pub HasMark : List Token → ℕ → Mark → Type 0
HasMark tokens place mark = kind_at tokens place ≡ Some (kinds.Mark mark)

-- the token at a place is the name with this symbol
abbrev pub HasName : List Token → ℕ → ℕ → Type 0
HasName tokens place symbol = kind_at tokens place ≡ Some (kinds.Name symbol)

-- the token at a place is a number of this value
abbrev pub HasNumber : List Token → ℕ → ℤ → Type 0
HasNumber tokens place value = kind_at tokens place ≡ Some (kinds.Number value)

mutual
  -- expr: or-expr [`?` expr `:` expr]
  pub data ReadsExpression (tokens : List Token) : (from : ℕ) → (tree : SourceExpression) → (height to : ℕ) → Type 0 where
    plain : {from height to : ℕ} {tree : SourceExpression} →
        ReadsLevel tokens 1 from tree height to →
        ReadsExpression tokens from tree height to
    choice : {from i q j r k to : ℕ} {test one other : SourceExpression} →
        ReadsLevel tokens 1 from test i q →
        HasMark tokens q marks.Question →
        ReadsExpression tokens (q + 1) one j r →
        HasMark tokens r marks.Colon →
        ReadsExpression tokens (r + 1) other k to →
        ReadsExpression tokens from (Conditional test one other) (max i (max j k) + 1) to

  -- a binary level, from 1, the loosest, to 10; level 11 is unary. A level is a tighter level, or the
  -- same level, one of its marks and a tighter level
  pub data ReadsLevel (tokens : List Token) : (level : ℕ) → (from : ℕ) → (tree : SourceExpression) → (height to : ℕ) → Type 0 where
    unary : {from height to : ℕ} {tree : SourceExpression} →
        ReadsUnary tokens from tree height to →
        ReadsLevel tokens 11 from tree height to
    tighter : {level from height to : ℕ} {tree : SourceExpression} →
        ReadsLevel tokens (level + 1) from tree height to →
        ReadsLevel tokens level from tree height to
    binary : {level from i q j to : ℕ} {left right : SourceExpression} {mark : Mark} {operator : Operator} →
        ReadsLevel tokens level from left i q →
        HasMark tokens q mark →
        operator_of mark ≡ Some (operator, level) →
        ReadsLevel tokens (level + 1) (q + 1) right j to →
        ReadsLevel tokens level from (infixed operator (line_at tokens q) left right) (max i j + 1) to

  -- unary: primary, or one of `-` `+` `~` `!` and unary
  pub data ReadsUnary (tokens : List Token) : (from : ℕ) → (tree : SourceExpression) → (height to : ℕ) → Type 0 where
    primary : {from height to : ℕ} {tree : SourceExpression} →
        ReadsPrimary tokens from tree height to →
        ReadsUnary tokens from tree height to
    signed : {from height to : ℕ} {tree : SourceExpression} {mark : Mark} {sign : Option UnaryOp} →
        HasMark tokens from mark →
        prefix_of mark ≡ Some sign →
        ReadsUnary tokens (from + 1) tree height to →
        ReadsUnary tokens from (prefixed sign tree) (height + 1) to

  -- primary: number; name; name `[` expr `]`; `read` `(` `)`; `(` expr `)`
  pub data ReadsPrimary (tokens : List Token) : (from : ℕ) → (tree : SourceExpression) → (height to : ℕ) → Type 0 where
    number : {from : ℕ} {value : ℤ} →
        HasNumber tokens from value →
        ReadsPrimary tokens from (Literal value) 1 (from + 1)
    name : {from symbol : ℕ} →
        HasName tokens from symbol →
        ReadsPrimary tokens from (Variable symbol (line_at tokens from)) 1 (from + 1)
    element : {from symbol height q : ℕ} {index : SourceExpression} →
        HasName tokens from symbol →
        HasMark tokens (from + 1) marks.LeftBracket →
        ReadsExpression tokens (from + 2) index height q →
        HasMark tokens q marks.RightBracket →
        ReadsPrimary tokens from (Indexed symbol (line_at tokens from) (line_at tokens (from + 1)) index) (height + 1) (q + 1)
    input : {from : ℕ} →
        kind_at tokens from ≡ Some (kinds.Key keys.Read) →
        HasMark tokens (from + 1) marks.LeftParen →
        HasMark tokens (from + 2) marks.RightParen →
        ReadsPrimary tokens from (Input (line_at tokens from)) 1 (from + 3)
    grouped : {from height q : ℕ} {tree : SourceExpression} →
        HasMark tokens from marks.LeftParen →
        ReadsExpression tokens (from + 1) tree height q →
        HasMark tokens q marks.RightParen →
        ReadsPrimary tokens from tree (height + 1) (q + 1)
