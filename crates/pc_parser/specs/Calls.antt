-- How the tokens of a list are read as calls, with the places and the heights of `Expressions`. The height of arguments is that
-- of the highest one, and 0 where there is none.
use Rattle.std.specs.Prelude.{ℕ, ◌+◌, max, List, [], ◌∷◌}
use Rattle.pc_lexer.specs.declared.token.Token.{Token}
use Rattle.pc_lexer.specs.declared.mark.Mark.TheVariants as marks
use Rattle.pc_syntax.specs.Source.{SourceExpression}
use Rattle.pc_parser.specs.Expressions.{HasMark, HasName, ReadsExpression}

-- expr {`,` expr} `)`
pub data ReadsArgumentList (tokens : List Token) : (from : ℕ) → (trees : List SourceExpression) → (height to : ℕ) → Type 0 where
  last : {from height q : ℕ} {tree : SourceExpression} →
      ReadsExpression tokens from tree height q →
      HasMark tokens q marks.RightParen →
      ReadsArgumentList tokens from (tree ∷ []) height (q + 1)
  comma : {from i q j to : ℕ} {tree : SourceExpression} {rest : List SourceExpression} →
      ReadsExpression tokens from tree i q →
      HasMark tokens q marks.Comma →
      ReadsArgumentList tokens (q + 1) rest j to →
      ReadsArgumentList tokens from (tree ∷ rest) (max i j) to

-- [expr {`,` expr}] `)`
pub data ReadsArguments (tokens : List Token) : (from : ℕ) → (trees : List SourceExpression) → (height to : ℕ) → Type 0 where
  none : {from : ℕ} →
      HasMark tokens from marks.RightParen →
      ReadsArguments tokens from [] 0 (from + 1)
  some : {from height to : ℕ} {trees : List SourceExpression} →
      ReadsArgumentList tokens from trees height to →
      ReadsArguments tokens from trees height to

-- call: name `(` [expr {`,` expr}] `)`
pub data ReadsCall (tokens : List Token) : (from : ℕ) → (function : ℕ) → (trees : List SourceExpression) → (height to : ℕ) → Type 0 where
  call : {from function height to : ℕ} {trees : List SourceExpression} →
      HasName tokens from function →
      HasMark tokens (from + 1) marks.LeftParen →
      ReadsArguments tokens (from + 2) trees height to →
      ReadsCall tokens from function trees height to
