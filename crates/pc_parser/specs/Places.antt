-- The tokens of a list by their places, counted from 0.
use Rattle.std.specs.Prelude.{ℕ, Option, option_map, unwrap_or, List, slice_get}
use Rattle.pc_lexer.specs.declared.token.Token.{Token}
use Rattle.pc_lexer.specs.declared.token.TokenKind.{TokenKind}

-- what the token at a place is, where there is one
unfoldable pub kind_at : List Token → ℕ → Option TokenKind
kind_at tokens place = option_map (λ token. token.kind) (slice_get tokens place)

-- the line of the token at a place, and 0 where there is none
unfoldable pub line_at : List Token → ℕ → ℕ
line_at tokens place = unwrap_or (option_map (λ token. token.line) (slice_get tokens place)) 0
