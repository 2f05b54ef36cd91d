-- What the functions under `tokens` keep from one piece to the next. The definition of the tokens needs none of this.
use Rattle.std.specs.Prelude.{ℕ, ◌≤◌, List, [], ◌∷◌, ◌++◌, Option, Some, None, length, map}
use Rattle.std.specs.Borrow.{Bor}
use Rattle.pc_word.specs.SourceLimits.{most_tokens}
use Rattle.pc_lexer.specs.declared.token.Token.{Token}
use Rattle.pc_lexer.specs.declared.token.TokenKind.{TokenKind}
use Rattle.pc_lexer.specs.declared.error.LexError.{LexError}
use Rattle.pc_lexer.specs.declared.error.LexError.TheVariants as error

-- the token that a piece in a line is, if it is one, after others
abbrev pub with_token : List Token → Option TokenKind → ℕ → List Token
with_token tokens None line = tokens
with_token tokens (Some kind) line = tokens ++ record { kind = kind; line = line } ∷ []

-- why a piece is not appended to tokens: memory ran out, or it is a token and they are too many
abbrev pub RefusesToken : List Token → Option TokenKind → LexError → Type 0
RefusesToken tokens kind error.Memory = Unit {0}
RefusesToken tokens (Some kind) error.TooManyTokens = most_tokens ≤ length tokens
RefusesToken tokens kind _ = ⊥

-- the names in a set of slices, in order
abbrev pub spellings : List (Bor (List ℕ)) → List (List ℕ)
spellings names = map (λ name. name.now) names
