-- The tokens of a text, or its first fault.
use Rattle.std.specs.Prelude.{ℕ, ◌+◌, List, [], ◌∷◌, ◌++◌, Option, Some, None, Result, Ok, Err, nat_lt, bytes_eq, if◌then◌else◌, length}
use Rattle.std.specs.List.{list_any, position_or_len}
use Rattle.pc_word.specs.SourceLimits.{most_tokens}
use Rattle.pc_lexer.specs.Spelling.{keyword_of}
use Rattle.pc_lexer.specs.Cut.{Cut, Done, Next, Stuck, line_behind, pieces_of}
use Rattle.pc_lexer.specs.declared.keyword.Keyword.{Keyword}
use Rattle.pc_lexer.specs.declared.piece.Shape.{Shape}
use Rattle.pc_lexer.specs.declared.piece.Shape.TheVariants as shape
use Rattle.pc_lexer.specs.declared.piece.Trouble.{Trouble}
use Rattle.pc_lexer.specs.declared.piece.Trouble.TheVariants as trouble
use Rattle.pc_lexer.specs.declared.token.Token.{Token}
use Rattle.pc_lexer.specs.declared.token.TokenKind.{TokenKind}
use Rattle.pc_lexer.specs.declared.token.TokenKind.TheVariants as kind
use Rattle.pc_lexer.specs.declared.error.LexError.{LexError}
use Rattle.pc_lexer.specs.declared.error.LexError.TheVariants as error

-- a name's symbol: its place among the names in the order of first use, where a new one goes last
abbrev pub symbol_of : List (List ℕ) → List ℕ → ℕ
symbol_of names name = position_or_len (bytes_eq name) names

-- the names in the order of first use, once this one is used
abbrev pub names_with : List (List ℕ) → List ℕ → List (List ℕ)
names_with names name = if list_any (bytes_eq name) names then names else names ++ name ∷ []

-- a word is a keyword if it spells one, else a name
abbrev pub word_kind : List (List ℕ) → List ℕ → Option Keyword → TokenKind
word_kind names word (Some key) = kind.Key key
word_kind names word None = kind.Name (symbol_of names word)

-- the names used once a word is read
abbrev pub names_after_word : List (List ℕ) → List ℕ → Option Keyword → List (List ℕ)
names_after_word names word (Some key) = names
names_after_word names word None = names_with names word

-- what token a piece is, if it is one
unfoldable pub kind_of : List (List ℕ) → List ℕ → Shape → Option TokenKind
kind_of names spelling shape.Blank = None
kind_of names spelling shape.Comment = None
kind_of names spelling shape.Skipped = None
kind_of names spelling shape.Word = Some (word_kind names spelling (keyword_of spelling))
kind_of names spelling (shape.Number value) = Some (kind.Number value)
kind_of names spelling (shape.Mark mark) = Some (kind.Mark mark)

-- the names used once a piece is read
unfoldable pub names_after_piece : List (List ℕ) → List ℕ → Shape → List (List ℕ)
names_after_piece names spelling shape.Word = names_after_word names spelling (keyword_of spelling)
names_after_piece names spelling _ = names

-- the fault where no piece begins after these bytes
abbrev pub fault_behind : Trouble → List ℕ → LexError
fault_behind trouble.NoPiece before = error.BadByte (length before)
fault_behind trouble.Misspelt before = error.BadLiteral (line_behind before)
fault_behind trouble.OpenComment before = error.OpenComment (line_behind before)

-- whether a fault stands also where no more token may follow: only a comment that stays open does
abbrev pub fault_at : ℕ → Trouble → List ℕ → LexError
fault_at count trouble.OpenComment before = fault_behind trouble.OpenComment before
fault_at count why before = if nat_lt count most_tokens then fault_behind why before else error.TooManyTokens

-- a token before others
abbrev pub token_before : Token → Result (List Token) LexError → Result (List Token) LexError
token_before token (Ok tokens) = Ok (token ∷ tokens)
token_before token (Err fault) = Err fault

-- the tokens of pieces, after `count` others in which `names` were used, or the first fault
unfoldable pub read : ℕ → List (List ℕ) → Cut → Result (List Token) LexError
read count names Done = Ok []
read count names (Stuck before rest why) = Err (fault_at count why before)
read count names (Next before spelling shape others) =
    elim (kind_of names spelling shape) [
      | None ↦ read count names others
      | Some kind ↦ if nat_lt count most_tokens
          then token_before (record { kind = kind; line = line_behind before }) (read (count + 1) (names_after_piece names spelling shape) others)
          else Err error.TooManyTokens
    ]

-- the tokens of a text, or its first fault
abbrev pub lexed : List ℕ → Result (List Token) LexError
lexed text = read 0 [] (pieces_of text)

-- the names used once the pieces of a cut are read
unfoldable pub names_after_cut : List (List ℕ) → Cut → List (List ℕ)
names_after_cut names Done = names
names_after_cut names (Next before spelling shape others) = names_after_cut (names_after_piece names spelling shape) others
names_after_cut names (Stuck before rest why) = names

-- the names that a text uses, each once, in the order of first use
abbrev pub names_of_text : List ℕ → List (List ℕ)
names_of_text text = names_after_cut [] (pieces_of text)

-- an error is its own cause, but for want of memory, which has none
abbrev pub lex_cause : LexError → Option LexError
lex_cause error.Memory = None
lex_cause fault = Some fault
