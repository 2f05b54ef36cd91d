-- Whether a token is a mark or a keyword, as the code tests it.
use Rattle.std.specs.Prelude.{ℕ, Bool, false, Option, Some, None}
use denote.Enum.Bare.{sameb}
use Rattle.pc_lexer.specs.declared.token.TokenKind.{TokenKind}
use Rattle.pc_lexer.specs.declared.token.TokenKind.TheVariants as kinds
use Rattle.pc_lexer.specs.declared.mark.Mark.{Mark}
use Rattle.pc_lexer.specs.declared.keyword.Keyword.{Keyword}
use Rattle.pc_lexer.specs.contracts.mark.Mark as of_marks
use Rattle.pc_lexer.specs.contracts.keyword.Keyword as of_keywords

-- whether two marks are one
abbrev pub mark_is : Mark → Mark → Bool
mark_is one other = sameb of_marks.the_type one other

-- whether two keywords are one
abbrev pub key_is : Keyword → Keyword → Bool
key_is one other = sameb of_keywords.the_type one other

-- whether a token is this mark
abbrev pub is_mark : Mark → Option TokenKind → Bool
is_mark mark (Some (kinds.Mark found)) = mark_is found mark
is_mark mark (Some (kinds.Key found)) = false
is_mark mark (Some (kinds.Name symbol)) = false
is_mark mark (Some (kinds.Number value)) = false
is_mark mark None = false

-- whether a token is this keyword
abbrev pub is_key : Keyword → Option TokenKind → Bool
is_key key (Some (kinds.Key found)) = key_is found key
is_key key (Some (kinds.Mark found)) = false
is_key key (Some (kinds.Name symbol)) = false
is_key key (Some (kinds.Number value)) = false
is_key key None = false

-- the symbol of a name
unfoldable pub symbol_of : Option TokenKind → Option ℕ
symbol_of (Some (kinds.Name symbol)) = Some symbol
symbol_of (Some (kinds.Number value)) = None
symbol_of (Some (kinds.Key key)) = None
symbol_of (Some (kinds.Mark mark)) = None
symbol_of None = None
