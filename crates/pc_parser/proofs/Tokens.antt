-- What the tests of tokens say.
use Rattle.std.proofs.Common.{◌≡◌, refl, ap, ◌∙◌, true}
use Rattle.std.specs.Prelude.{Option, Some, None}
use denote.Enum.Bare.{same_true, true_same}
use Rattle.pc_lexer.specs.declared.token.TokenKind.{TokenKind}
use Rattle.pc_lexer.specs.declared.token.TokenKind.TheVariants as kinds
use Rattle.pc_lexer.specs.declared.mark.Mark.{Mark}
use Rattle.pc_lexer.specs.declared.keyword.Keyword.{Keyword}
use Rattle.pc_lexer.specs.contracts.mark.Mark as of_marks
use Rattle.pc_lexer.specs.contracts.keyword.Keyword as of_keywords
use Rattle.pc_parser.specs.models.Tests.{is_mark, is_key, mark_is, key_is}

-- a mark is this mark where the test says so
pub mark_is-true : (found mark : Mark) → mark_is found mark ≡ true → found ≡ mark
mark_is-true found mark is = same_true of_marks.the_type tt found mark is

pub key_is-true : (found key : Keyword) → key_is found key ≡ true → found ≡ key
key_is-true found key is = same_true of_keywords.the_type tt found key is

pub mark_is-self : (mark : Mark) → mark_is mark mark ≡ true
mark_is-self mark = true_same of_marks.the_type mark mark refl

pub key_is-self : (key : Keyword) → key_is key key ≡ true
key_is-self key = true_same of_keywords.the_type key key refl

-- a token is this mark where the test says so, and the other way round
pub is_mark-true : (mark : Mark) (kind : Option TokenKind) → is_mark mark kind ≡ true → kind ≡ Some (kinds.Mark mark)
is_mark-true mark (Some (kinds.Mark found)) is = ap (λ m. Some (kinds.Mark m)) (mark_is-true found mark is)
is_mark-true mark (Some (kinds.Key found)) is = cc
is_mark-true mark (Some (kinds.Name symbol)) is = cc
is_mark-true mark (Some (kinds.Number value)) is = cc
is_mark-true mark None is = cc

pub is_key-true : (key : Keyword) (kind : Option TokenKind) → is_key key kind ≡ true → kind ≡ Some (kinds.Key key)
is_key-true key (Some (kinds.Key found)) is = ap (λ m. Some (kinds.Key m)) (key_is-true found key is)
is_key-true key (Some (kinds.Mark found)) is = cc
is_key-true key (Some (kinds.Name symbol)) is = cc
is_key-true key (Some (kinds.Number value)) is = cc
is_key-true key None is = cc

pub is_mark-of : (mark : Mark) (kind : Option TokenKind) → kind ≡ Some (kinds.Mark mark) → is_mark mark kind ≡ true
is_mark-of mark kind is = ap (is_mark mark) is ∙ mark_is-self mark

pub is_key-of : (key : Keyword) (kind : Option TokenKind) → kind ≡ Some (kinds.Key key) → is_key key kind ≡ true
is_key-of key kind is = ap (is_key key) is ∙ key_is-self key
