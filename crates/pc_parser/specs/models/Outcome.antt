-- What a parser gives: a tree, with its height and the place after it, or why there is none.
use Rattle.std.specs.Prelude.{ℕ, nat_le, List, if◌then◌else◌}
use Rattle.pc_lexer.specs.declared.token.Token.{Token}
use Rattle.pc_lexer.specs.declared.mark.Mark.{Mark}
use Rattle.pc_lexer.specs.declared.keyword.Keyword.{Keyword}
use Rattle.pc_parser.specs.Places.{kind_at}
use Rattle.pc_parser.specs.models.Tests.{is_mark, is_key}

pub data ParseOutcome (A : Type 0) : Type 0 where
  -- a tree of this height, read up to this place
  Parsed : (tree : A) → (height to : ℕ) → ParseOutcome A
  -- the token at this place goes on with nothing that can be read
  Unreadable : (at : ℕ) → ParseOutcome A
  -- what goes on from the token at this place is higher than is allowed
  TooHigh : (at : ℕ) → ParseOutcome A

-- first the one parser, and then the other from the place where the first stopped
abbrev pub after : {A B : Type 0} → ParseOutcome A → (A → ℕ → ℕ → ParseOutcome B) → ParseOutcome B
after (Parsed tree height to) next = next tree height to
after (Unreadable at) next = Unreadable at
after (TooHigh at) next = TooHigh at

-- what follows, where the least height that it can have is allowed
abbrev pub allowed : {A : Type 0} → (least budget at : ℕ) → ParseOutcome A → ParseOutcome A
allowed least budget at rest = if nat_le least budget then rest else TooHigh at

-- what follows a mark
abbrev pub expect : {A : Type 0} → List Token → Mark → (at : ℕ) → ParseOutcome A → ParseOutcome A
expect tokens mark at rest = if is_mark mark (kind_at tokens at) then rest else Unreadable at

-- what follows a keyword
abbrev pub expect_key : {A : Type 0} → List Token → Keyword → (at : ℕ) → ParseOutcome A → ParseOutcome A
expect_key tokens key at rest = if is_key key (kind_at tokens at) then rest else Unreadable at
