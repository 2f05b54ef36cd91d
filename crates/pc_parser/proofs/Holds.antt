-- What a parser gives is what the grammar reads: a tree with its height, or a place among the tokens.
use Rattle.std.proofs.Common.{◌≡◌, refl, sym, ap, ◌∙◌, subst, ℕ, zero, suc, ◌+◌, ◌-◌, ◌<◌, ◌≤◌, Bool, true, false, List, length, arith, cond}
use Rattle.std.specs.Prelude.{Option, Some, None, nat_le}
use Rattle.std.proofs.lemmas.Bool.{leb-true}
use Rattle.std.proofs.lemmas.Bool.Decides.{nat_tests}
use Rattle.pc_lexer.specs.declared.token.Token.{Token}
use Rattle.pc_lexer.specs.declared.token.TokenKind.{TokenKind}
use Rattle.pc_lexer.specs.declared.token.TokenKind.TheVariants as kinds
use Rattle.pc_lexer.specs.declared.mark.Mark.{Mark}
use Rattle.pc_lexer.specs.declared.mark.Mark.TheVariants as marks
use Rattle.pc_lexer.specs.declared.keyword.Keyword.{Keyword}
use Rattle.pc_syntax.specs.Source.{SourceExpression}
use Rattle.pc_parser.specs.declared.operator.Operator.{Operator}
use Rattle.pc_parser.specs.Places.{kind_at}
use Rattle.pc_parser.specs.models.Tests.{is_mark, is_key}
use Rattle.pc_parser.specs.Operators.{operator_of}
use Rattle.pc_parser.specs.Expressions.{ReadsLevel}
use Rattle.pc_parser.specs.models.Outcome.{ParseOutcome, Parsed, Unreadable, TooHigh, after, allowed, expect, expect_key}
use Rattle.pc_parser.specs.models.ExpressionParser.{operator_from, tight}
use Rattle.pc_parser.proofs.Tokens.{is_mark-true, is_key-true}
use Rattle.pc_parser.proofs.Onward.{inside}

-- An outcome is good: a tree has the property, a place is among the tokens, and what is too high comes late.
abbrev pub Good : {A : Type 0} → (most late : ℕ) → (A → ℕ → ℕ → Type 0) → ParseOutcome A → Type 0
Good most late P (Parsed tree height to) = P tree height to
Good most late P (Unreadable at) = at ≤ most
Good most late P (TooHigh at) = (late ≤ at + 2) × (at ≤ most)

module _ (most : ℕ) where
  -- one parser after another
  pub after-good : {A B : Type 0} (late later : ℕ) (Q : A → ℕ → ℕ → Type 0) (P : B → ℕ → ℕ → Type 0) (x : ParseOutcome A) (f : A → ℕ → ℕ → ParseOutcome B) → late ≤ later → Good most later Q x →
      ((tree : A) (height to : ℕ) → Q tree height to → Good most late P (f tree height to)) → Good most late P (after x f)
  after-good late later Q P (Parsed tree height to) f le good each = each tree height to good
  after-good late later Q P (Unreadable at) f le good each = good
  after-good late later Q P (TooHigh at) f le good each = let a = good.0 in (omega arith, good.1)

  pub cond-good : {A : Type 0} (late : ℕ) (P : A → ℕ → ℕ → Type 0) (t : Bool) (x y : ParseOutcome A) → (t ≡ true → Good most late P x) →
      (t ≡ false → Good most late P y) → Good most late P (cond t x y)
  cond-good late P true x y one other = one refl
  cond-good late P false x y one other = other refl

  -- what is allowed
  pub allowed-good : {A : Type 0} (late least budget at : ℕ) (P : A → ℕ → ℕ → Type 0) (x : ParseOutcome A) → (budget < least → late ≤ at + 2) → at ≤ most →
      (least ≤ budget → Good most late P x) → Good most late P (allowed least budget at x)
  allowed-good late least budget at P x lateness inside' rest =
      cond-good late P (nat_le least budget) x (TooHigh at) (λ yes'. rest (leb-true least budget yes')) (λ no'. (lateness (grind (arith, nat_tests)), inside'))

module _ (tokens : List Token) where
  -- what follows a mark
  pub expect-good : {A : Type 0} (late : ℕ) (mark : Mark) (at : ℕ) (P : A → ℕ → ℕ → Type 0) (x : ParseOutcome A) → at ≤ length tokens →
      (kind_at tokens at ≡ Some (kinds.Mark mark) → at < length tokens → Good (length tokens) late P x) → Good (length tokens) late P (expect tokens mark at x)
  expect-good late mark at P x inside' rest = cond-good (length tokens) late P (is_mark mark (kind_at tokens at)) x (Unreadable at)
      (λ yes'. let is = is_mark-true mark (kind_at tokens at) yes' in rest is (inside tokens at _ is)) (λ no'. inside')

  pub expect_key-good : {A : Type 0} (late : ℕ) (key : Keyword) (at : ℕ) (P : A → ℕ → ℕ → Type 0) (x : ParseOutcome A) → at ≤ length tokens →
      (kind_at tokens at ≡ Some (kinds.Key key) → at < length tokens → Good (length tokens) late P x) → Good (length tokens) late P (expect_key tokens key at x)
  expect_key-good late key at P x inside' rest = cond-good (length tokens) late P (is_key key (kind_at tokens at)) x (Unreadable at)
      (λ yes'. let is = is_key-true key (kind_at tokens at) yes' in rest is (inside tokens at _ is)) (λ no'. inside')

  -- a test of a mark or a keyword
  pub on_mark-good : {A : Type 0} (late : ℕ) (mark : Mark) (at : ℕ) (P : A → ℕ → ℕ → Type 0) (x y : ParseOutcome A) →
      (kind_at tokens at ≡ Some (kinds.Mark mark) → at < length tokens → Good (length tokens) late P x) → (is_mark mark (kind_at tokens at) ≡ false → Good (length tokens) late P y) →
      Good (length tokens) late P (cond (is_mark mark (kind_at tokens at)) x y)
  on_mark-good late mark at P x y one other = cond-good (length tokens) late P (is_mark mark (kind_at tokens at)) x y
      (λ yes'. let is = is_mark-true mark (kind_at tokens at) yes' in one is (inside tokens at _ is)) other

  pub on_key-good : {A : Type 0} (late : ℕ) (key : Keyword) (at : ℕ) (P : A → ℕ → ℕ → Type 0) (x y : ParseOutcome A) →
      (kind_at tokens at ≡ Some (kinds.Key key) → at < length tokens → Good (length tokens) late P x) → (is_key key (kind_at tokens at) ≡ false → Good (length tokens) late P y) →
      Good (length tokens) late P (cond (is_key key (kind_at tokens at)) x y)
  on_key-good late key at P x y one other = cond-good (length tokens) late P (is_key key (kind_at tokens at)) x y
      (λ yes'. let is = is_key-true key (kind_at tokens at) yes' in one is (inside tokens at _ is)) other

-- no operator has a level above 10
pub rank-most : (mark : Mark) (found : Operator × ℕ) → operator_of mark ≡ Some found → found.1 ≤ 10
unfolding operator_of
rank-most mark found is = by (operator_of mark) (all mark) is
  where
    most : Option (Operator × ℕ) → Type 0
    most None = Unit {0}
    most (Some f) = f.1 ≤ 10

    all : (mark : Mark) → most (operator_of mark)
    all marks.OrOr = omega arith
    all marks.AndAnd = omega arith
    all marks.Or = omega arith
    all marks.Xor = omega arith
    all marks.And = omega arith
    all marks.EqualEqual = omega arith
    all marks.NotEqual = omega arith
    all marks.Less = omega arith
    all marks.LessEqual = omega arith
    all marks.Greater = omega arith
    all marks.GreaterEqual = omega arith
    all marks.ShiftLeft = omega arith
    all marks.ShiftRight = omega arith
    all marks.Plus = omega arith
    all marks.Minus = omega arith
    all marks.Star = omega arith
    all marks.Slash = omega arith
    all marks.Percent = omega arith
    all mark = tt

    by : (o : Option (Operator × ℕ)) → most o → o ≡ Some found → found.1 ≤ 10
    by None m e = cc
    by (Some f) m e = let same : f ≡ found = cc in subst (λ (x : Operator × ℕ). x.1 ≤ 10) same m

-- what a found operator is
pub record Found (level : ℕ) (kind : Option TokenKind) (found : Operator × ℕ) : Type 0 where
  pub mark : Mark
  pub is : kind ≡ Some (kinds.Mark mark)
  pub operator : operator_of mark ≡ Some found
  pub above : level ≤ found.1
  pub low : found.1 ≤ 10

tight-found : (level : ℕ) (o : Option (Operator × ℕ)) (found : Operator × ℕ) → tight level o ≡ Some found → (o ≡ Some found) × (level ≤ found.1)
tight-found level None found is = cc
tight-found level (Some f) found is = by (nat_le level f.1) refl
  where
    by : (t : Bool) → nat_le level f.1 ≡ t → (Some f ≡ Some found) × (level ≤ found.1)
    by true yes' = let same : Some f ≡ Some found = sym (ap (λ t. cond t (Some f) None) yes') ∙ is in let same' : f ≡ found = cc in
        (same, subst (λ (x : Operator × ℕ). level ≤ x.1) same' (leb-true level f.1 yes'))
    by false no' = let bad : None ≡ Some found = sym (ap (λ t. cond t (Some f) None) no') ∙ is in cc

pub found-is : (level : ℕ) (kind : Option TokenKind) (found : Operator × ℕ) → operator_from level kind ≡ Some found → Found level kind found
unfolding operator_from
found-is level (Some (kinds.Mark mark)) found is = let w = tight-found level (operator_of mark) found is in
    record { mark = mark; is = refl; operator = w.0; above = w.1; low = rank-most mark found w.0 }
found-is level (Some (kinds.Key key)) found is = cc
found-is level (Some (kinds.Name symbol)) found is = cc
found-is level (Some (kinds.Number value)) found is = cc
found-is level None found is = cc

-- an operator that is found from a level, and not from another, is looser than that
pub found-below : (level high : ℕ) (kind : Option TokenKind) (found : Operator × ℕ) → operator_from level kind ≡ Some found → operator_from high kind ≡ None → found.1 < high
unfolding operator_from
found-below level high kind found is none = by (nat_le high found.1) refl
  where
    f : Found level kind found
    f = found-is level kind found is

    by : (t : Bool) → nat_le high found.1 ≡ t → found.1 < high
    by true yes' = let bad : operator_from high kind ≡ Some found = ap (operator_from high) f.is ∙ ap (tight high) f.operator ∙ ap (λ t. cond t (Some found) None) yes' in cc
    by false no' = grind (arith, nat_tests)

-- what is read at a level is read at each looser one
pub looser : (tokens : List Token) (less level p : ℕ) (t : SourceExpression) (h q : ℕ) → ReadsLevel tokens (level + less) p t h q → ReadsLevel tokens level p t h q
looser tokens zero level p t h q d = let same : level + 0 ≡ level = omega arith in subst (λ n. ReadsLevel tokens n p t h q) same d
looser tokens (suc less) level p t h q d = let same : level + suc less ≡ level + less + 1 = omega arith in
    looser tokens less level p t h q (ReadsLevel.tighter (subst (λ n. ReadsLevel tokens n p t h q) same d))

pub looser-to : (tokens : List Token) (high level p : ℕ) (t : SourceExpression) (h q : ℕ) → level ≤ high → ReadsLevel tokens high p t h q → ReadsLevel tokens level p t h q
looser-to tokens high level p t h q le d = let same : high ≡ level + (high - level) = omega arith in looser tokens (high - level) level p t h q (subst (λ n. ReadsLevel tokens n p t h q) same d)
