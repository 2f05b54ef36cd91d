-- The parser finds a reading that the budget allows: what each step gives where its test holds.
use Rattle.std.proofs.Common.{◌≡◌, refl, sym, ap, ◌∙◌, ℕ, zero, suc, ◌<◌, ◌≤◌, Bool, true, false, List, arith, cond}
use Rattle.std.specs.Prelude.{Option, Some, None, nat_le}
use Rattle.std.proofs.lemmas.Bool.{le-leb, leb-true}
use Rattle.pc_lexer.specs.declared.token.Token.{Token}
use Rattle.pc_lexer.specs.declared.token.TokenKind.{TokenKind}
use Rattle.pc_lexer.specs.declared.token.TokenKind.TheVariants as kinds
use Rattle.pc_lexer.specs.declared.mark.Mark.{Mark}
use Rattle.pc_lexer.specs.declared.mark.Mark.TheVariants as marks
use Rattle.pc_lexer.specs.declared.keyword.Keyword.{Keyword}
use Rattle.pc_syntax.specs.Source.{SourceExpression}
use Rattle.pc_parser.specs.declared.operator.Operator.{Operator}
use Rattle.pc_parser.specs.Places.{kind_at}
use Rattle.pc_parser.specs.Operators.{operator_of}
use Rattle.pc_parser.specs.models.Outcome.{ParseOutcome, Parsed, Unreadable, TooHigh, after, allowed, expect, expect_key}
use Rattle.pc_parser.specs.models.ExpressionParser.{Inner, operator_from, tight, infixed_at, last_turn, turn, climb}
use Rattle.pc_parser.proofs.Tokens.{is_mark-of, is_key-of}

pub allowed-yes : {A : Type 0} (least budget at : ℕ) (rest : ParseOutcome A) → least ≤ budget → allowed least budget at rest ≡ rest
allowed-yes least budget at rest low = ap (λ t. cond t rest (TooHigh at)) (le-leb least budget low)

pub expect-yes : {A : Type 0} (tokens : List Token) (mark : Mark) (at : ℕ) (rest : ParseOutcome A) → kind_at tokens at ≡ Some (kinds.Mark mark) → expect tokens mark at rest ≡ rest
expect-yes tokens mark at rest is = ap (λ t. cond t rest (Unreadable at)) (is_mark-of mark (kind_at tokens at) is)

pub expect_key-yes : {A : Type 0} (tokens : List Token) (key : Keyword) (at : ℕ) (rest : ParseOutcome A) → kind_at tokens at ≡ Some (kinds.Key key) → expect_key tokens key at rest ≡ rest
expect_key-yes tokens key at rest is = ap (λ t. cond t rest (Unreadable at)) (is_key-of key (kind_at tokens at) is)

pub false_from : (t : Bool) → (t ≡ true → ⊥) → t ≡ false
false_from true no' = absurd (no' refl)
false_from false no' = refl

pub cond-yes : {A : Type 0} (t : Bool) (x y : A) → t ≡ true → cond t x y ≡ x
cond-yes t x y is = ap (λ t. cond t x y) is

pub cond-no : {A : Type 0} (t : Bool) (x y : A) → t ≡ false → cond t x y ≡ y
cond-no t x y is = ap (λ t. cond t x y) is

-- one parser after another that gave a tree
pub after-parsed : {A B : Type 0} (x : ParseOutcome A) (f : A → ℕ → ℕ → ParseOutcome B) (tree : A) (height to : ℕ) → x ≡ Parsed tree height to → after x f ≡ f tree height to
after-parsed x f tree height to is = ap (λ o. after o f) is

-- a level that a tighter one passes
tight-higher : (low high : ℕ) (found : Option (Operator × ℕ)) → low ≤ high → tight low found ≡ None → tight high found ≡ None
tight-higher low high None h is = refl
tight-higher low high (Some found) h is = passed (nat_le low found.1) refl
  where
    none : Option (Operator × ℕ) → Bool
    none None = true
    none (Some f) = false

    passed : (t : Bool) → nat_le low found.1 ≡ t → cond (nat_le high found.1) (Some found) None ≡ None
    passed true yes' = let bad : Some found ≡ None = sym (ap (λ t. cond t (Some found) None) yes') ∙ is in cc
    passed false no' = ap (λ t. cond t (Some found) None)
        (false_from (nat_le high found.1) (λ yes'. let a = leb-true high found.1 yes' in let b : nat_le low found.1 ≡ true = le-leb low found.1 (omega arith) in cc))

pub operator_from-higher : (low high : ℕ) (kind : Option TokenKind) → low ≤ high → operator_from low kind ≡ None → operator_from high kind ≡ None
unfolding operator_from
operator_from-higher low high (Some (kinds.Mark mark)) h is = tight-higher low high (operator_of mark) h is
operator_from-higher low high (Some (kinds.Key key)) h is = refl
operator_from-higher low high (Some (kinds.Name symbol)) h is = refl
operator_from-higher low high (Some (kinds.Number value)) h is = refl
operator_from-higher low high None h is = refl

-- the operator of a level is found from that level or a looser one
pub operator_from-found : (level low : ℕ) (kind : Option TokenKind) (mark : Mark) (operator : Operator) → kind ≡ Some (kinds.Mark mark) → operator_of mark ≡ Some (operator, level) → low ≤ level →
    operator_from low kind ≡ Some (operator, level)
unfolding operator_from
operator_from-found level low kind mark operator is found h = ap (operator_from low) is ∙ ap (tight low) found ∙ ap (λ t. cond t (Some (operator, level)) None) (le-leb low level h)

-- and not from a tighter one
pub operator_from-passed : (level high : ℕ) (kind : Option TokenKind) (mark : Mark) (operator : Operator) → kind ≡ Some (kinds.Mark mark) → operator_of mark ≡ Some (operator, level) → level < high →
    operator_from high kind ≡ None
unfolding operator_from
operator_from-passed level high kind mark operator is found h =
    ap (operator_from high) is ∙ ap (tight high) found ∙ ap (λ t. cond t (Some (operator, level)) None) (false_from (nat_le high level) (λ yes'. let a = leb-true high level yes' in omega arith))

-- no operator has a level above 10
pub operator_from-unary : (kind : Option TokenKind) → operator_from 11 kind ≡ None
unfolding operator_from operator_of
operator_from-unary (Some (kinds.Mark marks.OrOr)) = refl
operator_from-unary (Some (kinds.Mark mark)) = refl
operator_from-unary (Some (kinds.Key key)) = refl
operator_from-unary (Some (kinds.Name symbol)) = refl
operator_from-unary (Some (kinds.Number value)) = refl
operator_from-unary None = refl

module _ (tokens : List Token) (inner : Inner) (budget level : ℕ) where
  -- where no operator follows, an operand is the whole
  pub climb-ends : (turns : ℕ) (tree : SourceExpression) (height at : ℕ) → operator_from level (kind_at tokens at) ≡ None → climb tokens inner budget level turns tree height at ≡ Parsed tree height at
  unfolding climb last_turn turn
  climb-ends zero tree height at is = ap (last_turn tokens inner budget tree height at) is
  climb-ends (suc turns) tree height at is = ap (turn tokens inner budget (climb tokens inner budget level turns) tree height at) is

  -- where an operator follows, and a turn is left, the next operand is read
  pub climb-turns : (turns : ℕ) (tree : SourceExpression) (height at : ℕ) (found : Operator × ℕ) → 1 ≤ turns → operator_from level (kind_at tokens at) ≡ Some found →
      (fewer : ℕ) × (turns ≡ suc fewer) × (climb tokens inner budget level turns tree height at ≡ after (infixed_at tokens inner budget tree height at found) (climb tokens inner budget level fewer))
  unfolding climb last_turn turn
  climb-turns zero tree height at found some is = absurd (omega arith)
  climb-turns (suc turns) tree height at found some is = (turns, refl, ap (turn tokens inner budget (climb tokens inner budget level turns) tree height at) is)
