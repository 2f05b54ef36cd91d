-- What the parser of expressions gives is what the grammar reads.
use Rattle.std.proofs.Common.{◌≡◌, refl, ap, ◌∙◌, subst, ℕ, ℤ, zero, suc, ◌+◌, ◌-◌, ◌≤◌, List, length, arith}
use Rattle.std.specs.Prelude.{Option, Some, None, max}
use Rattle.pc_lexer.specs.declared.token.Token.{Token}
use Rattle.pc_lexer.specs.declared.token.TokenKind.{TokenKind}
use Rattle.pc_lexer.specs.declared.token.TokenKind.TheVariants as kinds
use Rattle.pc_lexer.specs.declared.mark.Mark.{Mark}
use Rattle.pc_lexer.specs.declared.mark.Mark.TheVariants as marks
use Rattle.pc_lexer.specs.declared.keyword.Keyword.TheVariants as keys
use Rattle.pc_syntax.specs.declared.operator.UnaryOp.{UnaryOp}
use Rattle.pc_syntax.specs.Source.{SourceExpression}
use Rattle.pc_parser.specs.declared.operator.Operator.{Operator}
use Rattle.pc_parser.specs.Places.{kind_at, line_at}
use Rattle.pc_parser.specs.models.Tests.{mark_is, key_is}
use Rattle.pc_parser.specs.Operators.{prefix_of, infixed}
use Rattle.pc_parser.specs.Expressions.{ReadsExpression, ReadsLevel, ReadsUnary, ReadsPrimary}
use Rattle.pc_parser.specs.Statements.{Lvalue, ReadsLvalue}
use Rattle.pc_parser.specs.models.Outcome.{ParseOutcome, Parsed, Unreadable, TooHigh}
use Rattle.pc_parser.specs.models.ExpressionParser.{Inner, operator_from, sign_of, lvalue_tree, lvalue_height, lvalue_named, literal_at, name_at, grouped, input, primary_on, signed, unary_on}
use Rattle.pc_parser.specs.models.ExpressionParser.{unary_at, infixed_at, last_turn, turn, climb, choice, operand, part, expression_at, below}
use Rattle.pc_parser.proofs.Tokens.{mark_is-true, key_is-true}
use Rattle.pc_parser.proofs.Onward.{inside}
use Rattle.pc_parser.proofs.Holds.{Good, after-good, cond-good, allowed-good, expect-good, on_mark-good, rank-most, found-is, found-below, looser-to}

module _ (tokens : List Token) where
  -- a height that the budget allows, no greater than the number of tokens, and a place among the tokens
  pub record Sized (b p h q : ℕ) : Type 0 where
    pub low : h ≤ b
    pub long : h + p ≤ q
    pub within : q ≤ length tokens

  -- what the parser gives at a level
  pub record Sound (b level p : ℕ) (t : SourceExpression) (h q : ℕ) : Type 0 where
    pub whole : level ≡ 0 → ReadsExpression tokens p t h q
    pub part : 1 ≤ level → ReadsLevel tokens level p t h q
    pub ends : 1 ≤ level → operator_from level (kind_at tokens q) ≡ None
    pub size : Sized b p h q

  pub record IsLvalue (b p : ℕ) (t : Lvalue) (h q : ℕ) : Type 0 where
    pub reads : ReadsLvalue tokens p t h q
    pub size : Sized b p h q

  record IsPrimary (b p : ℕ) (t : SourceExpression) (h q : ℕ) : Type 0 where
    pub reads : ReadsPrimary tokens p t h q
    pub size : Sized b p h q

  pub record IsUnary (b p : ℕ) (t : SourceExpression) (h q : ℕ) : Type 0 where
    pub reads : ReadsUnary tokens p t h q
    pub size : Sized b p h q

  -- the parser with a budget that is one less is sound
  abbrev pub InnerHolds : ℕ → Inner → Type 0
  InnerHolds b inner = (level from : ℕ) → level ≤ 11 → from ≤ length tokens → Good (length tokens) (b - 1 + from) (Sound (b - 1) level from) (inner level from)

  -- an lvalue as a primary expression
  pub lvalue-primary : (p : ℕ) (t : Lvalue) (h q : ℕ) → ReadsLvalue tokens p t h q → ReadsPrimary tokens p (lvalue_tree t) (lvalue_height t h) q
  lvalue-primary p t h q (ReadsLvalue.name is) = ReadsPrimary.name is
  lvalue-primary p t h q (ReadsLvalue.element is open' d close') = ReadsPrimary.element is open' d close'

  pub lvalue-height-low : (b p : ℕ) (t : Lvalue) (h q : ℕ) → ReadsLvalue tokens p t h q → 1 ≤ b → Sized b p h q → Sized b p (lvalue_height t h) q
  lvalue-height-low b p t h q (ReadsLvalue.name is) some size = let w = size.within in record { low = omega arith; long = omega arith; within = omega arith }
  lvalue-height-low b p t h q (ReadsLvalue.element is open' d close') some size = size

  -- no binary operator is as tight as a unary one
  level-eleven : (level p : ℕ) (t : SourceExpression) (h q : ℕ) → ReadsLevel tokens level p t h q → 11 ≤ level → ReadsUnary tokens p t h q
  level-eleven level p t h q (ReadsLevel.unary d) high = d
  level-eleven level p t h q (ReadsLevel.tighter d) high = level-eleven (level + 1) p t h q d (omega arith)
  level-eleven level p t h q (ReadsLevel.binary {mark = mark} {operator = operator} d is found e) high = let low = rank-most mark (operator, level) found in absurd (omega arith)

  level-unary : (p : ℕ) (t : SourceExpression) (h q : ℕ) → ReadsLevel tokens 11 p t h q → ReadsUnary tokens p t h q
  level-unary p t h q d = level-eleven 11 p t h q d (omega arith)

  module _ (inner : Inner) (b : ℕ) (holds : InnerHolds b inner) where
    pub lvalue_named-holds : (symbol p : ℕ) → kind_at tokens p ≡ Some (kinds.Name symbol) → Good (length tokens) (b + p) (IsLvalue b p) (lvalue_named tokens inner b symbol p)
    unfolding lvalue_named
    lvalue_named-holds symbol p is =
        let within = inside tokens p _ is in
        on_mark-good tokens (b + p) marks.LeftBracket (p + 1) (IsLvalue b p) _ _
        (λ open' below. allowed-good (length tokens) (b + p) 2 b (p + 1) (IsLvalue b p) _ (λ high. omega arith) (omega arith) (λ low.
        after-good (length tokens) (b + p) (b - 1 + (p + 2)) (Sound (b - 1) 0 (p + 2)) (IsLvalue b p) (inner 0 (p + 2)) _ (omega arith)
        (holds 0 (p + 2) (omega arith) (omega arith)) (λ index h q sound.
        let size = sound.size in let a = size.low in let l = size.long in let w = size.within in
        expect-good tokens (b + p) marks.RightBracket q (IsLvalue b p) _ w (λ close' further.
        record { reads = ReadsLvalue.element is open' (sound.whole refl) close'; size = record { low = omega arith; long = omega arith; within = omega arith } }))))
        (λ no'. record { reads = ReadsLvalue.name is; size = record { low = omega arith; long = omega arith; within = omega arith } })

    grouped-holds : (p : ℕ) → kind_at tokens p ≡ Some (kinds.Mark marks.LeftParen) → Good (length tokens) (b + p) (IsPrimary b p) (grouped tokens inner b p)
    unfolding grouped
    grouped-holds p is =
        let within = inside tokens p _ is in
        allowed-good (length tokens) (b + p) 2 b p (IsPrimary b p) _ (λ high. omega arith) (omega arith) (λ low.
        after-good (length tokens) (b + p) (b - 1 + (p + 1)) (Sound (b - 1) 0 (p + 1)) (IsPrimary b p) (inner 0 (p + 1)) _ (omega arith) (holds 0 (p + 1) (omega arith) (omega arith)) (λ t h q sound.
        let size = sound.size in let a = size.low in let l = size.long in let w = size.within in
        expect-good tokens (b + p) marks.RightParen q (IsPrimary b p) _ w (λ close' further.
        record { reads = ReadsPrimary.grouped is (sound.whole refl) close'; size = record { low = omega arith; long = omega arith; within = omega arith } })))

    input-holds : (p : ℕ) → kind_at tokens p ≡ Some (kinds.Key keys.Read) → Good (length tokens) (b + p) (IsPrimary b p) (input tokens inner b p)
    unfolding input
    input-holds p is =
        let within = inside tokens p _ is in
        allowed-good (length tokens) (b + p) 1 b p (IsPrimary b p) _ (λ high. omega arith) (omega arith) (λ low.
        expect-good tokens (b + p) marks.LeftParen (p + 1) (IsPrimary b p) _ (omega arith) (λ open' further.
        expect-good tokens (b + p) marks.RightParen (p + 2) (IsPrimary b p) _ (omega arith) (λ close' last.
        record { reads = ReadsPrimary.input is open' close'; size = record { low = omega arith; long = omega arith; within = omega arith } })))

    literal_at-holds : (value : ℤ) (p : ℕ) → kind_at tokens p ≡ Some (kinds.Number value) → Good (length tokens) (b + p) (IsPrimary b p) (literal_at tokens inner b value p)
    unfolding literal_at
    literal_at-holds value p is =
        let within = inside tokens p _ is in
        allowed-good (length tokens) (b + p) 1 b p (IsPrimary b p) _ (λ high. omega arith) (omega arith) (λ low.
        record { reads = ReadsPrimary.number is; size = record { low = omega arith; long = omega arith; within = omega arith } })

    name_at-holds : (symbol p : ℕ) → kind_at tokens p ≡ Some (kinds.Name symbol) → Good (length tokens) (b + p) (IsPrimary b p) (name_at tokens inner b symbol p)
    unfolding name_at
    name_at-holds symbol p is =
        let within = inside tokens p _ is in
        allowed-good (length tokens) (b + p) 1 b p (IsPrimary b p) _ (λ high. omega arith) (omega arith) (λ low.
        after-good (length tokens) (b + p) (b + p) (IsLvalue b p) (IsPrimary b p) (lvalue_named tokens inner b symbol p) _ (omega arith) (lvalue_named-holds symbol p is) (λ t h q sound.
        record { reads = lvalue-primary p t h q sound.reads; size = lvalue-height-low b p t h q sound.reads low sound.size }))

    primary_on-holds : (kind : Option TokenKind) (p : ℕ) → kind_at tokens p ≡ kind → p ≤ length tokens → Good (length tokens) (b + p) (IsPrimary b p) (primary_on tokens inner b kind p)
    unfolding primary_on
    primary_on-holds (Some (kinds.Number value)) p is within = literal_at-holds value p is
    primary_on-holds (Some (kinds.Name symbol)) p is within = name_at-holds symbol p is
    primary_on-holds (Some (kinds.Key key)) p is within = cond-good (length tokens) (b + p) (IsPrimary b p) (key_is key keys.Read) _ _
        (λ yes'. input-holds p (is ∙ ap (λ k. Some (kinds.Key k)) (key_is-true key keys.Read yes'))) (λ no'. within)
    primary_on-holds (Some (kinds.Mark mark)) p is within = cond-good (length tokens) (b + p) (IsPrimary b p) (mark_is mark marks.LeftParen) _ _
        (λ yes'. grouped-holds p (is ∙ ap (λ m. Some (kinds.Mark m)) (mark_is-true mark marks.LeftParen yes'))) (λ no'. within)
    primary_on-holds None p is within = within

    signed-holds : (mark : Mark) (sign : Option UnaryOp) (p : ℕ) → kind_at tokens p ≡ Some (kinds.Mark mark) → prefix_of mark ≡ Some sign →
        Good (length tokens) (b + p) (IsUnary b p) (signed tokens inner b sign p)
    unfolding signed
    signed-holds mark sign p is prefix =
        let within = inside tokens p _ is in
        allowed-good (length tokens) (b + p) 2 b p (IsUnary b p) _ (λ high. omega arith) (omega arith) (λ low.
        after-good (length tokens) (b + p) (b - 1 + (p + 1)) (Sound (b - 1) 11 (p + 1)) (IsUnary b p) (inner 11 (p + 1)) _ (omega arith) (holds 11 (p + 1) (omega arith) (omega arith)) (λ t h q sound.
        let size = sound.size in let a = size.low in let l = size.long in let w = size.within in
        record { reads = ReadsUnary.signed is prefix (level-unary (p + 1) t h q (sound.part (omega arith))); size = record { low = omega arith; long = omega arith; within = w } }))

    unary_at-holds : (p : ℕ) → p ≤ length tokens → Good (length tokens) (b + p) (IsUnary b p) (unary_at tokens inner b p)
    unfolding unary_at unary_on sign_of
    unary_at-holds p within = by (kind_at tokens p) refl
      where
        as_primary : (kind : Option TokenKind) → kind_at tokens p ≡ kind → Good (length tokens) (b + p) (IsUnary b p) (primary_on tokens inner b (kind_at tokens p) p)
        as_primary kind is = weaker (primary_on tokens inner b (kind_at tokens p) p) (primary_on-holds (kind_at tokens p) p refl within)
          where
            weaker : (o : ParseOutcome SourceExpression) → Good (length tokens) (b + p) (IsPrimary b p) o → Good (length tokens) (b + p) (IsUnary b p) o
            weaker (Parsed t h q) good = record { reads = ReadsUnary.primary good.reads; size = good.size }
            weaker (Unreadable at) good = good
            weaker (TooHigh at) good = good

        by_sign : (mark : Mark) (sign : Option (Option UnaryOp)) → kind_at tokens p ≡ Some (kinds.Mark mark) → prefix_of mark ≡ sign →
            Good (length tokens) (b + p) (IsUnary b p) (unary_on tokens inner b sign p)
        by_sign mark (Some sign) is prefix = signed-holds mark sign p is prefix
        by_sign mark None is prefix = as_primary _ refl

        by : (kind : Option TokenKind) → kind_at tokens p ≡ kind → Good (length tokens) (b + p) (IsUnary b p) (unary_on tokens inner b (sign_of kind) p)
        by (Some (kinds.Mark mark)) is = by_sign mark (prefix_of mark) is refl
        by (Some (kinds.Key key)) is = as_primary _ refl
        by (Some (kinds.Name symbol)) is = as_primary _ refl
        by (Some (kinds.Number value)) is = as_primary _ refl
        by None is = as_primary _ refl

    -- an operand on the way: what it is read as where an operator follows
    pub record Left (level p : ℕ) (t : SourceExpression) (h q : ℕ) : Type 0 where
      pub reads : ReadsLevel tokens level p t h q
      pub ready : (found : Operator × ℕ) → operator_from level (kind_at tokens q) ≡ Some found → ReadsLevel tokens found.1 p t h q
      pub size : Sized b p h q

    pub fresh : (level p : ℕ) (t : SourceExpression) (h q : ℕ) → level ≤ 11 → IsUnary b p t h q → Left level p t h q
    fresh level p t h q low is = record {
      reads = looser-to tokens 11 level p t h q low (ReadsLevel.unary is.reads);
      ready = λ found f. let most = (found-is level (kind_at tokens q) found f).low in looser-to tokens 11 found.1 p t h q (omega arith) (ReadsLevel.unary is.reads);
      size = is.size;
    }

    -- two operands that an operator joined, higher than the first
    record Infixed (level p height : ℕ) (t : SourceExpression) (h q : ℕ) : Type 0 where
      pub left : Left level p t h q
      pub rises : height + 1 ≤ h

    infixed_at-holds : (level p : ℕ) (left : SourceExpression) (h at : ℕ) (found : Operator × ℕ) → Left level p left h at → operator_from level (kind_at tokens at) ≡ Some found →
        Good (length tokens) (b + p) (Infixed level p h) (infixed_at tokens inner b left h at found)
    unfolding infixed_at
    infixed_at-holds level p left h at found first is =
        let f = found-is level (kind_at tokens at) found is in
        let within = inside tokens at _ f.is in
        let most = f.low in let above = f.above in let first_size = first.size in let first_low = first_size.low in let first_long = first_size.long in
        allowed-good (length tokens) (b + p) (h + 1) b at (Infixed level p h) _ (λ high. omega arith) (omega arith) (λ low.
        after-good (length tokens) (b + p) (b - 1 + (at + 1)) (Sound (b - 1) (found.1 + 1) (at + 1)) (Infixed level p h) (inner (found.1 + 1) (at + 1)) _ (omega arith)
        (holds (found.1 + 1) (at + 1) (omega arith) (omega arith)) (λ right j q sound.
        let size = sound.size in let a = size.low in let l = size.long in let w = size.within in
        let both : ReadsLevel tokens found.1 p (infixed found.0 (line_at tokens at) left right) (max h j + 1) q = ReadsLevel.binary (first.ready found is) f.is f.operator (sound.part (omega arith)) in
        record {
          rises = omega arith;
          left = record {
            reads = looser-to tokens found.1 level p _ _ q above both;
            ready = λ next next_is. let less = found-below level (found.1 + 1) (kind_at tokens q) next next_is (sound.ends (omega arith)) in looser-to tokens found.1 next.1 p _ _ q (omega arith) both;
            size = record { low = omega arith; long = omega arith; within = w };
          };
        }))

    done : (level p : ℕ) (left : SourceExpression) (h at : ℕ) → 1 ≤ level → Left level p left h at → operator_from level (kind_at tokens at) ≡ None → Sound b level p left h at
    done level p left h at above first none = record { whole = λ z. absurd (omega arith); part = λ some. first.reads; ends = λ some. none; size = first.size }

    pub climb-holds : (level p turns : ℕ) (left : SourceExpression) (h at : ℕ) → 1 ≤ level → Left level p left h at → b ≤ turns + h →
        Good (length tokens) (b + p) (Sound b level p) (climb tokens inner b level turns left h at)
    unfolding climb last_turn turn
    climb-holds level p zero left h at above first enough = by (operator_from level (kind_at tokens at)) refl
      where
        by : (found : Option (Operator × ℕ)) → operator_from level (kind_at tokens at) ≡ found → Good (length tokens) (b + p) (Sound b level p) (last_turn tokens inner b left h at found)
        by None is = done level p left h at above first is
        by (Some found) is = let size = first.size in let l = size.long in (omega arith, size.within)
    climb-holds level p (suc turns) left h at above first enough =
        by (climb tokens inner b level turns) (λ left' h' at' first' enough'. climb-holds level p turns left' h' at' above first' enough')
        (operator_from level (kind_at tokens at)) refl
      where
        by : (f : SourceExpression → (h at : ℕ) → ParseOutcome SourceExpression) →
            ((left' : SourceExpression) (h' at' : ℕ) → Left level p left' h' at' → b ≤ turns + h' → Good (length tokens) (b + p) (Sound b level p) (f left' h' at')) →
            (found : Option (Operator × ℕ)) → operator_from level (kind_at tokens at) ≡ found → Good (length tokens) (b + p) (Sound b level p) (turn tokens inner b f left h at found)
        by f next None is = done level p left h at above first is
        by f next (Some found) is =
            after-good (length tokens) (b + p) (b + p) (Infixed level p h) (Sound b level p) (infixed_at tokens inner b left h at found) f (omega arith)
            (infixed_at-holds level p left h at found first is)
            (λ left' h' at' good. let rises = good.rises in next left' h' at' good.left (omega arith))

    pub choice-holds : (p : ℕ) (test : SourceExpression) (h at : ℕ) → Sound b 1 p test h at → Good (length tokens) (b + p) (Sound b 0 p) (choice tokens inner b test h at)
    unfolding choice
    choice-holds p test h at first =
        let size = first.size in let low' = size.low in let long' = size.long in let within' = size.within in
        on_mark-good tokens (b + p) marks.Question at (Sound b 0 p) _ _
        (λ question below. allowed-good (length tokens) (b + p) (h + 1) b at (Sound b 0 p) _ (λ high. omega arith) within' (λ low.
        after-good (length tokens) (b + p) (b - 1 + (at + 1)) (Sound (b - 1) 0 (at + 1)) (Sound b 0 p) (inner 0 (at + 1)) _ (omega arith)
        (holds 0 (at + 1) (omega arith) (omega arith)) (λ one i q sound.
        let size' = sound.size in let a = size'.low in let l = size'.long in let w = size'.within in
        expect-good tokens (b + p) marks.Colon q (Sound b 0 p) _ w (λ colon further.
        after-good (length tokens) (b + p) (b - 1 + (q + 1)) (Sound (b - 1) 0 (q + 1)) (Sound b 0 p) (inner 0 (q + 1)) _ (omega arith) (holds 0 (q + 1) (omega arith) (omega arith)) (λ other j to last.
        let size'' = last.size in let a' = size''.low in let l' = size''.long in
        record {
          whole = λ z. ReadsExpression.choice (first.part (omega arith)) question (sound.whole refl) colon (last.whole refl);
          part = λ some. absurd (omega arith);
          ends = λ some. absurd (omega arith);
          size = record { low = omega arith; long = omega arith; within = size''.within };
        })))))
        (λ no'. record { whole = λ z. ReadsExpression.plain (first.part (omega arith)); part = λ some. absurd (omega arith); ends = λ some. absurd (omega arith); size = size })

    operand-holds : (level p : ℕ) → 1 ≤ level → level ≤ 11 → p ≤ length tokens → Good (length tokens) (b + p) (Sound b level p) (operand tokens inner b level p)
    unfolding operand
    operand-holds level p above low within = after-good (length tokens) (b + p) (b + p) (IsUnary b p) (Sound b level p) (unary_at tokens inner b p) _ (omega arith) (unary_at-holds p within)
        (λ t h q good. climb-holds level p b t h q above (fresh level p t h q low good) (omega arith))

    part-holds : (level p : ℕ) → level ≤ 11 → p ≤ length tokens → Good (length tokens) (b + p) (Sound b level p) (part tokens inner b level p)
    unfolding part
    part-holds zero p low within =
        after-good (length tokens) (b + p) (b + p) (Sound b 1 p) (Sound b 0 p) (operand tokens inner b 1 p) _ (omega arith)
        (operand-holds 1 p (omega arith) (omega arith) within) (λ t h q good. choice-holds p t h q good)
    part-holds (suc level) p low within = operand-holds (suc level) p (omega arith) low within

  pub expression_at-holds : (b level p : ℕ) → level ≤ 11 → p ≤ length tokens → Good (length tokens) (b + p) (Sound b level p) (expression_at tokens b level p)
  unfolding expression_at
  expression_at-holds zero level p low within = part-holds (λ level' from. TooHigh from) 0 (λ level' from low' within'. (omega arith, within')) level p low within
  expression_at-holds (suc b) level p low within =
      part-holds (expression_at tokens b) (suc b) (λ level' from low' within'. lower b level' from (expression_at-holds b level' from low' within')) level p low within
    where
      lower : (b level from : ℕ) → Good (length tokens) (b + from) (Sound b level from) (expression_at tokens b level from) →
          Good (length tokens) (suc b - 1 + from) (Sound (suc b - 1) level from) (expression_at tokens b level from)
      lower b level from good = let same : b ≡ suc b - 1 = omega arith in subst (λ n. Good (length tokens) (n + from) (Sound n level from) (expression_at tokens b level from)) same good

  pub below-holds : (b : ℕ) → InnerHolds b (below tokens b)
  unfolding below
  below-holds zero level from low within = (omega arith, within)
  below-holds (suc b) level from low within = let same : b ≡ suc b - 1 = omega arith in
      subst (λ n. Good (length tokens) (n + from) (Sound n level from) (expression_at tokens b level from)) same (expression_at-holds b level from low within)
