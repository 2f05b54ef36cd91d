-- The parser of expressions finds a reading that the budget allows, in front of a token that ends it.
use Rattle.std.proofs.Common.{◌≡◌, refl, sym, ap, ◌∙◌, subst, ℕ, ℤ, ◌+◌, ◌-◌, ◌≤◌, false, List, arith}
use Rattle.std.specs.Prelude.{Option, Some, None, max}
use Rattle.pc_lexer.specs.declared.token.Token.{Token}
use Rattle.pc_lexer.specs.declared.token.TokenKind.{TokenKind}
use Rattle.pc_lexer.specs.declared.token.TokenKind.TheVariants as kinds
use Rattle.pc_lexer.specs.declared.mark.Mark.{Mark}
use Rattle.pc_lexer.specs.declared.mark.Mark.TheVariants as marks
use Rattle.pc_lexer.specs.declared.keyword.Keyword.TheVariants as keys
use Rattle.pc_syntax.specs.declared.operator.UnaryOp.{UnaryOp}
use Rattle.pc_syntax.specs.Source.{SourceExpression, Literal, Input, Conditional}
use Rattle.pc_parser.specs.declared.operator.Operator.{Operator}
use Rattle.pc_parser.specs.Places.{kind_at, line_at}
use Rattle.pc_parser.specs.models.Tests.{is_mark}
use Rattle.pc_parser.specs.Operators.{operator_of, prefix_of, infixed, prefixed}
use Rattle.pc_parser.specs.Expressions.{ReadsExpression, ReadsLevel, ReadsUnary, ReadsPrimary}
use Rattle.pc_parser.specs.models.Outcome.{Parsed, after}
use Rattle.pc_parser.specs.models.ExpressionParser.{operator_from, sign_of, lvalue_tree, lvalue_height, lvalue_named, literal_at, name_at, grouped, input, primary_on, signed, unary_on}
use Rattle.pc_parser.specs.models.ExpressionParser.{unary_at, infixed_at, climb, choice, operand, part, expression_at, below}
use Rattle.pc_parser.proofs.Budgets.{below-expression, expression_at-part, part-operand}
use Rattle.pc_parser.proofs.Tokens.{is_mark-of, is_mark-true}
use Rattle.pc_parser.proofs.Finds.{allowed-yes, expect-yes, after-parsed, cond-yes, cond-no, false_from, operator_from-higher, operator_from-found, operator_from-passed, operator_from-unary}
use Rattle.pc_parser.proofs.Finds.{climb-ends, climb-turns}

-- what may stand after an operand of a level
pub record Follows (level : ℕ) (kind : Option TokenKind) : Type 0 where
  pub bracket : is_mark marks.LeftBracket kind ≡ false
  pub operator : operator_from (level + 1) kind ≡ None

-- what may stand after an expression
pub record FollowsWhole (kind : Option TokenKind) : Type 0 where
  pub bracket : is_mark marks.LeftBracket kind ≡ false
  pub operator : operator_from 1 kind ≡ None
  pub question : is_mark marks.Question kind ≡ false
  pub paren : is_mark marks.LeftParen kind ≡ false

-- the marks that stand after an expression
pub follows-paren : (kind : Option TokenKind) → kind ≡ Some (kinds.Mark marks.RightParen) → FollowsWhole kind
unfolding operator_from operator_of
follows-paren kind is = subst FollowsWhole (sym is) record { bracket = refl; operator = refl; question = refl; paren = refl }

pub follows-bracket : (kind : Option TokenKind) → kind ≡ Some (kinds.Mark marks.RightBracket) → FollowsWhole kind
unfolding operator_from operator_of
follows-bracket kind is = subst FollowsWhole (sym is) record { bracket = refl; operator = refl; question = refl; paren = refl }

pub follows-semicolon : (kind : Option TokenKind) → kind ≡ Some (kinds.Mark marks.Semicolon) → FollowsWhole kind
unfolding operator_from operator_of
follows-semicolon kind is = subst FollowsWhole (sym is) record { bracket = refl; operator = refl; question = refl; paren = refl }

pub follows-comma : (kind : Option TokenKind) → kind ≡ Some (kinds.Mark marks.Comma) → FollowsWhole kind
unfolding operator_from operator_of
follows-comma kind is = subst FollowsWhole (sym is) record { bracket = refl; operator = refl; question = refl; paren = refl }

pub follows-colon : (kind : Option TokenKind) → kind ≡ Some (kinds.Mark marks.Colon) → FollowsWhole kind
unfolding operator_from operator_of
follows-colon kind is = subst FollowsWhole (sym is) record { bracket = refl; operator = refl; question = refl; paren = refl }

-- `?` stands after the operands of every level
pub question-bracket : (kind : Option TokenKind) → kind ≡ Some (kinds.Mark marks.Question) → is_mark marks.LeftBracket kind ≡ false
question-bracket kind is = ap (is_mark marks.LeftBracket) is

pub question-operator : (kind : Option TokenKind) → kind ≡ Some (kinds.Mark marks.Question) → operator_from 1 kind ≡ None
unfolding operator_from operator_of
question-operator kind is = ap (operator_from 1) is

-- an operator is no bracket
operator-bracket : (level : ℕ) (kind : Option TokenKind) (mark : Mark) (operator : Operator) → kind ≡ Some (kinds.Mark mark) → operator_of mark ≡ Some (operator, level) →
    is_mark marks.LeftBracket kind ≡ false
unfolding operator_of
operator-bracket level kind mark operator is found = false_from (is_mark marks.LeftBracket kind) (λ yes'.
    let same = is_mark-true marks.LeftBracket kind yes' in
    let bracket : mark ≡ marks.LeftBracket = cc in
    let none : operator_of mark ≡ None = ap operator_of bracket in cc)

mutual
  -- each reading has some height
  pub expression-positive : (tokens : List Token) (p : ℕ) (t : SourceExpression) (h q : ℕ) → ReadsExpression tokens p t h q → 1 ≤ h
  expression-positive tokens p t h q (ReadsExpression.plain d) = level-positive tokens 1 p t h q d
  expression-positive tokens p t h q (ReadsExpression.choice d question one colon other) = omega arith

  pub level-positive : (tokens : List Token) (level p : ℕ) (t : SourceExpression) (h q : ℕ) → ReadsLevel tokens level p t h q → 1 ≤ h
  level-positive tokens level p t h q (ReadsLevel.unary d) = unary-positive tokens p t h q d
  level-positive tokens level p t h q (ReadsLevel.tighter d) = level-positive tokens (level + 1) p t h q d
  level-positive tokens level p t h q (ReadsLevel.binary d mark operator e) = omega arith

  pub unary-positive : (tokens : List Token) (p : ℕ) (t : SourceExpression) (h q : ℕ) → ReadsUnary tokens p t h q → 1 ≤ h
  unary-positive tokens p t h q (ReadsUnary.primary d) = primary-positive tokens p t h q d
  unary-positive tokens p t h q (ReadsUnary.signed mark sign d) = omega arith

  pub primary-positive : (tokens : List Token) (p : ℕ) (t : SourceExpression) (h q : ℕ) → ReadsPrimary tokens p t h q → 1 ≤ h
  primary-positive tokens p t h q (ReadsPrimary.number is) = omega arith
  primary-positive tokens p t h q (ReadsPrimary.name is) = omega arith
  primary-positive tokens p t h q (ReadsPrimary.element is open' d close') = omega arith
  primary-positive tokens p t h q (ReadsPrimary.input is open' close') = omega arith
  primary-positive tokens p t h q (ReadsPrimary.grouped is d close') = omega arith

module _ (tokens : List Token) where
  -- a whole expression with a budget that is one less
  inner-whole : (b p : ℕ) (t : SourceExpression) (h q : ℕ) → 1 ≤ b → expression_at tokens (b - 1) 0 p ≡ Parsed t h q → below tokens b 0 p ≡ Parsed t h q
  inner-whole b p t h q some is = below-expression tokens b 0 p some ∙ is

  -- an operand of a level with a budget that is one less
  inner-operand : (b level p : ℕ) → 1 ≤ b → 1 ≤ level → below tokens b level p ≡ operand tokens (below tokens (b - 1)) (b - 1) level p
  inner-operand b level p some above =
      below-expression tokens b level p some ∙ expression_at-part tokens (b - 1) level p ∙ part-operand tokens (below tokens (b - 1)) (b - 1) level p above

  module _ (b : ℕ) where
    -- a primary expression, by the token that it begins with
    by_token : (p : ℕ) (kind : Option TokenKind) → kind_at tokens p ≡ kind → sign_of kind ≡ None → unary_at tokens (below tokens b) b p ≡ primary_on tokens (below tokens b) b kind p
    unfolding unary_at unary_on
    by_token p kind is unsigned =
        ap (λ sign. unary_on tokens (below tokens b) b sign p) (ap sign_of is ∙ unsigned) ∙ ap (λ k. primary_on tokens (below tokens b) b k p) is

    finds-number : (p : ℕ) (value : ℤ) → kind_at tokens p ≡ Some (kinds.Number value) → 1 ≤ b → unary_at tokens (below tokens b) b p ≡ Parsed (Literal value) 1 (p + 1)
    unfolding primary_on literal_at sign_of
    finds-number p value is low = by_token p (Some (kinds.Number value)) is refl ∙ allowed-yes 1 b p _ low

    named_as : (p symbol : ℕ) → kind_at tokens p ≡ Some (kinds.Name symbol) → 1 ≤ b →
        unary_at tokens (below tokens b) b p
        ≡ after (lvalue_named tokens (below tokens b) b symbol p) (λ lvalue height to. Parsed (lvalue_tree lvalue) (lvalue_height lvalue height) to)
    unfolding primary_on name_at sign_of
    named_as p symbol is low = by_token p (Some (kinds.Name symbol)) is refl ∙ allowed-yes 1 b p _ low

    -- an lvalue that is a name, or an element
    pub finds-lone : (p symbol : ℕ) → is_mark marks.LeftBracket (kind_at tokens (p + 1)) ≡ false →
        lvalue_named tokens (below tokens b) b symbol p ≡ Parsed record { symbol = symbol; line = line_at tokens p; index = None; bracket = line_at tokens p } 0 (p + 1)
    unfolding lvalue_named
    finds-lone p symbol no' = cond-no _ _ _ no'

    pub finds-indexed : (p symbol : ℕ) (index : SourceExpression) (h q : ℕ) → kind_at tokens (p + 1) ≡ Some (kinds.Mark marks.LeftBracket) →
        expression_at tokens (b - 1) 0 (p + 2) ≡ Parsed index h q → kind_at tokens q ≡ Some (kinds.Mark marks.RightBracket) → 2 ≤ b →
        lvalue_named tokens (below tokens b) b symbol p ≡ Parsed record { symbol = symbol; line = line_at tokens p; index = Some index; bracket = line_at tokens (p + 1) } (h + 1) (q + 1)
    unfolding lvalue_named
    finds-indexed p symbol index h q open' is close' low =
        cond-yes _ _ _ (is_mark-of marks.LeftBracket (kind_at tokens (p + 1)) open') ∙ allowed-yes 2 b (p + 1) _ low ∙
        after-parsed (below tokens b 0 (p + 2)) _ index h q (inner-whole b (p + 2) index h q (omega arith) is) ∙ expect-yes tokens marks.RightBracket q _ close'

    finds-grouped : (p : ℕ) (t : SourceExpression) (h q : ℕ) → kind_at tokens p ≡ Some (kinds.Mark marks.LeftParen) → expression_at tokens (b - 1) 0 (p + 1) ≡ Parsed t h q →
        kind_at tokens q ≡ Some (kinds.Mark marks.RightParen) → 2 ≤ b → unary_at tokens (below tokens b) b p ≡ Parsed t (h + 1) (q + 1)
    unfolding primary_on grouped sign_of prefix_of
    finds-grouped p t h q open' is close' low =
        by_token p (Some (kinds.Mark marks.LeftParen)) open' refl ∙ allowed-yes 2 b p _ low ∙
        after-parsed (below tokens b 0 (p + 1)) _ t h q (inner-whole b (p + 1) t h q (omega arith) is) ∙ expect-yes tokens marks.RightParen q _ close'

    finds-input : (p : ℕ) → kind_at tokens p ≡ Some (kinds.Key keys.Read) → kind_at tokens (p + 1) ≡ Some (kinds.Mark marks.LeftParen) →
        kind_at tokens (p + 2) ≡ Some (kinds.Mark marks.RightParen) → 1 ≤ b →
        unary_at tokens (below tokens b) b p ≡ Parsed (Input (line_at tokens p)) 1 (p + 3)
    unfolding primary_on input sign_of
    finds-input p is open' close' low =
        by_token p (Some (kinds.Key keys.Read)) is refl ∙ allowed-yes 1 b p _ low ∙
        expect-yes tokens marks.LeftParen (p + 1) _ open' ∙ expect-yes tokens marks.RightParen (p + 2) _ close'

    finds-signed : (p : ℕ) (mark : Mark) (sign : Option UnaryOp) (t : SourceExpression) (h q : ℕ) → kind_at tokens p ≡ Some (kinds.Mark mark) → prefix_of mark ≡ Some sign →
        below tokens b 11 (p + 1) ≡ Parsed t h q → 2 ≤ b → unary_at tokens (below tokens b) b p ≡ Parsed (prefixed sign t) (h + 1) q
    unfolding unary_at unary_on signed sign_of
    finds-signed p mark sign t h q is prefix deep low =
        ap (λ k. unary_on tokens (below tokens b) b (sign_of k) p) is ∙ ap (λ s. unary_on tokens (below tokens b) b s p) prefix ∙ allowed-yes 2 b p _ low
        ∙ after-parsed (below tokens b 11 (p + 1)) _ t h q deep

    -- an operand, from its first part on
    operand-first : (level p : ℕ) (t : SourceExpression) (h q : ℕ) → unary_at tokens (below tokens b) b p ≡ Parsed t h q →
        operand tokens (below tokens b) b level p ≡ climb tokens (below tokens b) b level b t h q
    unfolding operand
    operand-first level p t h q is = after-parsed (unary_at tokens (below tokens b) b p) _ t h q is

    -- one more operator
    joins : (m level : ℕ) (left right : SourceExpression) (turns i q j to : ℕ) (mark : Mark) (operator : Operator) → m ≤ level → b ≤ turns + i → max i j + 1 ≤ b →
        kind_at tokens q ≡ Some (kinds.Mark mark) → operator_of mark ≡ Some (operator, level) → below tokens b (level + 1) (q + 1) ≡ Parsed right j to →
        (fewer : ℕ) × (b ≤ fewer + (max i j + 1))
        × (climb tokens (below tokens b) b m turns left i q ≡ climb tokens (below tokens b) b m fewer (infixed operator (line_at tokens q) left right) (max i j + 1) to)
    unfolding infixed_at
    joins m level left right turns i q j to mark operator low enough fits is found deep =
        let turned = climb-turns tokens (below tokens b) b m turns left i q (operator, level) (omega arith) (operator_from-found level m (kind_at tokens q) mark operator is found low) in
        let some = turned.1 in (
          turned.0,
          omega arith,
          turned.2
              ∙ ap (λ o. after o (climb tokens (below tokens b) b m turned.0))
              (allowed-yes (i + 1) b q _ (omega arith) ∙ after-parsed (below tokens b (level + 1) (q + 1)) _ right j to deep),
        )

    chosen : (p : ℕ) (test one other : SourceExpression) (turns i q j r k' to : ℕ) → max i (max j k') + 1 ≤ b →
        operand tokens (below tokens b) b 1 p ≡ climb tokens (below tokens b) b 1 turns test i q → kind_at tokens q ≡ Some (kinds.Mark marks.Question) →
        expression_at tokens (b - 1) 0 (q + 1) ≡ Parsed one j r → kind_at tokens r ≡ Some (kinds.Mark marks.Colon) → expression_at tokens (b - 1) 0 (r + 1) ≡ Parsed other k' to →
        expression_at tokens b 0 p ≡ Parsed (Conditional test one other) (max i (max j k') + 1) to
    unfolding part choice
    chosen p test one other turns i q j r k' to fits is question first colon second =
        expression_at-part tokens b 0 p
        ∙ ap (λ o. after o (choice tokens (below tokens b) b))
        (is ∙ climb-ends tokens (below tokens b) b 1 turns test i q (question-operator (kind_at tokens q) question)) ∙
        cond-yes _ _ _ (is_mark-of marks.Question (kind_at tokens q) question) ∙ allowed-yes (i + 1) b q _ (omega arith) ∙
        after-parsed (below tokens b 0 (q + 1)) _ one j r (inner-whole b (q + 1) one j r (omega arith) first) ∙ expect-yes tokens marks.Colon r _ colon ∙
        after-parsed (below tokens b 0 (r + 1)) _ other k' to (inner-whole b (r + 1) other k' to (omega arith) second)

    unchosen : (p : ℕ) (t : SourceExpression) (turns h q : ℕ) → operand tokens (below tokens b) b 1 p ≡ climb tokens (below tokens b) b 1 turns t h q →
        FollowsWhole (kind_at tokens q) → expression_at tokens b 0 p ≡ Parsed t h q
    unfolding part choice
    unchosen p t turns h q is follows =
        expression_at-part tokens b 0 p ∙ ap (λ o. after o (choice tokens (below tokens b) b)) (is ∙ climb-ends tokens (below tokens b) b 1 turns t h q follows.operator)
        ∙ cond-no _ _ _ follows.question

  mutual
    pub finds-expression : (b p : ℕ) (t : SourceExpression) (h q : ℕ) → ReadsExpression tokens p t h q → FollowsWhole (kind_at tokens q) → h ≤ b → expression_at tokens b 0 p ≡ Parsed t h q
    finds-expression b p t h q (ReadsExpression.plain d) follows fits =
        let found = finds-level b 1 p t h q d (record { bracket = follows.bracket; operator = operator_from-higher 1 2 (kind_at tokens q) (omega arith) follows.operator }) fits 1 (omega arith) in
        unchosen b p t found.0 h q found.2 follows
    finds-expression b p t h to (ReadsExpression.choice {i = i} {q = q} {j = j} {r = r} {k = k'} {test = test} {one = one} {other = other} d question first colon second) follows fits =
        let found = finds-level b 1 p test i q d
        (record {
          bracket = question-bracket (kind_at tokens q) question;
          operator =
              operator_from-higher 1 2 (kind_at tokens q) (omega arith) (question-operator (kind_at tokens q) question);
        }) (omega arith) 1 (omega arith) in
        chosen b p test one other found.0 i q j r k' to fits found.2 question
        (finds-expression (b - 1) (q + 1) one j r first (follows-colon (kind_at tokens r) colon) (omega arith)) colon
        (finds-expression (b - 1) (r + 1) other k' to second follows (omega arith))

    pub finds-level : (b level p : ℕ) (t : SourceExpression) (h q : ℕ) → ReadsLevel tokens level p t h q → Follows level (kind_at tokens q) → h ≤ b → (m : ℕ) → m ≤ level →
        (turns : ℕ) × (b ≤ turns + h) × (operand tokens (below tokens b) b m p ≡ climb tokens (below tokens b) b m turns t h q)
    finds-level b level p t h q (ReadsLevel.unary d) follows fits m low = (b, omega arith, operand-first b m p t h q (finds-unary b p t h q d follows.bracket fits))
    finds-level b level p t h q (ReadsLevel.tighter d) follows fits m low =
        finds-level b (level + 1) p t h q d
        (record { bracket = follows.bracket; operator = operator_from-higher (level + 1) (level + 1 + 1) (kind_at tokens q) (omega arith) follows.operator }) fits m
        (omega arith)
    finds-level b level p t h to (ReadsLevel.binary {i = i} {q = q} {j = j} {left = left} {right = right} {mark = mark} {operator = operator} d is found e) follows fits m low =
        let first = finds-level b level p left i q d
        (record {
          bracket = operator-bracket level (kind_at tokens q) mark operator is found;
          operator =
              operator_from-passed level (level + 1) (kind_at tokens q) mark operator is found (omega arith);
        }) (omega arith) m low in
        let second = finds-level (b - 1) (level + 1) (q + 1) right j to e
        (record { bracket = follows.bracket; operator = operator_from-higher (level + 1) (level + 1 + 1) (kind_at tokens to) (omega arith) follows.operator })
        (omega arith) (level + 1) (omega arith) in
        let deep = inner-operand b (level + 1) (q + 1) (omega arith) (omega arith) ∙ second.2 ∙ climb-ends tokens (below tokens (b - 1)) (b - 1) (level + 1) second.0 right j to follows.operator in
        let more = joins b m level left right first.0 i q j to mark operator low first.1 fits is found deep in
        (more.0, more.1, first.2 ∙ more.2)

    pub finds-unary : (b p : ℕ) (t : SourceExpression) (h q : ℕ) → ReadsUnary tokens p t h q → is_mark marks.LeftBracket (kind_at tokens q) ≡ false → h ≤ b →
        unary_at tokens (below tokens b) b p ≡ Parsed t h q
    finds-unary b p t h q (ReadsUnary.primary d) bracket fits = finds-primary b p t h q d bracket fits
    finds-unary b p t h q (ReadsUnary.signed {height = height} {tree = tree} {mark = mark} {sign = sign} is prefix d) bracket fits =
        let some = unary-positive tokens (p + 1) tree height q d in
        let deep = inner-operand b 11 (p + 1) (omega arith) (omega arith) ∙ operand-first (b - 1) 11 (p + 1) tree height q (finds-unary (b - 1) (p + 1) tree height q d bracket (omega arith)) ∙
        climb-ends tokens (below tokens (b - 1)) (b - 1) 11 (b - 1) tree height q (operator_from-unary (kind_at tokens q)) in
        finds-signed b p mark sign tree height q is prefix deep (omega arith)

    pub finds-primary : (b p : ℕ) (t : SourceExpression) (h q : ℕ) → ReadsPrimary tokens p t h q → is_mark marks.LeftBracket (kind_at tokens q) ≡ false → h ≤ b →
        unary_at tokens (below tokens b) b p ≡ Parsed t h q
    finds-primary b p t h q (ReadsPrimary.number {value = value} is) bracket fits = finds-number b p value is fits
    finds-primary b p t h q (ReadsPrimary.name {symbol = symbol} is) bracket fits =
        named_as b p symbol is fits ∙ after-parsed (lvalue_named tokens (below tokens b) b symbol p) _ _ 0 (p + 1) (finds-lone b p symbol bracket)
    finds-primary b p t h q (ReadsPrimary.element {symbol = symbol} {height = height} {q = r} {index = index} is open' d close') bracket fits =
        let some = expression-positive tokens (p + 2) index height r d in
        named_as b p symbol is (omega arith) ∙ after-parsed (lvalue_named tokens (below tokens b) b symbol p) _ _ (height + 1) (r + 1)
        (finds-indexed b p symbol index height r open' (finds-expression (b - 1) (p + 2) index height r d (follows-bracket (kind_at tokens r) close') (omega arith)) close' (omega arith))
    finds-primary b p t h q (ReadsPrimary.input is open' close') bracket fits = finds-input b p is open' close' fits
    finds-primary b p t h q (ReadsPrimary.grouped {height = height} {q = r} {tree = tree} is d close') bracket fits =
        let some = expression-positive tokens (p + 1) tree height r d in
        finds-grouped b p tree height r is (finds-expression (b - 1) (p + 1) tree height r d (follows-paren (kind_at tokens r) close') (omega arith)) close' (omega arith)
