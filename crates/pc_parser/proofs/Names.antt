-- Expressions that begin with a name, and calls, which no expression begins with.
use Rattle.std.proofs.Common.{◌≡◌, refl, sym, ap, ◌∙◌, ℕ, ◌+◌, ◌≤◌, Bool, true, false, List}
use Rattle.std.specs.Prelude.{Option, Some, None}
use Rattle.pc_lexer.specs.declared.token.Token.{Token}
use Rattle.pc_lexer.specs.declared.token.TokenKind.{TokenKind}
use Rattle.pc_lexer.specs.declared.token.TokenKind.TheVariants as kinds
use Rattle.pc_lexer.specs.declared.mark.Mark.{Mark}
use Rattle.pc_lexer.specs.declared.mark.Mark.TheVariants as marks
use Rattle.pc_syntax.specs.Source.{SourceExpression}
use Rattle.pc_parser.specs.declared.calls.Calls.{Calls}
use Rattle.pc_parser.specs.declared.calls.Calls.TheVariants.{Allowed, Refused}
use Rattle.pc_parser.specs.declared.operator.Operator.{Operator}
use Rattle.pc_parser.specs.Places.{kind_at}
use Rattle.pc_parser.specs.Operators.{operator_of}
use Rattle.pc_parser.specs.Expressions.{ReadsExpression, ReadsLevel, ReadsUnary, ReadsPrimary}
use Rattle.pc_parser.specs.models.Tests.{is_mark, symbol_of}
use Rattle.pc_parser.specs.models.Outcome.{Parsed, after}
use Rattle.pc_parser.specs.models.ExpressionParser.{sign_of, lvalue_named, lvalue_tree, lvalue_height, primary_on, name_at, unary_on, unary_at, climb, choice, operand, part, expression_at, below}
use Rattle.pc_parser.specs.models.CallParser.{in_front_of_paren, called}
use Rattle.pc_parser.proofs.Budgets.{expression_at-part}
use Rattle.pc_parser.proofs.Tokens.{is_mark-of, is_mark-true}
use Rattle.pc_parser.proofs.Finds.{allowed-yes, cond-yes, cond-no}

-- an expression that begins with a name, by its lvalue
pub split-name : (tokens : List Token) (e p symbol : ℕ) → kind_at tokens p ≡ Some (kinds.Name symbol) → 1 ≤ e →
    expression_at tokens e 0 p
    ≡ after (after (after (lvalue_named tokens (below tokens e) e symbol p) (λ lvalue height to. Parsed (lvalue_tree lvalue) (lvalue_height lvalue height) to))
    (λ tree height to. climb tokens (below tokens e) e 1 e tree height to)) (choice tokens (below tokens e) e)
unfolding part operand unary_at unary_on sign_of primary_on name_at
split-name tokens e p symbol is low =
    expression_at-part tokens e 0 p
    ∙ ap (λ k. after (after (unary_on tokens (below tokens e) e (sign_of k) p) (λ tree height to. climb tokens (below tokens e) e 1 e tree height to))
    (choice tokens (below tokens e) e)) is ∙
    ap (λ k. after (after (primary_on tokens (below tokens e) e k p) (λ tree height to. climb tokens (below tokens e) e 1 e tree height to)) (choice tokens (below tokens e) e)) is ∙
    ap (λ o. after (after o (λ tree height to. climb tokens (below tokens e) e 1 e tree height to)) (choice tokens (below tokens e) e)) (allowed-yes 1 e p _ low)

-- what is a name
pub symbol-is : (kind : Option TokenKind) (symbol : ℕ) → symbol_of kind ≡ Some symbol → kind ≡ Some (kinds.Name symbol)
unfolding symbol_of
symbol-is (Some (kinds.Name found)) symbol is = let same : found ≡ symbol = cc in ap (λ s. Some (kinds.Name s)) same
symbol-is (Some (kinds.Number value)) symbol is = cc
symbol-is (Some (kinds.Key key)) symbol is = cc
symbol-is (Some (kinds.Mark mark)) symbol is = cc
symbol-is None symbol is = cc

-- the name of a call, and its `(`
paren-follows : (symbol : Option ℕ) (next : Option TokenKind) (function : ℕ) → in_front_of_paren symbol next ≡ Some function →
    (symbol ≡ Some function) × (next ≡ Some (kinds.Mark marks.LeftParen))
paren-follows None next function is = cc
paren-follows (Some symbol) next function is = by (is_mark marks.LeftParen next) refl
  where
    by : (t : Bool) → is_mark marks.LeftParen next ≡ t → (Some symbol ≡ Some function) × (next ≡ Some (kinds.Mark marks.LeftParen))
    by true yes' = (sym (cond-yes (is_mark marks.LeftParen next) (Some symbol) None yes') ∙ is, is_mark-true marks.LeftParen next yes')
    by false no' = let bad : None ≡ Some function = sym (cond-no (is_mark marks.LeftParen next) (Some symbol) None no') ∙ is in cc

pub called-is : (calls : Calls) (kind next : Option TokenKind) (function : ℕ) → called calls kind next ≡ Some function →
    (calls ≡ Allowed) × (kind ≡ Some (kinds.Name function)) × (next ≡ Some (kinds.Mark marks.LeftParen))
unfolding called
called-is Refused kind next function is = cc
called-is Allowed kind next function is = let w = paren-follows (symbol_of kind) next function is in (refl, symbol-is kind function w.0, w.1)

pub called-yes : (kind next : Option TokenKind) (function : ℕ) → kind ≡ Some (kinds.Name function) → next ≡ Some (kinds.Mark marks.LeftParen) →
    called Allowed kind next ≡ Some function
unfolding called symbol_of
called-yes kind next function is open' = ap (λ k. in_front_of_paren (symbol_of k) next) is ∙ cond-yes _ _ _ (is_mark-of marks.LeftParen next open')

-- what is no name, or a name that no `(` follows, is not called
called-unnamed : (calls : Calls) (kind next : Option TokenKind) → symbol_of kind ≡ None → called calls kind next ≡ None
unfolding called
called-unnamed Refused kind next none = refl
called-unnamed Allowed kind next none = ap (λ s. in_front_of_paren s next) none

pub called-alone : (calls : Calls) (kind next : Option TokenKind) → is_mark marks.LeftParen next ≡ false → called calls kind next ≡ None
unfolding called
called-alone Refused kind next no' = refl
called-alone Allowed kind next no' = by (symbol_of kind)
  where
    by : (symbol : Option ℕ) → in_front_of_paren symbol next ≡ None
    by None = refl
    by (Some symbol) = cond-no _ _ _ no'

-- an operator is no `(`
operator-paren : (mark : Mark) (found : Operator × ℕ) → operator_of mark ≡ Some found → is_mark marks.LeftParen (Some (kinds.Mark mark)) ≡ false
unfolding operator_of
operator-paren marks.LeftParen found is = cc
operator-paren mark found is = refl

-- no expression begins with a call, where no `(` follows it
module _ (tokens : List Token) (calls : Calls) where
  abbrev IsNotCalled : ℕ → Type 0
  IsNotCalled p = called calls (kind_at tokens p) (kind_at tokens (p + 1)) ≡ None

  unnamed : (p : ℕ) (kind : Option TokenKind) → kind_at tokens p ≡ kind → symbol_of kind ≡ None → IsNotCalled p
  unnamed p kind is none = called-unnamed calls (kind_at tokens p) (kind_at tokens (p + 1)) (ap symbol_of is ∙ none)

  mutual
    unfolding symbol_of

    pub expression-uncalled : (p : ℕ) (t : SourceExpression) (h q : ℕ) → ReadsExpression tokens p t h q → is_mark marks.LeftParen (kind_at tokens q) ≡ false → IsNotCalled p
    expression-uncalled p t h q (ReadsExpression.plain d) ends = level-uncalled 1 p t h q d ends
    expression-uncalled p t h q (ReadsExpression.choice {i = i} {q = r} {test = test} d question one colon other) ends =
        level-uncalled 1 p test i r d (ap (is_mark marks.LeftParen) question)

    level-uncalled : (level p : ℕ) (t : SourceExpression) (h q : ℕ) → ReadsLevel tokens level p t h q → is_mark marks.LeftParen (kind_at tokens q) ≡ false → IsNotCalled p
    level-uncalled level p t h q (ReadsLevel.unary d) ends = unary-uncalled p t h q d ends
    level-uncalled level p t h q (ReadsLevel.tighter d) ends = level-uncalled (level + 1) p t h q d ends
    level-uncalled level p t h q (ReadsLevel.binary {i = i} {q = r} {left = left} {mark = mark} {operator = operator} d is found e) ends =
        level-uncalled level p left i r d (ap (is_mark marks.LeftParen) is ∙ operator-paren mark (operator, level) found)

    unary-uncalled : (p : ℕ) (t : SourceExpression) (h q : ℕ) → ReadsUnary tokens p t h q → is_mark marks.LeftParen (kind_at tokens q) ≡ false → IsNotCalled p
    unary-uncalled p t h q (ReadsUnary.primary d) ends = primary-uncalled p t h q d ends
    unary-uncalled p t h q (ReadsUnary.signed is prefix d) ends = unnamed p _ is refl

    primary-uncalled : (p : ℕ) (t : SourceExpression) (h q : ℕ) → ReadsPrimary tokens p t h q → is_mark marks.LeftParen (kind_at tokens q) ≡ false → IsNotCalled p
    primary-uncalled p t h q (ReadsPrimary.number is) ends = unnamed p _ is refl
    primary-uncalled p t h q (ReadsPrimary.name is) ends = called-alone calls (kind_at tokens p) (kind_at tokens (p + 1)) ends
    primary-uncalled p t h q (ReadsPrimary.element is open' d close') ends = called-alone calls (kind_at tokens p) (kind_at tokens (p + 1)) (ap (is_mark marks.LeftParen) open')
    primary-uncalled p t h q (ReadsPrimary.input is open' close') ends = unnamed p _ is refl
    primary-uncalled p t h q (ReadsPrimary.grouped is d close') ends = unnamed p _ is refl
