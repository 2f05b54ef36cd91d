-- The parser of static arrays finds a reading.
use Rattle.std.proofs.Common.{◌≡◌, ap, ◌∙◌, ℕ, zero, suc, ◌+◌, ◌<◌, false, List, length, arith}
use Rattle.pc_lexer.specs.declared.token.Token.{Token}
use Rattle.pc_lexer.specs.declared.mark.Mark.TheVariants as marks
use Rattle.pc_syntax.specs.declared.constant.Const.{Const}
use Rattle.pc_syntax.specs.Unit.{UnitStatement}
use Rattle.pc_parser.specs.declared.calls.Calls.{Calls}
use Rattle.pc_parser.specs.declared.storage.Storage.TheVariants.{Static}
use Rattle.pc_parser.specs.Places.{kind_at}
use Rattle.pc_parser.specs.models.Tests.{is_mark, symbol_of}
use Rattle.pc_parser.specs.Statements.{ReadsConstant, ReadsConstants, ReadsDeclarator}
use Rattle.pc_parser.specs.models.Outcome.{Parsed}
use Rattle.pc_parser.specs.models.StatementParser.{length_of, number_of, plain, negated, constant_at, constants_at, valued, sized, fixed_on}
use Rattle.pc_parser.proofs.Tokens.{is_mark-of}
use Rattle.pc_parser.proofs.Finds.{expect-yes, after-parsed, cond-yes, cond-no}
use Rattle.pc_parser.proofs.Onward.{inside, constant-onward}

module _ (tokens : List Token) (calls : Calls) where
  finds-constant : (p : ℕ) (t : Const) (q : ℕ) → ReadsConstant tokens p t q → constant_at tokens p ≡ Parsed t 1 q
  unfolding constant_at plain negated number_of
  finds-constant p t q (ReadsConstant.number is) = cond-no _ _ _ (ap (is_mark marks.Minus) is) ∙ ap (λ k. plain tokens p (number_of k)) is
  finds-constant p t q (ReadsConstant.negated minus is) =
      cond-yes _ _ _ (is_mark-of marks.Minus (kind_at tokens p) minus) ∙ ap (λ k. negated tokens p (number_of k)) is

  constant-inside : (p : ℕ) (t : Const) (q : ℕ) → ReadsConstant tokens p t q → p < length tokens
  constant-inside p t q (ReadsConstant.number is) = inside tokens p _ is
  constant-inside p t q (ReadsConstant.negated minus is) = inside tokens p _ minus

  -- a constant begins with no `}`
  constant-brace : (p : ℕ) (t : Const) (q : ℕ) → ReadsConstant tokens p t q → is_mark marks.RightBrace (kind_at tokens p) ≡ false
  constant-brace p t q (ReadsConstant.number is) = ap (is_mark marks.RightBrace) is
  constant-brace p t q (ReadsConstant.negated minus is) = ap (is_mark marks.RightBrace) minus

  constants-brace : (p : ℕ) (t : List Const) (q : ℕ) → ReadsConstants tokens p t q → is_mark marks.RightBrace (kind_at tokens p) ≡ false
  constants-brace p t q (ReadsConstants.last {q = r} {tree = tree} d close') = constant-brace p tree r d
  constants-brace p t q (ReadsConstants.last_with_comma {q = r} {tree = tree} d comma close') = constant-brace p tree r d
  constants-brace p t q (ReadsConstants.comma {q = r} {tree = tree} d comma e) = constant-brace p tree r d

  finds-constants : (n p : ℕ) (t : List Const) (q : ℕ) → ReadsConstants tokens p t q → length tokens < p + n → constants_at tokens n p ≡ Parsed t 1 q
  unfolding constants_at
  finds-constants zero p t q (ReadsConstants.last {q = r} {tree = tree} d close') enough = let a = constant-inside p tree r d in absurd (omega arith)
  finds-constants zero p t q (ReadsConstants.last_with_comma {q = r} {tree = tree} d comma close') enough = let a = constant-inside p tree r d in absurd (omega arith)
  finds-constants zero p t q (ReadsConstants.comma {q = r} {tree = tree} d comma e) enough = let a = constant-inside p tree r d in absurd (omega arith)
  finds-constants (suc n) p t q (ReadsConstants.last {q = r} {tree = tree} d close') enough =
      after-parsed (constant_at tokens p) _ tree 1 r (finds-constant p tree r d) ∙
      cond-no _ _ _ (ap (is_mark marks.Comma) close') ∙ expect-yes tokens marks.RightBrace r _ close'
  finds-constants (suc n) p t q (ReadsConstants.last_with_comma {q = r} {tree = tree} d comma close') enough =
      after-parsed (constant_at tokens p) _ tree 1 r (finds-constant p tree r d) ∙
      cond-yes _ _ _ (is_mark-of marks.Comma (kind_at tokens r) comma) ∙ cond-yes _ _ _ (is_mark-of marks.RightBrace (kind_at tokens (r + 1)) close')
  finds-constants (suc n) p t q (ReadsConstants.comma {q = r} {tree = tree} {rest = rest} d comma e) enough =
      let onward = constant-onward tokens p tree r d in
      after-parsed (constant_at tokens p) _ tree 1 r (finds-constant p tree r d) ∙
      cond-yes _ _ _ (is_mark-of marks.Comma (kind_at tokens r) comma) ∙ cond-no _ _ _ (constants-brace (r + 1) rest q e) ∙
      after-parsed (constants_at tokens n (r + 1)) _ rest 1 q (finds-constants n (r + 1) rest q e (omega arith))

  -- a declarator of a static declaration, which no `=` follows
  pub finds-fixed : (p : ℕ) (s : UnitStatement) (h q : ℕ) → ReadsDeclarator tokens calls Static p s h q → is_mark marks.Assign (kind_at tokens q) ≡ false →
      fixed_on tokens (symbol_of (kind_at tokens p)) p ≡ Parsed s h q
  unfolding fixed_on sized valued symbol_of length_of
  finds-fixed p s h q (ReadsDeclarator.array {symbol = symbol} is open' number close') ends =
      ap (λ k. fixed_on tokens (symbol_of k) p) is ∙ expect-yes tokens marks.LeftBracket (p + 1) _ open' ∙
      ap (λ k. sized tokens symbol p (length_of k)) number ∙ expect-yes tokens marks.RightBracket (p + 3) _ close' ∙ cond-no _ _ _ ends
  finds-fixed p s h q (ReadsDeclarator.initialised_array {symbol = symbol} {values = values} is open' number close' assign brace d) ends =
      ap (λ k. fixed_on tokens (symbol_of k) p) is ∙ expect-yes tokens marks.LeftBracket (p + 1) _ open' ∙
      ap (λ k. sized tokens symbol p (length_of k)) number ∙ expect-yes tokens marks.RightBracket (p + 3) _ close' ∙
      cond-yes _ _ _ (is_mark-of marks.Assign (kind_at tokens (p + 4)) assign) ∙ expect-yes tokens marks.LeftBrace (p + 5) _ brace ∙
      after-parsed (constants_at tokens (length tokens + 1) (p + 6)) _ values 1 q (finds-constants (length tokens + 1) (p + 6) values q d (omega arith))
