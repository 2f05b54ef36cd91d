-- The parser of translation units finds a reading that the budget allows.
use Rattle.std.proofs.Common.{◌≡◌, ap, ◌∙◌, ℕ, zero, suc, ◌+◌, ◌<◌, ◌≤◌, false, List, ◌∷◌, length, arith}
use Rattle.std.specs.Prelude.{None, max}
use Rattle.pc_lexer.specs.declared.token.Token.{Token}
use Rattle.pc_lexer.specs.declared.mark.Mark.TheVariants as marks
use Rattle.pc_lexer.specs.declared.keyword.Keyword.TheVariants as keys
use Rattle.pc_syntax.specs.declared.unit.Param.{Param}
use Rattle.pc_syntax.specs.Unit.{UnitFunction, TranslationUnit}
use Rattle.pc_parser.specs.declared.calls.Calls.TheVariants.{Allowed}
use Rattle.pc_parser.specs.Places.{kind_at}
use Rattle.pc_parser.specs.Statements.{ReadsMain}
use Rattle.pc_parser.specs.Units.{ReadsParameter, ReadsParameterList, ReadsParameters, ReadsFunction, ReadsFunctions}
use Rattle.pc_parser.specs.models.Tests.{is_mark, is_key, symbol_of}
use Rattle.pc_parser.specs.models.Outcome.{Parsed, after}
use Rattle.pc_parser.specs.models.StatementParser.{items_at, block_at, statement_below, main_at}
use Rattle.pc_parser.specs.models.UnitParser.{parameter_on, parameter_at, parameter_list_at, parameters_at, function_at, main_alone, functions_on, functions_at, unit_at}
use Rattle.pc_parser.proofs.Tokens.{is_mark-of, is_key-of}
use Rattle.pc_parser.proofs.Onward.{inside, items-onward}
use Rattle.pc_parser.proofs.Finds.{allowed-yes, expect-yes, expect_key-yes, after-parsed, cond-yes, cond-no}
use Rattle.pc_parser.proofs.FindsStatements.{finds-items, finds-main_part}

module _ (tokens : List Token) where
  finds-parameter : (p : ℕ) (t : Param) (q : ℕ) → ReadsParameter tokens p t q → parameter_at tokens p ≡ Parsed t 0 q
  unfolding parameter_at parameter_on symbol_of
  finds-parameter p t q (ReadsParameter.parameter int name) = expect_key-yes tokens keys.Int p _ int ∙ ap (λ k. parameter_on tokens (symbol_of k) p) name

  parameter-inside : (p : ℕ) (t : Param) (q : ℕ) → ReadsParameter tokens p t q → (p < length tokens) × (p < q)
  parameter-inside p t q (ReadsParameter.parameter int name) = (inside tokens p _ int, omega arith)

  parameter-begins : (p : ℕ) (t : Param) (q : ℕ) → ReadsParameter tokens p t q → (is_mark marks.RightParen (kind_at tokens p) ≡ false) × (is_key keys.Void (kind_at tokens p) ≡ false)
  parameter-begins p t q (ReadsParameter.parameter int name) = (ap (is_mark marks.RightParen) int, ap (is_key keys.Void) int)

  parameter_list-begins : (p : ℕ) (t : List Param) (q : ℕ) → ReadsParameterList tokens p t q → (is_mark marks.RightParen (kind_at tokens p) ≡ false) × (is_key keys.Void (kind_at tokens p) ≡ false)
  parameter_list-begins p t q (ReadsParameterList.last {q = r} {parameter = first} d close') = parameter-begins p first r d
  parameter_list-begins p t q (ReadsParameterList.comma {q = r} {parameter = first} d comma e) = parameter-begins p first r d

  finds-parameter_list : (n p : ℕ) (t : List Param) (q : ℕ) → ReadsParameterList tokens p t q → length tokens < p + n → parameter_list_at tokens n p ≡ Parsed t 0 q
  unfolding parameter_list_at
  finds-parameter_list zero p t q (ReadsParameterList.last {q = r} {parameter = first} d close') enough = let a = (parameter-inside p first r d).0 in absurd (omega arith)
  finds-parameter_list zero p t q (ReadsParameterList.comma {q = r} {parameter = first} d comma e) enough = let a = (parameter-inside p first r d).0 in absurd (omega arith)
  finds-parameter_list (suc n) p t q (ReadsParameterList.last {q = r} {parameter = first} d close') enough =
      after-parsed (parameter_at tokens p) _ first 0 r (finds-parameter p first r d) ∙ cond-no _ _ _ (ap (is_mark marks.Comma) close') ∙ expect-yes tokens marks.RightParen r _ close'
  finds-parameter_list (suc n) p t q (ReadsParameterList.comma {q = r} {parameter = first} {rest = rest} d comma e) enough =
      let onward = (parameter-inside p first r d).1 in
      after-parsed (parameter_at tokens p) _ first 0 r (finds-parameter p first r d) ∙ cond-yes _ _ _ (is_mark-of marks.Comma (kind_at tokens r) comma) ∙
      after-parsed (parameter_list_at tokens n (r + 1)) _ rest 0 q (finds-parameter_list n (r + 1) rest q e (omega arith))

  finds-parameters : (p : ℕ) (t : List Param) (q : ℕ) → ReadsParameters tokens p t q → parameters_at tokens p ≡ Parsed t 0 q
  unfolding parameters_at
  finds-parameters p t q (ReadsParameters.none close') = cond-yes _ _ _ (is_mark-of marks.RightParen (kind_at tokens p) close')
  finds-parameters p t q (ReadsParameters.void void close') =
      cond-no _ _ _ (ap (is_mark marks.RightParen) void) ∙ cond-yes _ _ _ (is_key-of keys.Void (kind_at tokens p) void) ∙ expect-yes tokens marks.RightParen (p + 1) _ close'
  finds-parameters p t q (ReadsParameters.some d) =
      let begins = parameter_list-begins p t q d in
      cond-no _ _ _ begins.0 ∙ cond-no _ _ _ begins.1 ∙ finds-parameter_list (length tokens + 1) p t q d (omega arith)

  function-onward : (p : ℕ) (f : UnitFunction) (h q : ℕ) → ReadsFunction tokens p f h q → (p < length tokens) × (p < q)
  function-onward p f h q (ReadsFunction.function {q = r} {height = i} {items = items} int name open' d brace e) =
      let a = items-onward tokens Allowed (r + 1) items i q e in
      let b = parameters-onward (p + 3) _ r d in
      (inside tokens p _ int, omega arith)
    where
      list-onward : (p : ℕ) (t : List Param) (q : ℕ) → ReadsParameterList tokens p t q → p ≤ q
      list-onward p t q (ReadsParameterList.last {q = r} {parameter = first} d close') = let a = (parameter-inside p first r d).1 in omega arith
      list-onward p t q (ReadsParameterList.comma {q = r} {parameter = first} {rest = rest} d comma e) =
          let a = (parameter-inside p first r d).1 in let b = list-onward (r + 1) rest q e in omega arith

      parameters-onward : (p : ℕ) (t : List Param) (q : ℕ) → ReadsParameters tokens p t q → p ≤ q
      parameters-onward p t q (ReadsParameters.none close') = omega arith
      parameters-onward p t q (ReadsParameters.void void close') = omega arith
      parameters-onward p t q (ReadsParameters.some d) = list-onward p t q d

  module _ (b : ℕ) where
    finds-function : (n p : ℕ) (f : UnitFunction) (h q : ℕ) → ReadsFunction tokens p f h q → h ≤ b →
        functions_at tokens b (suc n) p ≡ after (functions_at tokens b n q) (λ unit other to. Parsed record { functions = f ∷ unit.functions; main = unit.main } (max h other) to)
    unfolding functions_at functions_on function_at block_at symbol_of
    finds-function n p f h q (ReadsFunction.function {symbol = symbol} {q = r} {height = i} {parameters = parameters} {items = items} int name open' d brace e) fits =
        expect_key-yes tokens keys.Int p _ int ∙ ap (λ k. functions_on tokens b (functions_at tokens b n) (symbol_of k) p) name ∙
        after-parsed (function_at tokens b symbol p) _ _ h q
        (expect-yes tokens marks.LeftParen (p + 2) _ open' ∙ after-parsed (parameters_at tokens (p + 3)) _ parameters 0 r (finds-parameters (p + 3) parameters r d) ∙
        expect-yes tokens marks.LeftBrace r _ brace ∙
        after-parsed (block_at tokens Allowed (statement_below tokens Allowed b) b r) _ items (i + 1) q
        (allowed-yes 1 b r _ (omega arith) ∙ after-parsed (items_at tokens Allowed (statement_below tokens Allowed b) b (length tokens + 1) (r + 1)) _ items i q
        (finds-items tokens Allowed b (length tokens + 1) (r + 1) items i q e (omega arith) (omega arith) (omega arith))))

    finds-functions : (n p : ℕ) (u : TranslationUnit) (h : ℕ) → ReadsFunctions tokens p u h → length tokens < p + n → h ≤ b → (to : ℕ) × (functions_at tokens b n p ≡ Parsed u h to)
    unfolding functions_at functions_on main_alone symbol_of
    finds-functions zero p u h (ReadsFunctions.main int d) enough fits = let a = inside tokens p _ int in absurd (omega arith)
    finds-functions zero p u h (ReadsFunctions.function {i = i} {q = r} {function = function} d e) enough fits = let a = (function-onward p function i r d).0 in absurd (omega arith)
    finds-functions (suc n) p u h (ReadsFunctions.main {items = items} int d) enough fits =
        let found = finds-main_part tokens Allowed b (p + 1) items h d fits in
        let named = main-named (p + 1) items h d in (
          found.0,
          expect_key-yes tokens keys.Int p _ int ∙ ap (λ s. functions_on tokens b (functions_at tokens b n) s p) named
              ∙ after-parsed (main_at tokens Allowed b (p + 1)) _ items h found.0 found.1,
        )
      where
        main-named : (p : ℕ) (items : _) (h : ℕ) → ReadsMain tokens Allowed p items h → symbol_of (kind_at tokens p) ≡ None
        main-named p items h (ReadsMain.without_void main open' close' brace d' end') = ap symbol_of main
        main-named p items h (ReadsMain.with_void main open' void close' brace d' end') = ap symbol_of main
    finds-functions (suc n) p u h (ReadsFunctions.function {i = i} {q = r} {j = j} {function = function} {rest = rest} d e) enough fits =
        let onward = (function-onward p function i r d).1 in
        let found = finds-functions n r rest j e (omega arith) (omega arith) in
        (found.0, finds-function n p function i r d (omega arith) ∙ after-parsed (functions_at tokens b n r) _ rest j found.0 found.1)

    pub finds-unit : (u : TranslationUnit) (h : ℕ) → ReadsFunctions tokens 0 u h → h ≤ b → (to : ℕ) × (unit_at tokens b ≡ Parsed u h to)
    unfolding unit_at
    finds-unit u h d fits = finds-functions (length tokens + 1) 0 u h d (omega arith) fits
