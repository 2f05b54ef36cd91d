-- What the parser of translation units gives is what the grammar reads.
use Rattle.std.proofs.Common.{◌≡◌, refl, subst, ℕ, zero, suc, ◌+◌, ◌-◌, ◌≤◌, List, length, arith}
use Rattle.std.specs.Prelude.{Option, Some, None}
use Rattle.pc_lexer.specs.declared.token.Token.{Token}
use Rattle.pc_lexer.specs.declared.token.TokenKind.TheVariants as kinds
use Rattle.pc_lexer.specs.declared.mark.Mark.TheVariants as marks
use Rattle.pc_lexer.specs.declared.keyword.Keyword.TheVariants as keys
use Rattle.pc_syntax.specs.declared.unit.Param.{Param}
use Rattle.pc_syntax.specs.Unit.{UnitFunction, TranslationUnit}
use Rattle.pc_parser.specs.declared.calls.Calls.TheVariants.{Allowed}
use Rattle.pc_parser.specs.Places.{kind_at, line_at}
use Rattle.pc_parser.specs.Units.{ReadsParameter, ReadsParameterList, ReadsParameters, ReadsFunction, ReadsFunctions}
use Rattle.pc_parser.specs.models.Tests.{symbol_of}
use Rattle.pc_parser.specs.models.Outcome.{ParseOutcome, Parsed, Unreadable, TooHigh}
use Rattle.pc_parser.specs.models.StatementParser.{block_at, statement_below, main_at}
use Rattle.pc_parser.specs.models.UnitParser.{function_with, parameter_on, parameter_at, parameter_list_at, parameters_at, function_at, main_alone, functions_on, functions_at, unit_at}
use Rattle.pc_parser.proofs.Names.{symbol-is}
use Rattle.pc_parser.proofs.Onward.{inside, items-onward}
use Rattle.pc_parser.proofs.Holds.{Good, after-good, expect-good, expect_key-good, on_mark-good, on_key-good}
use Rattle.pc_parser.proofs.HoldsStatements.{IsBlock, IsMainPart, block_at-holds, below-holds, main_at-holds}

module _ (tokens : List Token) (late : ℕ) where
  record IsParameter (p : ℕ) (t : Param) (h q : ℕ) : Type 0 where
    pub reads : ReadsParameter tokens p t q
    pub within : q ≤ length tokens
    pub onward : p ≤ q

  record AreParameters (p : ℕ) (t : List Param) (h q : ℕ) : Type 0 where
    pub reads : ReadsParameters tokens p t q
    pub within : q ≤ length tokens
    pub onward : p ≤ q

  record IsParameterList (p : ℕ) (t : List Param) (h q : ℕ) : Type 0 where
    pub reads : ReadsParameterList tokens p t q
    pub within : q ≤ length tokens
    pub onward : p ≤ q

  parameter_at-holds : (p : ℕ) → p ≤ length tokens → Good (length tokens) late (IsParameter p) (parameter_at tokens p)
  unfolding parameter_at parameter_on
  parameter_at-holds p within =
      expect_key-good tokens late keys.Int p (IsParameter p) _ within (λ int below'. by int (symbol_of (kind_at tokens (p + 1))) refl below')
    where
      by : kind_at tokens p ≡ Some (kinds.Key keys.Int) → (symbol : Option ℕ) → symbol_of (kind_at tokens (p + 1)) ≡ symbol → suc p ≤ length tokens →
          Good (length tokens) late (IsParameter p) (parameter_on tokens symbol p)
      by int (Some symbol) found below' =
          let name = symbol-is (kind_at tokens (p + 1)) symbol found in
          let here = inside tokens (p + 1) _ name in
          record { reads = ReadsParameter.parameter int name; within = omega arith; onward = omega arith }
      by int None found below' = omega arith

  parameter_list_at-holds : (n p : ℕ) → p ≤ length tokens → Good (length tokens) late (IsParameterList p) (parameter_list_at tokens n p)
  unfolding parameter_list_at
  parameter_list_at-holds zero p within = within
  parameter_list_at-holds (suc n) p within =
      after-good (length tokens) late late (IsParameter p) (IsParameterList p) (parameter_at tokens p) _ (omega arith) (parameter_at-holds p within) (λ t h q first.
      let onward = first.onward in
      on_mark-good tokens late marks.Comma q (IsParameterList p) _ _
      (λ comma below'. after-good (length tokens) late late (IsParameterList (q + 1)) (IsParameterList p) (parameter_list_at tokens n (q + 1)) _ (omega arith)
      (parameter_list_at-holds n (q + 1) (omega arith)) (λ rest j to others.
      let onward' = others.onward in
      record { reads = ReadsParameterList.comma first.reads comma others.reads; within = others.within; onward = omega arith }))
      (λ no'. expect-good tokens late marks.RightParen q (IsParameterList p) _ first.within
      (λ close' below'. record { reads = ReadsParameterList.last first.reads close'; within = omega arith; onward = omega arith })))

  parameters_at-holds : (p : ℕ) → p ≤ length tokens → Good (length tokens) late (AreParameters p) (parameters_at tokens p)
  unfolding parameters_at
  parameters_at-holds p within =
      on_mark-good tokens late marks.RightParen p (AreParameters p) _ _
      (λ close' below'. record { reads = ReadsParameters.none close'; within = omega arith; onward = omega arith }) (λ no'.
      on_key-good tokens late keys.Void p (AreParameters p) _ _
      (λ void below'. expect-good tokens late marks.RightParen (p + 1) (AreParameters p) _ (omega arith)
      (λ close' below''. record { reads = ReadsParameters.void void close'; within = omega arith; onward = omega arith }))
      (λ no''. after-some (parameter_list_at tokens (length tokens + 1) p) (parameter_list_at-holds (length tokens + 1) p within)))
    where
      after-some : (o : ParseOutcome (List Param)) → Good (length tokens) late (IsParameterList p) o → Good (length tokens) late (AreParameters p) o
      after-some (Parsed t h q) good = record { reads = ReadsParameters.some good.reads; within = good.within; onward = good.onward }
      after-some (Unreadable at) good = good
      after-some (TooHigh at) good = good

  module _ (b : ℕ) where
    record IsFunction (p : ℕ) (f : UnitFunction) (h q : ℕ) : Type 0 where
      pub reads : ReadsFunction tokens p f h q
      pub low : h ≤ b
      pub within : q ≤ length tokens
      pub onward : p ≤ q

    pub record IsUnit (p : ℕ) (u : TranslationUnit) (h q : ℕ) : Type 0 where
      pub reads : ReadsFunctions tokens p u h
      pub low : h ≤ b

  module _ (b : ℕ) (lateness : late ≤ b - 1 + 3) where
    function_at-holds : (symbol p : ℕ) → kind_at tokens p ≡ Some (kinds.Key keys.Int) → kind_at tokens (p + 1) ≡ Some (kinds.Name symbol) →
        Good (length tokens) late (IsFunction b p) (function_at tokens b symbol p)
    unfolding function_at
    function_at-holds symbol p int name =
        let here = inside tokens (p + 1) _ name in
        expect-good tokens late marks.LeftParen (p + 2) (IsFunction b p) _ (omega arith) (λ open' below'.
        after-good (length tokens) late late (AreParameters (p + 3)) (IsFunction b p) (parameters_at tokens (p + 3)) _ (omega arith) (parameters_at-holds (p + 3) (omega arith))
        (λ parameters other q given.
        let onward = given.onward in
        expect-good tokens late marks.LeftBrace q (IsFunction b p) _ given.within (λ brace below''.
        after-good (length tokens) late (b - 1 + q) (IsBlock tokens Allowed b q) (IsFunction b p) (block_at tokens Allowed (statement_below tokens Allowed b) b q) _ (omega arith)
        (block_at-holds tokens Allowed (statement_below tokens Allowed b) b (below-holds tokens Allowed b) q brace) (λ items h to block.
        let low' = block.items.low in let some = block.some in let is = block.is in
        let onward' = items-onward tokens Allowed (q + 1) items block.height to block.items.reads in
        record {
          reads =
              subst (λ n. ReadsFunction tokens p (function_with symbol (line_at tokens (p + 1)) parameters items) n to) block.is
              (ReadsFunction.function int name open' given.reads brace block.items.reads);
          low = omega arith;
          within = block.items.within;
          onward = omega arith;
        }))))

    main_alone-holds : (p : ℕ) → kind_at tokens p ≡ Some (kinds.Key keys.Int) → Good (length tokens) late (IsUnit b p) (main_alone tokens b (p + 1))
    unfolding main_alone
    main_alone-holds p int =
        let here = inside tokens p _ int in
        after-good (length tokens) late (b - 1 + (p + 1 + 2)) (IsMainPart tokens Allowed b (p + 1)) (IsUnit b p) (main_at tokens Allowed b (p + 1)) _ (omega arith)
        (main_at-holds tokens Allowed b (p + 1) (omega arith)) (λ items h to good. record { reads = ReadsFunctions.main int good.reads; low = good.low })

    functions_at-holds : (n p : ℕ) → p ≤ length tokens → Good (length tokens) late (IsUnit b p) (functions_at tokens b n p)
    unfolding functions_at functions_on
    functions_at-holds zero p within = within
    functions_at-holds (suc n) p within =
        expect_key-good tokens late keys.Int p (IsUnit b p) _ within (λ int below'. by (functions_at-holds n) int (symbol_of (kind_at tokens (p + 1))) refl)
      where
        by : ((q : ℕ) → q ≤ length tokens → Good (length tokens) late (IsUnit b q) (functions_at tokens b n q)) → kind_at tokens p ≡ Some (kinds.Key keys.Int) →
            (symbol : Option ℕ) → symbol_of (kind_at tokens (p + 1)) ≡ symbol →
            Good (length tokens) late (IsUnit b p) (functions_on tokens b (functions_at tokens b n) symbol p)
        by others-hold int (Some symbol) found =
            after-good (length tokens) late late (IsFunction b p) (IsUnit b p) (function_at tokens b symbol p) _ (omega arith)
            (function_at-holds symbol p int (symbol-is (kind_at tokens (p + 1)) symbol found)) (λ function h q first.
            let low' = first.low in
            after-good (length tokens) late late (IsUnit b q) (IsUnit b p) (functions_at tokens b n q) _ (omega arith) (others-hold q first.within) (λ unit j to others.
            let low'' = others.low in
            record { reads = ReadsFunctions.function first.reads others.reads; low = omega arith }))
        by others-hold int None found = main_alone-holds p int

    pub unit_at-holds : Good (length tokens) late (IsUnit b 0) (unit_at tokens b)
    unfolding unit_at
    unit_at-holds = functions_at-holds (length tokens + 1) 0 (omega arith)
