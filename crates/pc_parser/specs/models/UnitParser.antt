-- The parser of translation units, under a budget of height.
use Rattle.std.specs.Prelude.{ℕ, zero, suc, ◌+◌, max, Option, Some, None, List, [], ◌∷◌, length, if◌then◌else◌}
use Rattle.pc_lexer.specs.declared.token.Token.{Token}
use Rattle.pc_lexer.specs.declared.token.TokenKind.{TokenKind}
use Rattle.pc_lexer.specs.declared.mark.Mark.TheVariants as marks
use Rattle.pc_lexer.specs.declared.keyword.Keyword.TheVariants as keys
use Rattle.pc_syntax.specs.declared.unit.Param.{Param}
use Rattle.pc_syntax.specs.Unit.{UnitList, UnitFunction, TranslationUnit}
use Rattle.pc_parser.specs.declared.calls.Calls.TheVariants.{Allowed}
use Rattle.pc_parser.specs.Places.{kind_at, line_at}
use Rattle.pc_parser.specs.Units.{result_of, without_result}
use Rattle.pc_parser.specs.models.Tests.{is_mark, is_key, symbol_of}
use Rattle.pc_parser.specs.models.Outcome.{ParseOutcome, Parsed, Unreadable, after, expect, expect_key}
use Rattle.pc_parser.specs.models.StatementParser.{block_at, statement_below, main_at}

-- the name of the function that begins with these two tokens, where one does
abbrev pub function_name : (kind next : Option TokenKind) → Option ℕ
function_name kind next = if is_key keys.Int kind then symbol_of next else None

-- a function of this name and line, with these parameters and the items of its block
abbrev pub function_with : (symbol line : ℕ) → List Param → UnitList → UnitFunction
function_with symbol line parameters items =
    record { symbol = symbol; line = line; parameters = parameters; items = without_result items; result = result_of items }

-- a unit with one more function in front of the others
abbrev pub with_function : UnitFunction → TranslationUnit → TranslationUnit
with_function function unit = record { functions = function ∷ unit.functions; main = unit.main }

module _ (tokens : List Token) where
  -- the parameter whose `int` was seen, or Unreadable where there is no name
  unfoldable pub parameter_on : Option ℕ → (from : ℕ) → ParseOutcome Param
  parameter_on (Some symbol) from = Parsed (record { symbol = symbol; line = line_at tokens (from + 1) }) 0 (from + 2)
  parameter_on None from = Unreadable (from + 1)

  -- a parameter
  unfoldable pub parameter_at : (from : ℕ) → ParseOutcome Param
  parameter_at from = expect_key tokens keys.Int from (parameter_on (symbol_of (kind_at tokens (from + 1))) from)

  -- parameters up to a `)`, as many as there are turns
  unfoldable pub parameter_list_at : (turns from : ℕ) → ParseOutcome (List Param)
  parameter_list_at zero from = Unreadable from
  parameter_list_at (suc turns) from = after (parameter_at from) (λ parameter height at.
      if is_mark marks.Comma (kind_at tokens at)
      then after (parameter_list_at turns (at + 1)) (λ rest other to. Parsed (parameter ∷ rest) 0 to)
      else expect tokens marks.RightParen at (Parsed (parameter ∷ []) 0 (at + 1)))

  -- the parameters of a function, after its `(`
  unfoldable pub parameters_at : (from : ℕ) → ParseOutcome (List Param)
  parameters_at from =
      if is_mark marks.RightParen (kind_at tokens from) then Parsed [] 0 (from + 1)
      else (if is_key keys.Void (kind_at tokens from) then expect tokens marks.RightParen (from + 1) (Parsed [] 0 (from + 2))
      else parameter_list_at (length tokens + 1) from)

  module _ (budget : ℕ) where
    -- the function of this name, whose `int` stands at a place
    unfoldable pub function_at : (symbol from : ℕ) → ParseOutcome UnitFunction
    function_at symbol from = expect tokens marks.LeftParen (from + 2) (after (parameters_at (from + 3)) (λ parameters other at.
        expect tokens marks.LeftBrace at (after (block_at tokens Allowed (statement_below tokens Allowed budget) budget at) (λ items height to.
        Parsed (function_with symbol (line_at tokens (from + 1)) parameters items) height to))))

    -- `main` alone, as a unit
    unfoldable pub main_alone : (from : ℕ) → ParseOutcome TranslationUnit
    main_alone from = after (main_at tokens Allowed budget from) (λ items height to. Parsed (record { functions = []; main = items }) height to)

    -- functions and `main`, where an `int` was seen and this is the name after it; `next` reads what follows a function
    unfoldable pub functions_on : ((from : ℕ) → ParseOutcome TranslationUnit) → Option ℕ → (from : ℕ) → ParseOutcome TranslationUnit
    functions_on next (Some symbol) from = after (function_at symbol from) (λ function height at.
        after (next at) (λ unit other to. Parsed (with_function function unit) (max height other) to))
    functions_on next None from = main_alone (from + 1)

    -- functions and `main`, as many as there are turns
    unfoldable pub functions_at : (turns from : ℕ) → ParseOutcome TranslationUnit
    functions_at zero from = Unreadable from
    functions_at (suc turns) from = expect_key tokens keys.Int from (functions_on (functions_at turns) (symbol_of (kind_at tokens (from + 1))) from)

-- the unit that the tokens are, of at most this height
unfoldable pub unit_at : List Token → (budget : ℕ) → ParseOutcome TranslationUnit
unit_at tokens budget = functions_at tokens budget (length tokens + 1) 0
