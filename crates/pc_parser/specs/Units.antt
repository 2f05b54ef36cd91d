-- How the tokens of a list are read as a translation unit (C17 6.9): functions, and then `main`. The height is that of the highest
-- of their blocks.
use Rattle.std.specs.Prelude.{ℕ, ◌+◌, ◌<◌, max, Option, Some, None, List, [], ◌∷◌}
use Rattle.pc_lexer.specs.declared.token.Token.{Token}
use Rattle.pc_lexer.specs.declared.mark.Mark.TheVariants as marks
use Rattle.pc_lexer.specs.declared.keyword.Keyword.TheVariants as keys
use Rattle.pc_syntax.specs.declared.unit.Param.{Param}
use Rattle.pc_syntax.specs.Source.{SourceExpression}
use Rattle.pc_syntax.specs.Unit.{UnitStatement, UnitList, UnitFunction, TranslationUnit}
use Rattle.pc_syntax.specs.Unit.{Return, Finish, Item}
use Rattle.pc_parser.specs.declared.calls.Calls.TheVariants.{Allowed}
use Rattle.pc_parser.specs.Places.{line_at}
use Rattle.pc_parser.specs.Expressions.{HasMark, HasName}
use Rattle.pc_parser.specs.Statements.{HasKeyword, ReadsItems, ReadsMain}

-- the value of a `return`
abbrev pub returned : UnitStatement → Option SourceExpression
returned (Return line value) = Some value
returned _ = None

-- the value of the `return` that is the last item, where one is
abbrev pub result_of : UnitList → Option SourceExpression
result_of Finish = None
result_of (Item last Finish) = returned last
result_of (Item first (Item next rest)) = result_of (Item next rest)

-- a last item, unless it is a `return` of this value
abbrev pub kept : UnitStatement → Option SourceExpression → UnitList
kept last (Some value) = Finish
kept last None = Item last Finish

-- the items without the `return` that is the last one, where one is
abbrev pub without_result : UnitList → UnitList
without_result Finish = Finish
without_result (Item last Finish) = kept last (returned last)
without_result (Item first (Item next rest)) = Item first (without_result (Item next rest))

-- `int` name
pub data ReadsParameter (tokens : List Token) : (from : ℕ) → (parameter : Param) → (to : ℕ) → Type 0 where
  parameter : {from symbol : ℕ} →
      HasKeyword tokens from keys.Int →
      HasName tokens (from + 1) symbol →
      ReadsParameter tokens from record { symbol = symbol; line = line_at tokens (from + 1) } (from + 2)

-- parameter {`,` parameter} `)`
pub data ReadsParameterList (tokens : List Token) : (from : ℕ) → (parameters : List Param) → (to : ℕ) → Type 0 where
  last : {from q : ℕ} {parameter : Param} →
      ReadsParameter tokens from parameter q →
      HasMark tokens q marks.RightParen →
      ReadsParameterList tokens from (parameter ∷ []) (q + 1)
  comma : {from q to : ℕ} {parameter : Param} {rest : List Param} →
      ReadsParameter tokens from parameter q →
      HasMark tokens q marks.Comma →
      ReadsParameterList tokens (q + 1) rest to →
      ReadsParameterList tokens from (parameter ∷ rest) to

-- [`void`, or parameter {`,` parameter}] `)`
pub data ReadsParameters (tokens : List Token) : (from : ℕ) → (parameters : List Param) → (to : ℕ) → Type 0 where
  none : {from : ℕ} →
      HasMark tokens from marks.RightParen →
      ReadsParameters tokens from [] (from + 1)
  void : {from : ℕ} →
      HasKeyword tokens from keys.Void →
      HasMark tokens (from + 1) marks.RightParen →
      ReadsParameters tokens from [] (from + 2)
  some : {from to : ℕ} {parameters : List Param} →
      ReadsParameterList tokens from parameters to →
      ReadsParameters tokens from parameters to

-- function: `int` name `(` [parameters] `)` block; a `return` that is the last item of the block is its result
pub data ReadsFunction (tokens : List Token) : (from : ℕ) → (function : UnitFunction) → (height to : ℕ) → Type 0 where
  function : {from symbol q height to : ℕ} {parameters : List Param} {items : UnitList} →
      HasKeyword tokens from keys.Int →
      HasName tokens (from + 1) symbol →
      HasMark tokens (from + 2) marks.LeftParen →
      ReadsParameters tokens (from + 3) parameters q →
      HasMark tokens q marks.LeftBrace →
      ReadsItems tokens Allowed (q + 1) items height to →
      ReadsFunction tokens from record {
        symbol = symbol;
        line = line_at tokens (from + 1);
        parameters = parameters;
        items = without_result items;
        result = result_of items;
      } (height + 1) to

-- {function} `int` and `main`
pub data ReadsFunctions (tokens : List Token) : (from : ℕ) → (unit : TranslationUnit) → (height : ℕ) → Type 0 where
  main : {from height : ℕ} {items : UnitList} →
      HasKeyword tokens from keys.Int →
      ReadsMain tokens Allowed (from + 1) items height →
      ReadsFunctions tokens from record { functions = []; main = items } height
  function : {from i q j : ℕ} {function : UnitFunction} {rest : TranslationUnit} →
      ReadsFunction tokens from function i q →
      ReadsFunctions tokens q rest j →
      ReadsFunctions tokens from record { functions = function ∷ rest.functions; main = rest.main } (max i j)

-- unit: the whole of the tokens
abbrev pub ReadsUnit : List Token → (unit : TranslationUnit) → (height : ℕ) → Type 0
ReadsUnit tokens unit height = ReadsFunctions tokens 0 unit height

-- the symbols of the names among the tokens are below a bound
abbrev pub HasNamesBelow : ℕ → List Token → Type 0
HasNamesBelow base tokens = (place symbol : ℕ) → HasName tokens place symbol → symbol < base
