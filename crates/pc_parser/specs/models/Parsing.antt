-- How the code's answers are those of the parsers of these definitions, unless memory runs out.
use Rattle.std.specs.Prelude.{◌≡◌, ℕ, ◌≤◌, List, length, Option, Some, None, option_map, Result, Ok, Err}
use Rattle.pc_word.specs.SourceLimits.{most_tokens, most_height}
use Rattle.pc_lexer.specs.declared.token.Token.{Token}
use Rattle.pc_syntax.specs.declared.statement.Stmt.{Stmt}
use Rattle.pc_syntax.specs.Unit.{UnitList, UnitOptional, Without, With, unit_appended}
use Rattle.pc_syntax.specs.Erasure.{expression_of}
use Rattle.pc_syntax.specs.UnitErasure.{unit_statement_of}
use Rattle.pc_parser.specs.declared.outcome.Failure.{Failure}
use Rattle.pc_parser.specs.declared.outcome.Failure.TheVariants as failures
use Rattle.pc_parser.specs.declared.outcome.Parsed as code
use Rattle.pc_parser.specs.declared.lvalue.Lvalue as lvalues
use Rattle.pc_parser.specs.declared.unit.ParseError.{ParseError}
use Rattle.pc_parser.specs.declared.unit.ParseError.TheVariants as errors
use Rattle.pc_parser.specs.Statements.{Lvalue}
use Rattle.pc_parser.specs.Parse.{error_line}
use Rattle.pc_parser.specs.models.Outcome.{ParseOutcome, Parsed, Unreadable, TooHigh, after}

-- the lvalue that one of the code stands for
abbrev pub lvalue_of : lvalues.Lvalue → Lvalue
lvalue_of lvalue =
    record { symbol = lvalue.symbol; line = lvalue.line; index = option_map expression_of lvalue.index; bracket = lvalue.bracket }

-- the statement that an optional one of the code stands for
abbrev pub optional_tree : Option Stmt → UnitOptional
optional_tree None = Without
optional_tree (Some tree) = With (unit_statement_of tree)

-- what is read, after the items before it
abbrev pub behind : UnitList → ParseOutcome UnitList → ParseOutcome UnitList
behind front outcome = after outcome (λ rest height to. Parsed (unit_appended front rest) height to)

-- a failure is what the parser gives, unless it is want of memory
abbrev pub FailsParsing : {Y : Type 0} → Failure → ParseOutcome Y → Type 0
FailsParsing failures.Memory outcome = Unit {0}
FailsParsing (failures.Syntax at) outcome = outcome ≡ Unreadable at
FailsParsing (failures.TooNested at) outcome = outcome ≡ TooHigh at

-- what a function returned, its tree seen by view, is what the parser gives, unless memory ran out
abbrev pub GivesParsed : {X Y : Type 0} → (X → Y) → Result (code.Parsed X) Failure → ParseOutcome Y → Type 0
GivesParsed view (Ok parsed) outcome = outcome ≡ Parsed (view parsed.tree) parsed.height parsed.next
GivesParsed view (Err failure) outcome = FailsParsing failure outcome

-- a place among the tokens, of which there are few enough, and a budget of height
pub record AtPlace (tokens : List Token) (budget place : ℕ) : Type 0 where
  pub few : length tokens ≤ most_tokens
  pub low : budget ≤ most_height
  pub inside : place ≤ length tokens

-- what was read up to a place among the tokens, of a height that the budget allows
pub record UpTo (tokens : List Token) (budget height place : ℕ) : Type 0 where
  pub low : height ≤ budget
  pub inside : place ≤ length tokens

-- a failure's place is among the tokens
abbrev pub FailsInside : Failure → ℕ → Type 0
FailsInside failures.Memory most = Unit {0}
FailsInside (failures.Syntax at) most = at ≤ most
FailsInside (failures.TooNested at) most = at ≤ most

-- the error that tells a failure
abbrev pub located : List Token → Failure → ParseError
located tokens failures.Memory = errors.Memory
located tokens (failures.Syntax at) = errors.Syntax at (error_line tokens at)
located tokens (failures.TooNested at) = errors.TooNested at (error_line tokens at)
