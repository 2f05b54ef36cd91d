-- What the parser promises of tokens.
use Rattle.std.specs.Prelude.{◌≡◌, ℕ, ◌-◌, ◌≤◌, Option, option_map, unwrap_or, List, length, slice_get, Result, Ok, Err}
use Rattle.pc_lexer.specs.declared.token.Token.{Token}
use Rattle.pc_syntax.specs.Source.{SourceProgram}
use Rattle.pc_syntax.specs.declared.program.Program.{Program}
use Rattle.pc_parser.specs.declared.unit.ParseError.{ParseError}
use Rattle.pc_parser.specs.declared.unit.ParseError.TheVariants as errors
use Rattle.pc_syntax.specs.Unit.{TranslationUnit}
use Rattle.pc_syntax.specs.declared.unit.SourceUnit.{SourceUnit}
use Rattle.pc_parser.specs.Statements.{ReadsProgram}
use Rattle.pc_parser.specs.Units.{ReadsUnit}

-- the tokens are read as this program, and its height is at most this
abbrev pub IsReadWithin : ℕ → List Token → SourceProgram → Type 0
IsReadWithin most tokens program = (height : ℕ) × (height ≤ most) × ReadsProgram tokens program height

-- the one list begins with the tokens of the other up to a place, the token there included; where the
-- place is the number of tokens, the two have the same tokens
abbrev pub AgreeUpTo : ℕ → List Token → List Token → Type 0
AgreeUpTo at others tokens = (place : ℕ) → place ≤ at → slice_get others place ≡ slice_get tokens place

-- no program, however high, reads what begins with the tokens up to a place
abbrev pub NothingReads : List Token → ℕ → Type 0
NothingReads tokens at =
    (others : List Token) (program : SourceProgram) (height : ℕ) → AgreeUpTo at others tokens → ReadsProgram others program height → ⊥

-- no program of at most this height reads what begins with the tokens up to a place
abbrev pub NothingReadsWithin : ℕ → List Token → ℕ → Type 0
NothingReadsWithin most tokens at =
    (others : List Token) (program : SourceProgram) (height : ℕ) → AgreeUpTo at others tokens → height ≤ most → ReadsProgram others program height → ⊥

-- the line of the token at a place, where there is one
abbrev pub line_told : List Token → ℕ → Option ℕ
line_told tokens at = option_map (λ token. token.line) (slice_get tokens at)

-- the line that an error tells: of the token at a place, or of the last token, or 1
abbrev pub error_line : List Token → ℕ → ℕ
error_line tokens at = unwrap_or (line_told tokens at) (unwrap_or (line_told tokens (length tokens - 1)) 1)

-- a token's place, or the number of tokens, with the line that is told
abbrev pub IsPlaceOfLine : List Token → (at line : ℕ) → Type 0
IsPlaceOfLine tokens at line = (at ≤ length tokens) × (line ≡ error_line tokens at)

-- an error is other than for want of memory
abbrev pub Refuses : ParseError → Type 0
Refuses (errors.Syntax at line) = Unit {0}
Refuses (errors.TooNested at line) = Unit {0}
Refuses errors.Memory = ⊥

-- the tokens are refused as a program, other than for want of memory
abbrev pub RefusesTokens : Result Program ParseError → Type 0
RefusesTokens (Ok program) = ⊥
RefusesTokens (Err error) = Refuses error

-- the tokens are refused as a unit, other than for want of memory
abbrev pub RefusesUnit : Result SourceUnit ParseError → Type 0
RefusesUnit (Ok source) = ⊥
RefusesUnit (Err error) = Refuses error

-- the tokens are read as this unit, and its height is at most this
abbrev pub IsUnitReadWithin : ℕ → List Token → TranslationUnit → Type 0
IsUnitReadWithin most tokens unit = (height : ℕ) × (height ≤ most) × ReadsUnit tokens unit height

-- no unit, however high, reads what begins with the tokens up to a place
abbrev pub NothingReadsUnit : List Token → ℕ → Type 0
NothingReadsUnit tokens at =
    (others : List Token) (unit : TranslationUnit) (height : ℕ) → AgreeUpTo at others tokens → ReadsUnit others unit height → ⊥

-- no unit of at most this height reads what begins with the tokens up to a place
abbrev pub NothingReadsUnitWithin : ℕ → List Token → ℕ → Type 0
NothingReadsUnitWithin most tokens at =
    (others : List Token) (unit : TranslationUnit) (height : ℕ) → AgreeUpTo at others tokens → height ≤ most → ReadsUnit others unit height → ⊥
