-- What the parser promises of tokens as a unit, from what it gives.
use Rattle.std.proofs.Common.{◌≡◌, ℕ, ◌+◌, ◌-◌, true, List, length, arith}
use Rattle.pc_word.specs.SourceLimits.{most_height}
use Rattle.pc_lexer.specs.declared.token.Token.{Token}
use Rattle.pc_syntax.specs.Unit.{TranslationUnit}
use Rattle.pc_parser.specs.Units.{ReadsUnit, HasNamesBelow}
use Rattle.pc_syntax.specs.Proper.{unit_is_proper}
use Rattle.pc_parser.specs.Parse.{IsUnitReadWithin}
use Rattle.pc_parser.specs.models.Outcome.{ParseOutcome, Parsed, Unreadable, TooHigh}
use Rattle.pc_parser.specs.models.UnitParser.{unit_at}
use Rattle.pc_parser.proofs.LocalUnits.{unit_at-local}
use Rattle.pc_parser.proofs.FindsUnits.{finds-unit}
use Rattle.pc_parser.proofs.Holds.{Good}
use Rattle.pc_parser.proofs.HoldsUnits.{IsUnit, unit_at-holds}
use Rattle.pc_parser.proofs.ProperReadings.{functions-proper}
use Rattle.pc_parser.proofs.Top.{IsRead, IsParser, one-reading, gives-read}

pub units : IsParser TranslationUnit unit_at ReadsUnit
units = record {
  holds = λ tokens. whole tokens (unit_at tokens most_height) (unit_at-holds tokens (most_height - 1 + 3) most_height (omega arith));
  local = λ k E ts ws kinds lines few fewer b c budgets. unit_at-local k E ts ws kinds lines few fewer b c budgets;
  finds = λ tokens b unit h reads low. finds-unit tokens b unit h reads low;
}
  where
    whole : (tokens : List Token) (o : ParseOutcome TranslationUnit) →
        Good (length tokens) (most_height - 1 + 3) (IsUnit tokens (most_height - 1 + 3) most_height 0) o →
        Good (length tokens) (most_height - 1 + 3) (IsRead ReadsUnit tokens most_height) o
    whole tokens (Parsed unit h to) good = (good.reads, good.low)
    whole tokens (Unreadable at) good = good
    whole tokens (TooHigh at) good = good

-- what is given is read
pub unit-read : (tokens : List Token) (unit : TranslationUnit) (h to : ℕ) → unit_at tokens most_height ≡ Parsed unit h to → IsUnitReadWithin most_height tokens unit
unit-read tokens unit h to is = let reads = gives-read unit_at ReadsUnit units tokens unit h to is in (h, reads.1, reads.0)

-- at most one unit reads given tokens
pub one-unit : (tokens : List Token) (one other : TranslationUnit) (height raised : ℕ) → ReadsUnit tokens one height → ReadsUnit tokens other raised → (one ≡ other) × (height ≡ raised)
one-unit tokens one other height raised reads reads' = one-reading unit_at ReadsUnit units tokens one other height raised reads reads'

-- and proper
pub unit-proper : (tokens : List Token) (unit : TranslationUnit) (h to base : ℕ) → unit_at tokens most_height ≡ Parsed unit h to → HasNamesBelow base tokens → unit_is_proper base unit ≡ true
unit-proper tokens unit h to base is names = let reads = gives-read unit_at ReadsUnit units tokens unit h to is in functions-proper tokens base names 0 unit h reads.0
