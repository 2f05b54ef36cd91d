-- Which texts are sources.
use Rattle.std.specs.Prelude.{◌≡◌, ℕ, ◌≤◌, List, [], length, Ok}
use Rattle.pc_word.specs.SourceLimits.{most_source, most_height, most_nodes}
use Rattle.pc_lexer.specs.declared.token.Token.{Token}
use Rattle.pc_lexer.specs.Tokens.{lexed}
use Rattle.pc_syntax.specs.Unit.{TranslationUnit}
use Rattle.pc_parser.specs.Parse.{IsUnitReadWithin}
use Rattle.pc_calls.specs.Inlining.{inlined_unit, unit_refusals}
use Rattle.pc_check.specs.Faults.{faults}
use Rattle.pc_check.specs.Sizes.{size}

-- the text is not too long, and its tokens are read as this unit
pub record IsRead (text : List ℕ) (unit : TranslationUnit) : Type 0 where
  pub few_bytes : length text ≤ most_source
  pub tokens : List Token
  pub cut : lexed text ≡ Ok tokens
  pub read : IsUnitReadWithin most_height tokens unit

-- The text is a source: it is read as this unit, which can be inlined; in the inlined program no name and no limit is at fault, and
-- its flow graph has not too many nodes.
pub record IsSource (text : List ℕ) (unit : TranslationUnit) : Type 0 where
  pub read : IsRead text unit
  pub callable : unit_refusals unit ≡ []
  pub faultless : faults (inlined_unit unit) ≡ []
  pub few_nodes : size (inlined_unit unit) ≤ most_nodes

-- the text is a source
abbrev pub IsSomeSource : List ℕ → Type 0
IsSomeSource text = (unit : TranslationUnit) × IsSource text unit

-- the text is no source
abbrev pub IsNoSource : List ℕ → Type 0
IsNoSource text = (unit : TranslationUnit) → IsSource text unit → ⊥
