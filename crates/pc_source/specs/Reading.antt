-- What reading a source gives, and why it gives nothing.
use Rattle.std.specs.Prelude.{◌≡◌, ℕ, true, List, []}
use Rattle.std.specs.Borrow.{Bor}
use Rattle.pc_lexer.specs.Tokens.{names_of_text}
use Rattle.pc_syntax.specs.Proper.{unit_is_proper}
use Rattle.pc_syntax.specs.Source.{ResolvedProgram}
use Rattle.pc_syntax.specs.Unit.{TranslationUnit}
use Rattle.pc_calls.specs.Inlining.{inlined_unit, symbol_bound, unit_refusals}
use Rattle.pc_check.specs.Faults.{faults}
use Rattle.pc_check.specs.Resolution.{resolved}
use Rattle.pc_command.specs.Requests.{SourcePlace, OfFile}
use Rattle.pc_names.specs.Spellings.{ProgramNames, names_of}
use Rattle.pc_outside.specs.Shelf.{Shelved, ReadFaultOf}
use Rattle.pc_report.specs.declared.fault.SourceFault.TheVariants as fault
use Rattle.pc_source.specs.Files.{HoldsSource}
use Rattle.pc_source.specs.Source.{IsRead}
use Rattle.pc_source.specs.SourceFaults.{HasFault}
use Rattle.pc_source.specs.declared.refusal.Refusal.{Refusal}
use Rattle.pc_source.specs.declared.refusal.Refusal.TheVariants as refusal
use Rattle.pc_source.specs.declared.source.SourceError.{SourceError}
use Rattle.pc_source.specs.declared.source.SourceError.TheVariants.{Unread, TooLong, Memory}

-- why the text of a source was not read
pub data FailsToRead (source : SourcePlace) (old new : Shelved) : (error : SourceError) → Type 0 where
  -- the shelf had a read fault of its file
  Not_read : {name : Bor (List ℕ)} →
      source ≡ OfFile name.now →
      ReadFaultOf old new name.now →
      FailsToRead source old new (Unread name)
  -- its text is too long for a source
  Too_long :
      HoldsSource old.held source (λ text. HasFault text fault.TooLong) →
      FailsToRead source old new TooLong
  -- memory ran out
  No_memory : FailsToRead source old new Memory

-- The text is read as a unit whose symbols leave room for those of its functions; its program, with its calls inlined, has no fault,
-- and is this one once it has numbers for names.
pub record IsChecked (text : List ℕ) (checked : ResolvedProgram) : Type 0 where
  pub unit : TranslationUnit
  pub read : IsRead text unit
  pub proper : unit_is_proper symbol_bound unit ≡ true
  pub callable : unit_refusals unit ≡ []
  pub faultless : faults (inlined_unit unit) ≡ []
  pub is_resolved : resolved (inlined_unit unit) ≡ checked

-- the text is read as this program, to whose scalars and arrays it gives these names
pub record HasNames (text : List ℕ) (checked : ResolvedProgram) (names : ProgramNames) : Type 0 where
  pub is : IsChecked text checked
  pub named : names ≡ names_of (names_of_text text) (inlined_unit is.unit)

-- why a text has no program: it has this fault, or memory ran out
abbrev pub RefusesText : Refusal → List ℕ → Type 0
RefusesText refusal.Memory text = Unit {0}
RefusesText (refusal.Source fault) text = HasFault text fault
