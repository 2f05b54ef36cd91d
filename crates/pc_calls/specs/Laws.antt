-- Laws of functions by inlining. Each is the contract of a function of laws.rt, which does nothing.
use Rattle.std.specs.Prelude.{◌≡◌, ℕ, ℤ, List, [], true}
use Rattle.pc_check.specs.Faults.{faults}
use Rattle.pc_check.specs.Resolution.{resolved}
use Rattle.pc_meaning.specs.SourceRun.{source_run}
use Rattle.pc_syntax.specs.Unit.{TranslationUnit}
use Rattle.pc_calls.specs.CallRun.{call_run}
use Rattle.pc_calls.specs.Inline.{inlined_program}
use Rattle.pc_calls.specs.Refusals.{refusals}
use Rattle.pc_syntax.specs.Proper.{unit_is_proper}
use Rattle.pc_syntax.specs.Plain.{plain_unit}
use Rattle.pc_syntax.specs.Source.{SourceProgram}
use Rattle.pc_calls.specs.Measures.{list_measure}
use Rattle.pc_calls.specs.Counted.{unit_size}

-- a unit that is not refused, and whose inlined program has no faults, shows what this program shows
abbrev pub InliningKeepsRuns : Type 0
InliningKeepsRuns =
    (base : ℕ) (unit : TranslationUnit) → unit_is_proper base unit ≡ true → refusals unit ≡ [] → faults (inlined_program base unit) ≡ []
    → (input : List ℤ) (n : ℕ) → source_run (resolved (inlined_program base unit)) input n ≡ call_run unit input n

-- a unit without functions shows what the program shows
abbrev pub PlainSourcesRunAsPrograms : Type 0
PlainSourcesRunAsPrograms = (program : SourceProgram) (input : List ℤ) (n : ℕ) → call_run (plain_unit program) input n ≡ source_run (resolved program) input n

-- what is counted of a unit is the size of its inlined program
abbrev pub SizesAreCounted : Type 0
SizesAreCounted = (base : ℕ) (unit : TranslationUnit) → unit_is_proper base unit ≡ true → list_measure (inlined_program base unit).items ≡ unit_size unit

-- a unit without functions inlines to its own program
abbrev pub PlainSourcesStay : Type 0
PlainSourcesStay = (base : ℕ) (program : SourceProgram) → inlined_program base (plain_unit program) ≡ program
