-- Laws of texts, and of what is read of them. Each is the contract of a function of laws.rt, which does nothing.
use Rattle.std.specs.Prelude.{◌≡◌, ℕ, ◌<◌, ◌≤◌, min, ℤ, List}
use Rattle.pc_word.specs.Run.{Run, AgreeOnInputs}
use Rattle.pc_word.specs.SourceLimits.{most_nodes}
use Rattle.pc_syntax.specs.Source.{ResolvedProgram}
use Rattle.pc_syntax.specs.Unit.{TranslationUnit}
use Rattle.pc_check.specs.Sizes.{resolved_size}
use Rattle.pc_meaning.specs.SourceRun.{source_run}
use Rattle.pc_report.specs.declared.fault.SourceFault.{SourceFault}
use Rattle.pc_report.specs.declared.fault.SourceFault.TheVariants.{TooLarge}
use Rattle.pc_source.specs.Meaning.{meaning_of}
use Rattle.pc_source.specs.Reading.{IsChecked}
use Rattle.pc_source.specs.Source.{IsRead, IsSource, IsNoSource}
use Rattle.pc_source.specs.SourceFaults.{HasFault}

-- ---- texts

-- a text is read as one unit at most
abbrev pub ATextIsReadOnce : Type 0
ATextIsReadOnce = (text : List ℕ) (one other : TranslationUnit) → IsRead text one → IsRead text other → one ≡ other

-- a text with a fault is no source
abbrev pub AFaultyTextIsNoSource : Type 0
AFaultyTextIsNoSource = (text : List ℕ) (fault : SourceFault) → HasFault text fault → IsNoSource text

-- ---- checked texts

-- the program that a text is read as shows what the text means, on each input and within each number of turns of loops
abbrev pub CheckedTextsRunAsTheyMean : Type 0
CheckedTextsRunAsTheyMean =
    (text : List ℕ) (checked : ResolvedProgram) (it : IsChecked text checked) (input : List ℤ) (n : ℕ)
    → meaning_of it.unit input n ≡ source_run checked input n

-- so what agrees with the program, for every input of words, agrees with what the text means; a code's machine run, for one
abbrev pub AgreementWithTheProgramIsEnough : Type 0
AgreementWithTheProgramIsEnough =
    (text : List ℕ) (checked : ResolvedProgram) (it : IsChecked text checked) (run : List ℤ → Run)
    → AgreeOnInputs (source_run checked) run → AgreeOnInputs (meaning_of it.unit) run

-- where its flow graph has no more nodes than it may, the text is a source
abbrev pub ASmallTextIsASource : Type 0
ASmallTextIsASource =
    (text : List ℕ) (checked : ResolvedProgram) (it : IsChecked text checked) → resolved_size checked ≤ most_nodes → IsSource text it.unit

-- and where it has more, the text has this fault
abbrev pub ALargeTextIsRefused : Type 0
ALargeTextIsRefused =
    (text : List ℕ) (checked : ResolvedProgram) → IsChecked text checked → most_nodes < resolved_size checked
    → HasFault text (TooLarge (min (resolved_size checked) 4294967295))
