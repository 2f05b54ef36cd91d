-- What comes of a source: its graph and its regions, or why there are none.
use Rattle.std.proofs.Common.{ℕ, List, Option, sym, subst}
use Rattle.std.specs.Borrow.{Bor}
use Rattle.pc_syntax.specs.Source.{ResolvedProgram}
use Rattle.pc_check.specs.Sizes.{resolved_size}
use Rattle.pc_flow.specs.FlowGraph.{FlowGraph}
use Rattle.pc_table.specs.Table.{Table}
use Rattle.pc_middle.specs.CutProgram.{IsCutProgram, IsUncut}
use Rattle.pc_middle.specs.declared.error.CutError.TheVariants as cut
use Rattle.pc_outside.specs.Shelf.{Files, Shelved}
use Rattle.pc_command.specs.Requests.{SourcePlace}
use Rattle.pc_report.specs.declared.fault.SourceFault.{SourceFault}
use Rattle.pc_report.specs.declared.fault.SourceFault.TheVariants.{TooLarge, TooLong}
use Rattle.pc_source.specs.Files.{HasSource}
use Rattle.pc_source.specs.Reading.{FailsToRead, Not_read, Too_long, IsChecked}
use Rattle.pc_source.specs.SourceFaults.{HasFault}
use Rattle.pc_source.specs.declared.source.SourceError.TheVariants as error
use Rattle.pc_source.proofs.CheckedTexts.{is_too_large}
use Rattle.pc_source.proofs.Files.{has_holds}
use Rattle.pc_checker.specs.declared.fault.CheckerFault.{CheckerFault}
use Rattle.pc_checker.specs.declared.fault.CheckerFault.TheVariants.{NoMemory, ReadFile, Source}
use Rattle.pc_checker.specs.models.Steps.{IsTextCut, IsSourceCut, RefusesSource, Source_lacks, Source_faulty, IsTooLarge, Program_lacks, Program_too_large}
use Rattle.pc_checker.specs.models.Steps.{NoSource, Source_without_memory, Source_without_file, Source_without_program}

-- ---- of its program

pub program_lacks : (size : ℕ) → IsTooLarge size NoMemory
program_lacks size = Program_lacks

pub program_too_large : (size nodes : ℕ) → IsUncut size (cut.TooLarge nodes) → IsTooLarge size (Source (TooLarge nodes))
program_too_large size nodes (many, is) = Program_too_large many is

pub ruleset programs_due = (program_lacks, program_too_large)

-- ---- of its text

pub text_cut : (Passed : FlowGraph → FlowGraph → Type 0) (text : List ℕ) (checked : ResolvedProgram) (flow : FlowGraph) (table : Table) → IsChecked text checked
    → IsCutProgram checked Passed flow table → IsTextCut Passed text flow table
text_cut Passed text checked flow table is cut = record { checked = checked; is = is; cut = cut }

pub text_lacks : (text : List ℕ) → RefusesSource text NoMemory
text_lacks text = Source_lacks

pub text_faulty : (text : List ℕ) (what : SourceFault) → HasFault text what → RefusesSource text (Source what)
text_faulty text what faulty = Source_faulty faulty

pub program_refused : (text : List ℕ) (checked : ResolvedProgram) (what : CheckerFault) → IsChecked text checked → IsTooLarge (resolved_size checked) what
    → RefusesSource text what
program_refused text checked what it Program_lacks = Source_lacks
program_refused text checked what it (Program_too_large {nodes} many is) =
    Source_faulty (subst (λ (nodes : ℕ). HasFault text (TooLarge nodes)) (sym is) (is_too_large text checked it many))

pub ruleset texts_due = (text_cut, text_lacks, text_faulty, program_refused)

-- ---- of its place

pub source_cut : (Passed : FlowGraph → FlowGraph → Type 0) (held : Option Files) (source : SourcePlace) (text : List ℕ) (flow : FlowGraph) (table : Table)
    → HasSource held source text → IsTextCut Passed text flow table → IsSourceCut Passed held source flow table
source_cut Passed held source text flow table has is = record { text = text; in_source = has; is = is }

pub source_refused : (source : SourcePlace) (old new : Shelved) (text : List ℕ) (what : CheckerFault) → HasSource old.held source text → RefusesSource text what
    → NoSource source old new what
source_refused source old new text what has Source_lacks = Source_without_memory
source_refused source old new text what has (Source_faulty {what = kind} faulty) =
    Source_without_program (has_holds old.held source text (λ text. HasFault text kind) has faulty)

pub source_lacks : (source : SourcePlace) (old new : Shelved) → NoSource source old new NoMemory
source_lacks source old new = Source_without_memory

pub source_unread : (source : SourcePlace) (old new : Shelved) (name : Bor (List ℕ)) → FailsToRead source old new (error.Unread name)
    → NoSource source old new (ReadFile name)
source_unread source old new name (Not_read is failed) = Source_without_file is failed

pub source_long : (source : SourcePlace) (old new : Shelved) → FailsToRead source old new error.TooLong → NoSource source old new (Source TooLong)
source_long source old new (Too_long long) = Source_without_program long

pub ruleset sources_due = (source_cut, source_refused, source_lacks, source_unread, source_long)
