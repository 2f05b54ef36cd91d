-- What explains a source, or why nothing does.
use Rattle.std.proofs.Common.{ℕ, List, Option, sym, subst}
use Rattle.std.specs.Borrow.{Bor}
use Rattle.std.specs.Prelude.{MatchResult, Result, Ok, Err, Vec}
use Rattle.std.specs.declared.alloc.Global.{Global}
use Rattle.pc_syntax.specs.Source.{ResolvedProgram}
use Rattle.pc_calls.specs.Inlining.{inlined_unit}
use Rattle.pc_check.specs.Sizes.{resolved_size}
use Rattle.pc_lexer.specs.Tokens.{names_of_text}
use Rattle.pc_names.specs.Spellings.{ProgramNames, names_of}
use Rattle.pc_flow.specs.FlowGraph.{FlowGraph}
use Rattle.pc_compile.specs.Compiled.{IsUncompiled}
use Rattle.pc_compile.specs.declared.error.CompileError.TheVariants as compile
use Rattle.pc_outside.specs.Shelf.{Files, Shelved}
use Rattle.pc_command.specs.Requests.{ExplainRequest, SourcePlace}
use Rattle.pc_report.specs.declared.fault.Speaker.TheVariants.{Pexplain}
use Rattle.pc_report.specs.declared.fault.SourceFault.{SourceFault}
use Rattle.pc_report.specs.declared.fault.SourceFault.TheVariants.{TooLarge, TooLong}
use Rattle.pc_report.specs.declared.fault.ToolFault.{ToolFault}
use Rattle.pc_report.specs.declared.fault.ToolFault.TheVariants as fault
use Rattle.pc_source.specs.Files.{HasSource}
use Rattle.pc_source.specs.Reading.{FailsToRead, Not_read, Too_long, HasNames, IsChecked}
use Rattle.pc_source.specs.SourceFaults.{HasFault}
use Rattle.pc_source.specs.declared.source.SourceError.TheVariants as error
use Rattle.pc_source.proofs.CheckedTexts.{is_source, is_too_large}
use Rattle.pc_source.proofs.Files.{has_holds}
use Rattle.pc_explainer.specs.Explanations.{ExplainsProgram}
use Rattle.pc_explainer.specs.models.Explaining.{ExplainsText, ExplainsSource, StopsAtProgram, Program_lacks, Program_too_large}
use Rattle.pc_explainer.specs.models.Explaining.{StopsAtText, Text_lacks, Text_faulty, StopsAtSource, Source_lacks, Source_unread, Source_faulty}

-- ---- of its program

pub program_lacks : (size : ℕ) → StopsAtProgram size (fault.NoMemory Pexplain)
program_lacks size = Program_lacks

pub program_too_large : (size nodes : ℕ) → IsUncompiled size (compile.TooLarge nodes) → StopsAtProgram size (fault.Source Pexplain (TooLarge nodes))
program_too_large size nodes (many, is) = Program_too_large many is

pub ruleset programs_due = (program_lacks, program_too_large)

-- ---- of its text

text_explained : (Passed : FlowGraph → FlowGraph → Type 0) (request : ExplainRequest) (text : List ℕ) (checked : ResolvedProgram) (names : ProgramNames)
    (explanation : List ℕ) → HasNames text checked names → ExplainsProgram Passed request checked names explanation
    → ExplainsText Passed request text explanation
text_explained Passed request text checked names explanation it program = record {
  unit = it.is.unit;
  is = is_source text checked it.is program.compiled.lowered.few;
  program = subst (λ (p : ResolvedProgram). ExplainsProgram Passed request p (names_of (names_of_text text) (inlined_unit it.is.unit)) explanation)
      (sym it.is.is_resolved) (subst (λ (n : ProgramNames). ExplainsProgram Passed request checked n explanation) it.named program);
}

pub text_lacks : (text : List ℕ) → StopsAtText text (fault.NoMemory Pexplain)
text_lacks text = Text_lacks

pub text_faulty : (text : List ℕ) (what : SourceFault) → HasFault text what → StopsAtText text (fault.Source Pexplain what)
text_faulty text what faulty = Text_faulty faulty

program_stops : (text : List ℕ) (checked : ResolvedProgram) (due : ToolFault) → IsChecked text checked → StopsAtProgram (resolved_size checked) due
    → StopsAtText text due
program_stops text checked due it Program_lacks = Text_lacks
program_stops text checked due it (Program_too_large {nodes} many is) =
    Text_faulty (subst (λ (nodes : ℕ). HasFault text (TooLarge nodes)) (sym is) (is_too_large text checked it many))

-- what comes of its program
pub program_result : (Passed : FlowGraph → FlowGraph → Type 0) (request : ExplainRequest) (text : List ℕ) (checked : ResolvedProgram) (names : ProgramNames)
    (result : Result (Vec ℕ Global) ToolFault) → HasNames text checked names
    → MatchResult result (λ it. ExplainsProgram Passed request checked names it.items) (λ due. StopsAtProgram (resolved_size checked) due)
    → MatchResult result (λ it. ExplainsText Passed request text it.items) (λ due. StopsAtText text due)
program_result Passed request text checked names (Ok it) is explains = text_explained Passed request text checked names it.items is explains
program_result Passed request text checked names (Err due) is stops = program_stops text checked due is.is stops

pub ruleset texts_due = (text_lacks, text_faulty)

-- ---- of its place

source_explained : (Passed : FlowGraph → FlowGraph → Type 0) (held : Option Files) (request : ExplainRequest) (text explanation : List ℕ)
    → HasSource held request.source text → ExplainsText Passed request text explanation → ExplainsSource Passed held request explanation
source_explained Passed held request text explanation has it = record {
  unit = it.unit;
  explains = record { source = text; in_source = has; is_source = it.is; program = it.program };
}

text_stops : (source : SourcePlace) (old new : Shelved) (text : List ℕ) (due : ToolFault) → HasSource old.held source text → StopsAtText text due
    → StopsAtSource source old new due
text_stops source old new text due has Text_lacks = Source_lacks
text_stops source old new text due has (Text_faulty {what} faulty) = Source_faulty (has_holds old.held source text (λ text. HasFault text what) has faulty)

pub source_lacks : (source : SourcePlace) (old new : Shelved) → StopsAtSource source old new (fault.NoMemory Pexplain)
source_lacks source old new = Source_lacks

pub source_unread : (source : SourcePlace) (old new : Shelved) (name : Bor (List ℕ)) → FailsToRead source old new (error.Unread name)
    → StopsAtSource source old new (fault.ReadFile Pexplain name)
source_unread source old new name (Not_read is failed) = Source_unread is failed

pub source_long : (source : SourcePlace) (old new : Shelved) → FailsToRead source old new error.TooLong
    → StopsAtSource source old new (fault.Source Pexplain TooLong)
source_long source old new (Too_long long) = Source_faulty long

-- what comes of its text
pub text_result : (Passed : FlowGraph → FlowGraph → Type 0) (request : ExplainRequest) (old new : Shelved) (text : List ℕ) (result : Result (Vec ℕ Global) ToolFault)
    → HasSource old.held request.source text
    → MatchResult result (λ it. ExplainsText Passed request text it.items) (λ due. StopsAtText text due)
    → MatchResult result (λ it. ExplainsSource Passed old.held request it.items) (λ due. StopsAtSource request.source old new due)
text_result Passed request old new text (Ok it) has explains = source_explained Passed old.held request text it.items has explains
text_result Passed request old new text (Err due) has stops = text_stops request.source old new text due has stops

pub ruleset sources_due = (source_lacks, source_unread, source_long)
