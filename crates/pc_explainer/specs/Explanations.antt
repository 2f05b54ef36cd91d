-- What is explained: of which program, compiled how, and as which text.
use Rattle.std.specs.Prelude.{◌≡◌, ℕ, List, Option}
use Rattle.pc_syntax.specs.Source.{ResolvedProgram}
use Rattle.pc_syntax.specs.Unit.{TranslationUnit}
use Rattle.pc_check.specs.Resolution.{resolved}
use Rattle.pc_lines.specs.Lines.{lines_of}
use Rattle.pc_flow.specs.FlowGraph.{FlowGraph}
use Rattle.pc_table.specs.Table.{Table}
use Rattle.pc_calls.specs.Inlining.{inlined_unit}
use Rattle.pc_object.specs.ObjectText.{CodeWithNotes}
use Rattle.pc_compile.specs.declared.choice.Choice.{Choice}
use Rattle.pc_compile.specs.Compiled.{IsCompiled}
use Rattle.pc_outside.specs.Shelf.{Files}
use Rattle.pc_command.specs.declared.explain.ExplainMode.{ExplainMode}
use Rattle.pc_command.specs.declared.explain.ExplainMode.TheVariants as form
use Rattle.pc_command.specs.Requests.{ExplainRequest}
use Rattle.pc_word.specs.declared.item.Limits.{Limits}
use Rattle.pc_source.specs.Files.{HasSource}
use Rattle.pc_source.specs.Source.{IsSource}
use Rattle.pc_explain.specs.Explained.{Explanation, AreExplained}
use Rattle.pc_explain.specs.Legends.{SourceLegend}
use Rattle.pc_explain_graph.specs.Graph.{explanation_graph}
use Rattle.pc_explain_json.specs.Json.{explanation_json}
use Rattle.pc_explain_text.specs.Text.{explanation_text}
use Rattle.pc_lexer.specs.Tokens.{names_of_text}
use Rattle.pc_names.specs.Spellings.{ProgramNames, names_of}

-- explanations in the form that is asked for: lines, a graph, or JSON
abbrev pub told_as : ExplainMode → Limits → SourceLegend → (asked : Option ℕ) → List Explanation → List ℕ
told_as form.Text = explanation_text
told_as form.Dot = explanation_graph
told_as form.Json = explanation_json

-- the legend of a program: the lines of its flow graph's nodes, and its names
abbrev pub legend_of : ResolvedProgram → ProgramNames → SourceLegend
legend_of program names = record { lines = lines_of program; names = names }

-- the text tells, in the form that is asked for, what is explained of the innermost loops that are asked for, where this was chosen for the
-- regions of a flow graph's table, by this legend
pub record ExplainsLoops (request : ExplainRequest) (flow : FlowGraph) (table : Table) (choices : List Choice) (legend : SourceLegend) (text : List ℕ)
    : Type 0 where
  pub explanations : List Explanation
  pub of_choices : AreExplained flow table request.limits request.extent request.line choices explanations
  pub told : text ≡ told_as request.mode request.limits legend request.line explanations

-- The program, with these names, is compiled under the limits and within the extent that are asked for, over some graph that the passes made
-- of its own, as `Passed` says: these are the graph's regions, and this was chosen for them. The text explains the program's loops.
pub record ExplainsProgram (Passed : FlowGraph → FlowGraph → Type 0) (request : ExplainRequest) (program : ResolvedProgram) (names : ProgramNames)
    (text : List ℕ) : Type 0 where
  pub flow : FlowGraph
  pub table : Table
  pub choices : List Choice
  pub object : CodeWithNotes
  pub compiled : IsCompiled program Passed request.limits request.extent flow table choices object
  pub loops : ExplainsLoops request flow table choices (legend_of program names) text

-- the text explains the program of a unit, as the source names it
abbrev pub ExplainsUnit : (Passed : FlowGraph → FlowGraph → Type 0) → ExplainRequest → (source : List ℕ) → TranslationUnit → (text : List ℕ) → Type 0
ExplainsUnit Passed request source unit text =
    ExplainsProgram Passed request (resolved (inlined_unit unit)) (names_of (names_of_text source) (inlined_unit unit)) text

-- the source that is asked for is this unit's, and the text explains the unit's program
pub record Explains (Passed : FlowGraph → FlowGraph → Type 0) (held : Option Files) (request : ExplainRequest) (unit : TranslationUnit) (text : List ℕ) : Type 0 where
  pub source : List ℕ
  pub in_source : HasSource held request.source source
  pub is_source : IsSource source unit
  pub program : ExplainsUnit Passed request source unit text
