-- What is said of an object beyond what it does: how it was scheduled.
use Rattle.std.specs.Prelude.{◌≡◌, List, Option, Some, None}
use Rattle.pc_word.specs.declared.item.Extent.{Extent}
use Rattle.pc_word.specs.declared.item.Limits.{Limits}
use Rattle.pc_syntax.specs.Source.{ResolvedProgram}
use Rattle.pc_syntax.specs.Unit.{TranslationUnit}
use Rattle.pc_check.specs.Resolution.{resolved}
use Rattle.pc_flow.specs.FlowGraph.{FlowGraph}
use Rattle.pc_table.specs.Table.{Table}
use Rattle.pc_table.specs.StoredTable.{table_of}
use Rattle.pc_calls.specs.Inlining.{inlined_unit}
use Rattle.pc_object.specs.ObjectText.{CodeWithNotes, object_of}
use Rattle.pc_compile.specs.declared.choice.Choice.{Choice}
use Rattle.pc_compile.specs.declared.program.Compiled.{Compiled}
use Rattle.pc_compile.specs.Compiled.{IsCompiled}
use Rattle.pc_command.specs.Requests.{CompileRequest}

-- the object is what is compiled of a program within these limits and this extent, over some graph that the passes made of the program's
-- own, as `Passed` says, the regions of the graph's cut, and what was chosen for each of them
pub record IsScheduled (program : ResolvedProgram) (Passed : FlowGraph → FlowGraph → Type 0) (limits : Limits) (extent : Extent) (object : CodeWithNotes) : Type 0 where
  pub flow : FlowGraph
  pub table : Table
  pub choices : List Choice
  pub compiled : IsCompiled program Passed limits extent flow table choices object

-- The object of a program is scheduled as was asked for: where something is handed out, its object is this one, and this is what is
-- compiled over its graph, its regions and its choices; where nothing is, over some.
unfoldable pub IsScheduledAs : (FlowGraph → FlowGraph → Type 0) → (handed : Option Compiled) → CompileRequest → TranslationUnit → CodeWithNotes → Type 0
IsScheduledAs Passed (Some it) request unit object =
    (object_of it.object ≡ object) × IsCompiled (resolved (inlined_unit unit)) Passed request.limits request.extent it.flow (table_of it.table) it.choices object
IsScheduledAs Passed None request unit object = IsScheduled (resolved (inlined_unit unit)) Passed request.limits request.extent object
