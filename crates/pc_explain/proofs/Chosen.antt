-- What a compilation chose is what can be explained.
use Rattle.std.proofs.Common.{List}
use Rattle.pc_word.specs.declared.item.Extent.{Extent}
use Rattle.pc_word.specs.declared.item.Limits.{Limits}
use Rattle.pc_syntax.specs.Source.{ResolvedProgram}
use Rattle.pc_flow.specs.FlowGraph.{FlowGraph}
use Rattle.pc_table.specs.Table.{Table}
use Rattle.pc_object.specs.ObjectText.{CodeWithNotes}
use Rattle.pc_emit.specs.Emitting.{region_forms}
use Rattle.pc_compile.specs.declared.choice.Choice.{Choice}
use Rattle.pc_compile.specs.Compiled.{IsCompiled}
use Rattle.pc_explain.specs.Explained.{HasChosen}

-- the choices of a program's compilation are the compiler's for its table
pub has_chosen : {program : ResolvedProgram} {Passed : FlowGraph → FlowGraph → Type 0} {limits : Limits} {extent : Extent} {flow : FlowGraph} {table : Table}
    {choices : List Choice} {object : CodeWithNotes} → IsCompiled program Passed limits extent flow table choices object → HasChosen table limits extent choices
has_chosen {flow} is = record { initial = flow.initial; forms = region_forms is.forms; chosen = is.chosen }
