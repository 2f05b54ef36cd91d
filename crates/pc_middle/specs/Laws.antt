-- Laws of regions that programs are cut into. Each is the contract of a function of laws.rt, which does nothing.
use Rattle.std.specs.Prelude.{ℤ, List, All}
use Rattle.pc_word.specs.Run.{AgreeOnInputs, NeverFaults}
use Rattle.pc_word.specs.Word.{IsWord}
use Rattle.pc_syntax.specs.Source.{ResolvedProgram}
use Rattle.pc_meaning.specs.SourceRun.{source_run}
use Rattle.pc_flow.specs.FlowGraph.{FlowGraph}
use Rattle.pc_table.specs.Table.{Table}
use Rattle.pc_table.specs.RegionRun.{table_run}
use Rattle.pc_middle.specs.CutProgram.{IsCutProgram}

-- for every input of words the regions show what the program shows, and it what they show, each in its own time
abbrev pub RegionsDoWhatTheProgramDoes : (FlowGraph → FlowGraph → Type 0) → Type 0
RegionsDoWhatTheProgramDoes Passed =
    (program : ResolvedProgram) (flow : FlowGraph) (table : Table) → IsCutProgram program Passed flow table
    → AgreeOnInputs (source_run program) (table_run table flow.initial)

-- and for none of these they come to a fault of the machine
abbrev pub RegionsNeverFault : (FlowGraph → FlowGraph → Type 0) → Type 0
RegionsNeverFault Passed =
    (program : ResolvedProgram) (flow : FlowGraph) (table : Table) → IsCutProgram program Passed flow table
    → (input : List ℤ) → All IsWord input → NeverFaults (table_run table flow.initial input)
