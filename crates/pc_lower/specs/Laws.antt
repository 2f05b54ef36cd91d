-- What a flow graph that implements a program does.
use Rattle.std.specs.Prelude.{◌≡◌, ◌≢◌, ℕ, suc, ℤ, List, length, Some}
use Rattle.pc_word.specs.declared.item.MachineFault.{MachineFault}
use Rattle.pc_word.specs.declared.item.End.TheVariants.{Fault}
use Rattle.pc_word.specs.Run.{Answers, AgreeOnInputs}
use Rattle.pc_syntax.specs.Source.{ResolvedProgram}
use Rattle.pc_meaning.specs.SourceRun.{source_run}
use Rattle.pc_meaning.specs.Trace.{trace_of}
use Rattle.pc_flow.specs.FlowGraph.{FlowGraph}
use Rattle.pc_flow.specs.FlowRun.{flow_start, flow_run}
use Rattle.pc_lower.specs.Kinds.{kinds_from}
use Rattle.pc_lower.specs.Lowers.{Lowers}

-- for every input of words the graph and the program show the same, each in its own time
abbrev pub LoweredRunsAgree : Type 0
LoweredRunsAgree =
    (flow : FlowGraph) (program : ResolvedProgram) → flow.arrays ≡ program.arrays → flow.initial ≡ program.initial → Lowers flow program.body
    → AgreeOnInputs (flow_run flow) (source_run program)

-- the nodes that are passed first are those of the trace
abbrev pub LoweredRunsPassTheTrace : Type 0
LoweredRunsPassTheTrace =
    (flow : FlowGraph) (program : ResolvedProgram) → flow.arrays ≡ program.arrays → flow.initial ≡ program.initial → Lowers flow program.body → (input : List ℤ) (n : ℕ)
    → kinds_from flow.nodes flow.arrays (length (trace_of program input n)) (flow_start flow.entry flow.initial input) ≡ trace_of program input n

-- what the program shows with a trace, the graph shows after at most one node more than the trace has: the stop or the trap
abbrev pub LoweredRunsKeepPace : Type 0
LoweredRunsKeepPace =
    (flow : FlowGraph) (program : ResolvedProgram) → flow.arrays ≡ program.arrays → flow.initial ≡ program.initial → Lowers flow program.body → (input : List ℤ) (n : ℕ)
    → Answers (source_run program input n) (flow_run flow input (suc (length (trace_of program input n)))) (source_run program input n).end

-- no graph of a program comes to a machine's fault
abbrev pub LoweredRunsAreFaultless : Type 0
LoweredRunsAreFaultless =
    (flow : FlowGraph) (program : ResolvedProgram) → flow.arrays ≡ program.arrays → flow.initial ≡ program.initial → Lowers flow program.body → (input : List ℤ) (n : ℕ) (fault : MachineFault)
    → (flow_run flow input n).end ≢ Some (Fault fault)
