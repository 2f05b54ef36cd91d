-- What the flow graph of a program is, and when it has none.
use Rattle.std.specs.Prelude.{◌≡◌, ℕ, suc, ℤ, ◌<◌, ◌≤◌, min, List, length}
use Rattle.pc_word.specs.Run.{Answers, AgreeOnInputs}
use Rattle.pc_word.specs.SourceLimits.{most_nodes}
use Rattle.pc_syntax.specs.Source.{ResolvedProgram}
use Rattle.pc_check.specs.Sizes.{resolved_size}
use Rattle.pc_meaning.specs.SourceRun.{source_run}
use Rattle.pc_meaning.specs.Trace.{trace_of}
use Rattle.pc_flow.specs.FlowGraph.{FlowGraph}
use Rattle.pc_flow.specs.FlowRun.{flow_start, flow_run}
use Rattle.pc_lower.specs.Kinds.{kinds_from}
use Rattle.pc_lower.specs.Lowers.{Lowers}
use Rattle.pc_lower.specs.SourceLoops.{source_loops, loops_of}
use Rattle.pc_lower.specs.LoopTests.{TestsInside, EachTested}
use Rattle.pc_lower.specs.declared.error.LowerError.{LowerError}
use Rattle.pc_lower.specs.declared.error.LowerError.TheVariants.{TooLarge, Memory}

-- A flow graph is that of a program: for every input of words both show the same, each in its own time; the nodes that
-- are passed first are those of the program's trace, and what the program shows with this trace, the graph shows after at
-- most one node more, the stop or trap; there are as many nodes as the program's size; the arrays, the words with which they
-- begin, and the loops are the program's; and each loop has a test, which stands in it. Its nodes implement the program construct by construct, and each
-- of them, also a trap, stands in the innermost loop in whose text its construct stands. A loop's header is the first node of
-- its condition, and of a `do` the first node of its body, or of its condition where the body has none.
pub record IsLowered (program : ResolvedProgram) (flow : FlowGraph) : Type 0 where
  pub agree : AgreeOnInputs (flow_run flow) (source_run program)
  pub traced : (input : List ℤ) (n : ℕ)
      → kinds_from flow.nodes flow.arrays (length (trace_of program input n)) (flow_start flow.entry flow.initial input) ≡ trace_of program input n
  pub paced : (input : List ℤ) (n : ℕ)
      → Answers (source_run program input n) (flow_run flow input (suc (length (trace_of program input n)))) (source_run program input n).end
  pub counted : length flow.nodes ≡ resolved_size program
  pub arrays : flow.arrays ≡ program.arrays
  pub initial : flow.initial ≡ program.initial
  pub placed : Lowers flow program.body
  pub loops : source_loops flow.loops ≡ loops_of program
  pub tests_inside : TestsInside flow
  pub each_tested : EachTested flow
  pub few : resolved_size program ≤ most_nodes

-- Why a program of a size has no flow graph: it has too many nodes, and their count is given, as far as a number goes; or
-- it has not, and memory ran out.
abbrev pub IsRefused : (size : ℕ) → LowerError → Type 0
IsRefused size (TooLarge nodes) = (most_nodes < size) × (nodes ≡ min size 4294967295)
IsRefused size Memory = size ≤ most_nodes
