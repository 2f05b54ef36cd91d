-- What explains a program that was compiled.
use Rattle.std.proofs.Common.{List, ℕ}
use Rattle.pc_syntax.specs.Source.{ResolvedProgram}
use Rattle.pc_check.specs.Sizes.{resolved_size}
use Rattle.pc_names.specs.Spellings.{ProgramNames}
use Rattle.pc_flow.specs.FlowGraph.{FlowGraph}
use Rattle.pc_table.specs.Table.{Table}
use Rattle.pc_object.specs.ObjectText.{CodeWithNotes}
use Rattle.pc_compile.specs.declared.choice.Choice.{Choice}
use Rattle.pc_compile.specs.declared.error.CompileError.TheVariants.{Memory}
use Rattle.pc_compile.specs.Compiled.{IsCompiled, IsUncompiled}
use Rattle.pc_command.specs.Requests.{ExplainRequest}
use Rattle.pc_explainer.specs.Explanations.{legend_of, ExplainsLoops, ExplainsProgram}

module _ (Passed : FlowGraph → FlowGraph → Type 0) (request : ExplainRequest) (program : ResolvedProgram) (flow : FlowGraph) (table : Table)
    (choices : List Choice) (object : CodeWithNotes) (compiled : IsCompiled program Passed request.limits request.extent flow table choices object) where
  -- what explains its loops explains it
  pub explains : (names : ProgramNames) (text : List ℕ) → ExplainsLoops request flow table choices (legend_of program names) text
      → ExplainsProgram Passed request program names text
  explains names text loops = record { flow = flow; table = table; choices = choices; object = object; compiled = compiled; loops = loops }

  -- the program is not too large, so that memory may have run out behind it
  pub only_lacks : IsUncompiled (resolved_size program) Memory
  only_lacks = compiled.lowered.few

pub ruleset compilations = (explains, only_lacks)
