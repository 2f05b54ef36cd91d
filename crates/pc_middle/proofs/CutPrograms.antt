-- What the regions of a program do.
use Rattle.std.proofs.Common.{ℤ, List, sym}
use Rattle.std.specs.Prelude.{All}
use Rattle.pc_word.specs.Run.{AgreeOnInputs, NeverFaults}
use Rattle.pc_word.specs.Word.{IsWord}
use Rattle.pc_word.proofs.Runs.{Agree-equal, AgreeOnInputs-sym, AgreeOnInputs-trans}
use Rattle.pc_syntax.specs.Source.{ResolvedProgram}
use Rattle.pc_check.specs.Sizes.{resolved_size}
use Rattle.pc_meaning.specs.SourceRun.{source_run}
use Rattle.pc_meaning.proofs.SourceRuns.{source_run-faultless}
use Rattle.pc_flow.specs.FlowGraph.{FlowGraph}
use Rattle.pc_flow.specs.FlowRun.{flow_run}
use Rattle.pc_lower.specs.Lowered.{IsLowered}
use Rattle.pc_table.specs.Table.{Table}
use Rattle.pc_table.specs.RegionRun.{table_run}
use Rattle.pc_regions.proofs.CutRuns.{cut_shows}
use Rattle.pc_window.proofs.Paces.{NeverFaults-follows}
use Rattle.pc_middle.specs.CutProgram.{IsCutProgram, IsUncut}
use Rattle.pc_middle.specs.declared.error.CutError.TheVariants.{Memory}

-- a program that has a flow graph is not too large, so that memory may have run out behind it
pub not_too_large : (program : ResolvedProgram) (flow : FlowGraph) → IsLowered program flow → IsUncut (resolved_size program) Memory
not_too_large program flow lowered = lowered.few

module _ (Passed : FlowGraph → FlowGraph → Type 0) (program : ResolvedProgram) (flow : FlowGraph) (table : Table) (it : IsCutProgram program Passed flow table) where
  -- they do what the program does
  pub regions_agree : AgreeOnInputs (source_run program) (table_run table flow.initial)
  regions_agree =
      let graphs = AgreeOnInputs-trans (flow_run flow) (flow_run it.first) (source_run program) it.kept.agrees it.lowered.agree in
      AgreeOnInputs-trans (source_run program) (flow_run flow) (table_run table flow.initial)
      (AgreeOnInputs-sym (flow_run flow) (source_run program) graphs)
      (λ input words. Agree-equal (flow_run flow input) (table_run table flow.initial input) (λ n. sym (cut_shows flow table it.cut input n)))

  -- and never fault, since the program does not
  pub regions_never_fault : (input : List ℤ) → All IsWord input → NeverFaults (table_run table flow.initial input)
  regions_never_fault input words =
      NeverFaults-follows (table_run table flow.initial input) (source_run program input) (regions_agree input words).back
      (λ n fault. source_run-faultless program input n fault)
