-- What the regions of a program are, and when it has none.
use Rattle.std.specs.Prelude.{◌≡◌, ℕ, ◌<◌, ◌≤◌, min}
use Rattle.pc_word.specs.SourceLimits.{most_nodes}
use Rattle.pc_syntax.specs.Source.{ResolvedProgram}
use Rattle.pc_flow.specs.FlowGraph.{FlowGraph}
use Rattle.pc_lower.specs.Lowered.{IsLowered}
use Rattle.pc_pass.specs.Pass.{Keeps}
use Rattle.pc_table.specs.Table.{Table}
use Rattle.pc_table.specs.TableKeeps.{TableKeeps}
use Rattle.pc_regions.specs.Cut.{IsCutOf}
use Rattle.pc_middle.specs.declared.error.CutError.{CutError}
use Rattle.pc_middle.specs.declared.error.CutError.TheVariants.{TooLarge, Memory}

-- The passes made the graph of the program's own graph, as `Passed` says, and it shows what that shows; the table is this graph's
-- cut, and keeps what tables keep.
pub record IsCutProgram (program : ResolvedProgram) (Passed : FlowGraph → FlowGraph → Type 0) (flow : FlowGraph) (table : Table) : Type 0 where
  pub first : FlowGraph
  pub lowered : IsLowered program first
  pub passed : Passed first flow
  pub kept : Keeps first flow
  pub cut : IsCutOf flow table
  pub table_keeps : TableKeeps table

-- Why a program of a size has no regions: its flow graph would have too many nodes, and their count is given, as far as a number
-- goes; or it would not, and memory ran out.
abbrev pub IsUncut : (size : ℕ) → CutError → Type 0
IsUncut size (TooLarge nodes) = (most_nodes < size) × (nodes ≡ min size 4294967295)
IsUncut size Memory = size ≤ most_nodes
