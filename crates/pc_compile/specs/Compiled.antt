-- What the object of a program is, and when there is none.
use Rattle.std.specs.Prelude.{◌≡◌, ℕ, ◌<◌, ◌≤◌, min, ℤ, List, length, All, Option}
use Rattle.std.specs.List.{flat_map}
use Rattle.pc_word.specs.declared.item.Extent.{Extent}
use Rattle.pc_word.specs.declared.item.Limits.{Limits}
use Rattle.pc_word.specs.Run.{AgreeOnInputs}
use Rattle.pc_word.specs.SourceLimits.{most_nodes}
use Rattle.pc_word.specs.Word.{IsWord}
use Rattle.pc_syntax.specs.Source.{ResolvedProgram}
use Rattle.pc_meaning.specs.SourceRun.{source_run}
use Rattle.pc_flow.specs.FlowGraph.{FlowGraph}
use Rattle.pc_lower.specs.Lowered.{IsLowered}
use Rattle.pc_pass.specs.Pass.{Keeps}
use Rattle.pc_table.specs.Table.{Table}
use Rattle.pc_table.specs.TableKeeps.{TableKeeps}
use Rattle.pc_regions.specs.Cut.{IsCutOf}
use Rattle.pc_machine.specs.MachineCode.{CodeRow, RowCode}
use Rattle.pc_machine.specs.MachineRun.{machine_run}
use Rattle.pc_machine.specs.Registers.{few_registers}
use Rattle.pc_tighten.specs.Compact.{Compact}
use Rattle.pc_tighten.specs.Removals.{HasNoGotoAlone}
use Rattle.pc_tighten.specs.Tightened.{EachIsReachable, IsTightened}
use Rattle.pc_recolor.specs.Recolored.{IsRecolored}
use Rattle.pc_object.specs.ObjectText.{CodeWithNotes, row_text, IsObject}
use Rattle.pc_emit.specs.declared.form.RegionForm.{RegionForm}
use Rattle.pc_emit.specs.Bytes.{regions_bytes}
use Rattle.pc_emit.specs.Emitting.{region_forms, AreEnough, AreEmitted}
use Rattle.pc_compile.specs.declared.choice.Choice.{Choice}
use Rattle.pc_compile.specs.Choosing.{AreChosen}
use Rattle.pc_compile.specs.Registers.{loose_code, fitted}
use Rattle.pc_compile.specs.Pace.{KeepsPaceOn}
use Rattle.pc_compile.specs.Notes.{notes_of}
use Rattle.pc_compile.specs.declared.error.CompileError.{CompileError}
use Rattle.pc_compile.specs.declared.error.CompileError.TheVariants.{TooLarge, Memory}

-- The object does what the program does, for every input of words, and may be written; it has the given limits and the
-- program's arrays, which begin with the program's data. The passes made the graph of the program's own graph, as `Passed` says, and it shows what that shows; the table
-- is this graph's cut, and keeps what tables keep. Each region that is reachable from region 0 got the first form that was not refused. The code is that of the
-- regions' rows in their forms, on as many registers as they need, with registers chosen anew, and tightened then: it is compact,
-- leaves lead to each row from row 0, no row but row 0 is a goto alone to another row, and its rows have no more bytes than were
-- counted for the regions in their forms; and on every input of words it keeps pace with the schedule of the regions in their
-- forms. It has the fewer registers exactly where it names no others; so it is where they are enough for the forms. The notes tell
-- the forms of the loops.
pub record IsCompiled (program : ResolvedProgram) (Passed : FlowGraph → FlowGraph → Type 0) (limits : Limits) (extent : Extent) (flow : FlowGraph) (table : Table)
    (choices : List Choice) (object : CodeWithNotes) : Type 0 where
  pub agree : AgreeOnInputs (source_run program) (machine_run object.code)
  pub is_object : IsObject object
  pub limited : object.code.limits ≡ limits
  pub arrays : object.code.arrays ≡ program.arrays
  pub initial : object.code.initial ≡ program.initial
  pub first : FlowGraph
  pub lowered : IsLowered program first
  pub passed : Passed first flow
  pub kept : Keeps first flow
  pub cut : IsCutOf flow table
  pub table_keeps : TableKeeps table
  pub forms : List (Option RegionForm)
  pub chosen : AreChosen table flow.initial limits extent choices (region_forms forms)
  pub loose : List CodeRow
  pub emitted : AreEmitted table forms limits loose
  pub between : RowCode
  pub recolored : IsRecolored (regions_bytes (region_forms forms) 0 table.regions) (fitted (loose_code limits table flow.initial loose)) between
  pub tight : RowCode
  pub tightened : IsTightened between tight
  pub code : object.code ≡ fitted tight
  pub few : AreEnough few_registers (region_forms forms) → object.code.registers ≡ few_registers
  pub reached : EachIsReachable object.code.rows
  pub compact : Compact object.code
  pub no_goto_alone : HasNoGotoAlone object.code.rows
  pub short : length (flat_map row_text object.code.rows) ≤ regions_bytes (region_forms forms) 0 table.regions
  pub pace : (input : List ℤ) → All IsWord input → KeepsPaceOn table (region_forms forms) object.code input
  pub notes : object.notes ≡ notes_of table choices

-- Why a program of a size has no object: its flow graph would have too many nodes, and their count is given, as far as a number
-- goes; or it would not, and memory ran out.
abbrev pub IsUncompiled : (size : ℕ) → CompileError → Type 0
IsUncompiled size (TooLarge nodes) = (most_nodes < size) × (nodes ≡ min size 4294967295)
IsUncompiled size Memory = size ≤ most_nodes
