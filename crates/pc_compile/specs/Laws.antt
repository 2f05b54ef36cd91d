-- The laws of chosen forms and of pace. Each is the contract of a function of laws.rt, which does nothing.
use Rattle.std.specs.Prelude.{◌≡◌, ℕ, suc, ◌+◌, ◌-◌, ◌*◌, ◌≤◌, ℤ, List, All, length, Option, Some, None}
use Rattle.pc_word.specs.Run.{Answers, NeverFaults}
use Rattle.pc_word.specs.Word.{IsWord}
use Rattle.pc_syntax.specs.Source.{ResolvedProgram}
use Rattle.pc_meaning.specs.SourceRun.{source_run}
use Rattle.pc_meaning.specs.Trace.{trace_of}
use Rattle.pc_flow.specs.FlowGraph.{FlowGraph}
use Rattle.pc_table.specs.RegionRun.{table_run}
use Rattle.pc_lower.specs.Lowered.{IsLowered}
use Rattle.pc_pass.specs.Pass.{Keeps}
use Rattle.pc_regions.specs.Cut.{IsCutOf}
use Rattle.pc_word.specs.declared.item.Limits.{Limits}
use Rattle.pc_word.specs.declared.item.Extent.{Extent}
use Rattle.pc_word.specs.MachineLimits.{most_object}
use Rattle.pc_table.specs.Table.{Table}
use Rattle.pc_table.specs.TableKeeps.{TableKeeps}
use Rattle.pc_window.specs.Kept.{KeepsPace}
use Rattle.pc_window.specs.Steps.{Positive}
use Rattle.pc_object.specs.ObjectText.{CodeWithNotes}
use Rattle.pc_machine.specs.MachineCode.{CodeRow, RowCode}
use Rattle.pc_machine.specs.MachineRun.{machine_run}
use Rattle.pc_machine.specs.Registers.{most_registers}
use Rattle.pc_emit.specs.Emitted.{Emission, RegionForm, BeginsAtFirstRow, IsEmitted}
use Rattle.pc_emit.specs.Emitting.{region_forms, AreEnough, AreForms}
use Rattle.pc_emit.specs.PackedForm.{IsRegionForm}
use Rattle.pc_emit.specs.Bytes.{object_bytes}
use Rattle.pc_emit.specs.Laws.{code_with}
use Rattle.pc_recolor.specs.Recolored.{IsRecolored}
use Rattle.pc_tighten.specs.Tightened.{IsTightened}
use Rattle.pc_compile.specs.declared.choice.Choice.{Choice}
use Rattle.pc_compile.specs.Choosing.{AreChosen}
use Rattle.pc_compile.specs.Pace.{KeepsPaceOn}
use Rattle.pc_compile.specs.ScheduleRun.{schedule_run, schedule_cost}
use Rattle.pc_compile.specs.Compiled.{IsCompiled}

-- ---- chosen forms

-- forms that were chosen may be emitted, and each is one that its region may have
abbrev pub ChosenFormsMayBeEmitted : Type 0
ChosenFormsMayBeEmitted = (table : Table) → TableKeeps table → (initial : List (List ℤ)) (limits : Limits) (extent : Extent) → object_bytes table initial (λ region. None) ≤ most_object
    → (choices : List Choice) (forms : ℕ → Option RegionForm) → AreChosen table initial limits extent choices forms
    → AreForms table limits forms × ((region : ℕ) (form : RegionForm) → forms region ≡ Some form → IsRegionForm table region form)

-- a table has one answer: whatever choices and forms may be given for it, with the same data and within the same limits, are the same, each region's form with
-- the same states, names and registers, and each choice with the same causes and numbers
abbrev pub ATableHasOneAnswer : Type 0
ATableHasOneAnswer = (table : Table) → TableKeeps table → (initial : List (List ℤ)) (limits : Limits) → Positive limits → (extent : Extent) (choices others : List Choice)
    (forms forms' : ℕ → Option RegionForm) → AreChosen table initial limits extent choices forms → AreChosen table initial limits extent others forms'
    → (choices ≡ others) × ((region : ℕ) → forms region ≡ forms' region)

-- ---- pace

-- where each region that has a form has one that it may have, its rows stand in the code, and row 0 is the first row of region 0
-- if this is packed, the code keeps pace with the schedule on every input
abbrev pub EmittedRowsKeepPace : Type 0
EmittedRowsKeepPace = (e : Emission) → TableKeeps e.table → (limits : Limits) (registers : ℕ) (initial : List (List ℤ)) (rows : List CodeRow) → limits.ops ≡ e.ops → IsEmitted e rows
    → BeginsAtFirstRow e → ((region : ℕ) (form : RegionForm) → e.forms region ≡ Some form → IsRegionForm e.table region form)
    → (input : List ℤ) → KeepsPaceOn e.table e.forms (code_with limits registers initial e rows) input

-- where a code keeps pace with a schedule on an input, so does the code after its registers were chosen anew
abbrev pub RecoloredCodesKeepPace : Type 0
RecoloredCodesKeepPace = (table : Table) (forms : ℕ → Option RegionForm) (most : ℕ) (before after : RowCode) → IsRecolored most before after
    → (input : List ℤ) → KeepsPaceOn table forms before input → KeepsPaceOn table forms after input

-- where a code keeps pace with a schedule on an input, and never faults there, so does the code after its tightening
abbrev pub TightenedCodesKeepPace : Type 0
TightenedCodesKeepPace = (table : Table) (forms : ℕ → Option RegionForm) (before after : RowCode) → IsTightened before after
    → (input : List ℤ) → NeverFaults (machine_run before input) → KeepsPaceOn table forms before input → KeepsPaceOn table forms after input

-- in forms that were chosen the schedule keeps pace with the regions: on each input on which these never fault, n of its steps show
-- at least what n items and tests of the regions show
abbrev pub SchedulesKeepPaceWithTheRegions : Type 0
SchedulesKeepPaceWithTheRegions = (table : Table) → TableKeeps table → (initial : List (List ℤ)) (limits : Limits) (extent : Extent) (choices : List Choice) (forms : ℕ → Option RegionForm)
    → AreChosen table initial limits extent choices forms
    → (input : List ℤ) → NeverFaults (table_run table initial input) → KeepsPace (table_run table initial input) (schedule_run table forms initial input)

-- What the steps of a schedule cost on average, at most, where so many registers are enough for its forms: the cycles of a row, and of
-- two rows of copies for each value that its leaf passes, of which there are fewer than registers.
abbrev pub most_step_cost : (registers : ℕ) → ℕ
most_step_cost registers = 2 * registers - 1

-- in forms that were chosen so many steps cost no more together, but for one cycle before the first
abbrev pub StepsCostFewCycles : Type 0
StepsCostFewCycles = (table : Table) → TableKeeps table → (initial : List (List ℤ)) (limits : Limits) (extent : Extent) (choices : List Choice)
    (forms : ℕ → Option RegionForm) → AreChosen table initial limits extent choices forms → (registers : ℕ) → AreEnough registers forms
    → (ops : ℕ) (input : List ℤ) (n : ℕ) → schedule_cost table forms ops initial input n ≤ 1 + most_step_cost registers * n

-- the most registers of a machine are enough for forms that were chosen
abbrev pub MostAreEnough : Type 0
MostAreEnough = (table : Table) → TableKeeps table → (initial : List (List ℤ)) (limits : Limits) (extent : Extent) (choices : List Choice)
    (forms : ℕ → Option RegionForm) → AreChosen table initial limits extent choices forms → AreEnough most_registers forms

-- Where a graph is that of a program, passes keep it, and the table is the cut of what they made, as `IsCompiled` has it, the regions keep
-- pace with the source: on every input of words they show what the source shows with n iterations of loops after as many items and tests as the
-- source's evaluation has passed by then, and one unit more, that of the end.
abbrev pub RegionsKeepPaceWithTheSource : Type 0
RegionsKeepPaceWithTheSource = (program : ResolvedProgram) (first flow : FlowGraph) (table : Table) → IsLowered program first → Keeps first flow → IsCutOf flow table
    → (input : List ℤ) → All IsWord input → (n : ℕ)
    → Answers (source_run program input n) (table_run table flow.initial input (suc (length (trace_of program input n)))) (source_run program input n).end

-- The object of a program keeps pace with the source: what the source shows with n iterations of loops, on any input of words, its
-- object has shown after the cycles that one step of the schedule may cost for each node that the source's evaluation has passed by
-- then, and one more.
abbrev pub ObjectsKeepPaceWithTheSource : (FlowGraph → FlowGraph → Type 0) → Type 0
ObjectsKeepPaceWithTheSource Passed = (program : ResolvedProgram) (limits : Limits) (extent : Extent) (flow : FlowGraph) (table : Table) (choices : List Choice)
    (object : CodeWithNotes) → (it : IsCompiled program Passed limits extent flow table choices object) → (input : List ℤ) → All IsWord input → (n : ℕ)
    → (let cycles = schedule_cost table (region_forms it.forms) limits.ops flow.initial input (suc (length (trace_of program input n))) in
    Answers (source_run program input n) (machine_run object.code input cycles) (source_run program input n).end)

-- In plain numbers, where so many registers are enough for the forms: the object has shown it after fewer than two cycles a register
-- for each of these nodes, and as many more. These are 255 cycles where the fewer registers are enough, and never more than 511.
abbrev pub ObjectsKeepPaceInCycles : (FlowGraph → FlowGraph → Type 0) → Type 0
ObjectsKeepPaceInCycles Passed = (program : ResolvedProgram) (limits : Limits) (extent : Extent) (flow : FlowGraph) (table : Table) (choices : List Choice)
    (object : CodeWithNotes) → (it : IsCompiled program Passed limits extent flow table choices object) → (registers : ℕ)
    → AreEnough registers (region_forms it.forms) → (input : List ℤ) → All IsWord input → (n : ℕ)
    → (let cycles = 2 * registers + most_step_cost registers * length (trace_of program input n) in
    Answers (source_run program input n) (machine_run object.code input cycles) (source_run program input n).end)
