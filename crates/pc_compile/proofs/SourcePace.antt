-- The regions of a compiled program keep pace with its source, and so does its object.
use Rattle.std.proofs.Common.{◌≡◌, ℕ, suc, ◌+◌, ◌-◌, ◌*◌, ◌≤◌, List, length, refl, sym, ◌∙◌, ap, subst, arith}
use Rattle.std.specs.Prelude.{ℤ}
use Rattle.std.proofs.Math.Nat.{mul-suc}
use Rattle.pc_word.specs.declared.item.Extent.{Extent}
use Rattle.pc_syntax.specs.Source.{ResolvedProgram}
use Rattle.pc_table.specs.Table.{Table}
use Rattle.pc_machine.specs.MachineCode.{RowCode}
use Rattle.pc_object.specs.ObjectText.{CodeWithNotes}
use Rattle.pc_compile.specs.declared.choice.Choice.{Choice}
use Rattle.pc_compile.specs.Compiled.{IsCompiled}
use Rattle.pc_word.specs.Run.{Seen, Answers}
use Rattle.pc_word.proofs.Runs.{Answers-trans}
use Rattle.pc_meaning.specs.SourceRun.{source_run}
use Rattle.pc_meaning.specs.Trace.{trace_of}
use Rattle.pc_flow.specs.FlowRun.{flow_run}
use Rattle.pc_regions.proofs.CutRuns.{cut_shows, cut_agrees}
use Rattle.pc_table.specs.RegionRun.{table_run}
use Rattle.pc_flow.specs.FlowGraph.{FlowGraph}
use Rattle.pc_word.specs.declared.item.Limits.{Limits}
use Rattle.pc_word.proofs.Runs.{AgreeOnInputs-trans, run_from-answers}
use Rattle.pc_window.proofs.Paces.{answer_of_answer}
use Rattle.pc_machine.specs.MachineRun.{machine_step, machine_start, machine_run}
use Rattle.pc_emit.specs.Emitting.{region_forms}
use Rattle.pc_compile.specs.ScheduleRun.{schedule_run, schedule_cost}
use Rattle.pc_compile.specs.Laws.{RegionsKeepPaceWithTheSource, ObjectsKeepPaceWithTheSource, ObjectsKeepPaceInCycles, most_step_cost}
use Rattle.pc_compile.proofs.Compilations.{never_faults}
use Rattle.pc_compile.proofs.CostBounds.{steps_cost_few}
use Rattle.pc_compile.proofs.RegionPaces.{schedules_keep_pace}

-- the source's own graph is at most one node after it, passes make no graph slower, and a cut keeps step with its graph
pub regions_keep_pace : RegionsKeepPaceWithTheSource
regions_keep_pace program first flow table lowered kept cut input words n =
    let m = suc (length (trace_of program input n)) in
    let source = source_run program input n in
    subst (λ (seen : Seen). Answers source seen source.end) (sym (cut_shows flow table cut input m))
    (Answers-trans source (flow_run first input m) (flow_run flow input m) source.end (flow_run first input m).end refl (lowered.paced input n) (kept.pace input words m))

-- the data of an object's arrays are those of the graph
initial_is : (program : ResolvedProgram) (Passed : FlowGraph → FlowGraph → Type 0) (limits : Limits) (extent : Extent) (flow : FlowGraph) (table : Table)
    (choices : List Choice) (object : CodeWithNotes) → IsCompiled program Passed limits extent flow table choices object → object.code.initial ≡ flow.initial
initial_is program Passed limits extent flow table choices object it = ap (λ (code : RowCode). code.initial) it.code ∙ it.tightened.initial ∙ it.recolored.initial

pub objects_keep_pace : (Passed : FlowGraph → FlowGraph → Type 0) → ObjectsKeepPaceWithTheSource Passed
objects_keep_pace Passed program limits extent flow table choices object it input words n =
    let m = suc (length (trace_of program input n)) in
    let forms = region_forms it.forms in
    let source = source_run program input n in
    let initial = flow.initial in
    let regions = table_run table initial input m in
    let steps = schedule_run table forms initial input m in
    let of_table = AgreeOnInputs-trans (table_run table initial) (flow_run flow) (source_run program) (cut_agrees flow table it.cut)
    (AgreeOnInputs-trans (flow_run flow) (flow_run it.first) (source_run program) it.kept.agrees it.lowered.agree) in
    let never = never_faults program (table_run table initial) of_table input words in
    let shown = machine_run object.code input (schedule_cost table forms limits.ops initial input m) in
    let paced = subst (λ (given : Limits). Answers (schedule_run table forms object.code.initial input m)
    (machine_run object.code input (schedule_cost table forms given.ops object.code.initial input m)) (schedule_run table forms object.code.initial input m).end)
    it.limited (it.pace input words m) in
    answer_of_answer source regions shown (regions_keep_pace program it.first flow table it.lowered it.kept it.cut input words n)
    (answer_of_answer regions steps shown (schedules_keep_pace table it.table_keeps initial limits extent choices forms it.chosen input never m)
    (subst (λ (words : List (List ℤ)). Answers (schedule_run table forms words input m)
    (machine_run object.code input (schedule_cost table forms limits.ops words input m)) (schedule_run table forms words input m).end)
    (initial_is program Passed limits extent flow table choices object it) paced))

-- in plain numbers
pub objects_in_cycles : (Passed : FlowGraph → FlowGraph → Type 0) → ObjectsKeepPaceInCycles Passed
objects_in_cycles Passed program limits extent flow table choices object it registers enough input words n =
    let k = length (trace_of program input n) in
    let forms = region_forms it.forms in
    let cost = schedule_cost table forms limits.ops flow.initial input (suc k) in
    let few = steps_cost_few table it.table_keeps flow.initial limits extent choices forms it.chosen registers enough limits.ops input (suc k) in
    let most = 2 * registers + most_step_cost registers * k in
    let room = enough.variables in
    answer_of_answer (source_run program input n) (machine_run object.code input cost) (machine_run object.code input most)
    (objects_keep_pace Passed program limits extent flow table choices object it input words n)
    (run_from-answers (machine_step object.code) cost most (machine_start object.code input)
    (within cost registers (most_step_cost registers) k room (mul-suc (most_step_cost registers) k) refl few))
  where
    within : (cost registers most k : ℕ) → 96 ≤ registers → most * suc k ≡ most * k + most → most ≡ 2 * registers - 1 → cost ≤ 1 + most * suc k
        → cost ≤ 2 * registers + most * k
    within cost registers most k room more is few = add_up cost registers most (most * k) (most * suc k) room more is few
      where
        add_up : (cost registers most less all : ℕ) → 96 ≤ registers → all ≡ less + most → most ≡ 2 * registers - 1 → cost ≤ 1 + all → cost ≤ 2 * registers + less
        add_up cost registers most less all room more is few = omega arith
