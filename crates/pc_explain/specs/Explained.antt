-- What is explained of the innermost loops of a table: the form of each, what decided it, and the schedule.
use Rattle.std.specs.Prelude.{◌≡◌, ℕ, ℤ, ◌<◌, ◌≤◌, ◌^◌, nat_eq, if◌then◌else◌, List, [], ◌∷◌, length, map, Option, Some, None, IfSome, option_map, slice_get}
use Rattle.std.specs.List.{AllByRecursion}
use Rattle.pc_word.specs.declared.item.Extent.{Extent}
use Rattle.pc_word.specs.declared.item.Limits.{Limits}
use Rattle.pc_word.specs.declared.loop_mark.LoopMark.{LoopMark}
use Rattle.pc_word.specs.MachineLimits.{most_rows}
use Rattle.pc_word.specs.Row.{leaves_of}
use Rattle.pc_table.specs.Table.{Table}
use Rattle.pc_table.specs.Loops.{innermost_loop}
use Rattle.pc_automaton.specs.Automaton.{AutomatonState, states_in}
use Rattle.pc_automaton.specs.RowFits.{RowFits}
use Rattle.pc_pattern.specs.Pattern.{rules_for, IsFound}
use Rattle.pc_flow.specs.FlowGraph.{FlowGraph}
use Rattle.pc_told.specs.Tellings.{Telling, tellings_in}
use Rattle.pc_told.specs.ToldRows.{AreTold}
use Rattle.pc_variables.specs.declared.holding.Holding.{Holding}
use Rattle.pc_variables.specs.Holdings.{variables_of}
use Rattle.pc_cycles.specs.declared.cycle.Cycle.{Cycle}
use Rattle.pc_cycles.specs.Cycles.{IsCycle, NoneIsPassedOver}
use Rattle.pc_waiting.specs.declared.obstacle.Waiting.{Waiting}
use Rattle.pc_object.specs.declared.object.Note.{Note}
use Rattle.pc_object.specs.ObjectText.{IsChoice}
use Rattle.pc_emit.specs.Emitted.{RegionForm}
use Rattle.pc_compile.specs.declared.choice.Choice.{Choice}
use Rattle.pc_compile.specs.declared.choice.Form.{Form}
use Rattle.pc_compile.specs.declared.choice.Form.TheVariants.{Pipelined, Packed, Plain}
use Rattle.pc_compile.specs.Choosing.{AreChosen}
use Rattle.pc_compile.specs.Notes.{note_list, form_notes}
use Rattle.pc_explain.specs.declared.explanation.LoopExplanation.{LoopExplanation}
use Rattle.pc_explain.specs.declared.explanation.Schedule.{Schedule}

-- ---- explanations

-- the states that a search found for the header of a loop; for each where the items and tests of its row come from, what waits there, and
-- which of its names hold which scalars; and the cycles of states
pub record LoopSchedule : Type 0 where
  pub states : List AutomatonState
  pub tellings : List Telling
  pub waits : List (List Waiting)
  pub holdings : List (List Holding)
  pub cycles : List Cycle

-- what is explained of a loop: the region that is its header, its note, and its schedule, where its form has one
pub record Explanation : Type 0 where
  pub region : ℕ
  pub notes : List Note
  pub schedule : Option LoopSchedule

-- the schedule in memory
abbrev pub schedule_in : Schedule → LoopSchedule
schedule_in it = record {
  states = states_in it.told.automaton;
  tellings = tellings_in it.told.rows;
  waits = it.told.waiting;
  holdings = it.variables;
  cycles = it.cycles;
}

-- the explanation in memory
abbrev pub explanation_in : LoopExplanation → Explanation
explanation_in it = record { region = it.region; notes = note_list it.note; schedule = option_map schedule_in it.schedule }

-- those of a list
abbrev pub explanations_in : List LoopExplanation → List Explanation
explanations_in loops = map explanation_in loops

-- ---- the schedule of a form

-- the search that finds the states of a form: of the compiler's extent where it is pipelined, and where it is packed with one iteration
-- of a loop in a window and as many rows as there may be; a plain form has none
abbrev pub search_extent : Extent → Form → Option Extent
search_extent extent (Pipelined states rows) = Some extent
search_extent extent Packed = Some (record { window = 1; rows = most_rows })
search_extent extent Plain = None

-- a schedule is what a search of this extent finds for a region of a flow graph's table, and what is told of it: the names hold scalars of
-- this graph, each cycle is one of the states, and none is passed over
pub record IsScheduleOf (flow : FlowGraph) (table : Table) (limits : Limits) (extent : Extent) (region : ℕ) (schedule : LoopSchedule) : Type 0 where
  pub found : IsFound (rules_for table limits extent.window) region extent.rows schedule.states
  pub told : AreTold (rules_for table limits extent.window) region extent.rows schedule.states schedule.tellings schedule.waits
  pub held : schedule.holdings ≡ variables_of flow schedule.states schedule.tellings
  pub cycles : AllByRecursion (IsCycle limits schedule.states schedule.tellings schedule.waits) schedule.cycles
  pub all_cycles : NoneIsPassedOver schedule.states schedule.cycles

-- there is a schedule where there is a search, and it is this search's
abbrev pub IsScheduleFor : FlowGraph → Table → Limits → (region : ℕ) → Option Extent → Option LoopSchedule → Type 0
IsScheduleFor flow table limits region None None = Unit {0}
IsScheduleFor flow table limits region None (Some schedule) = ⊥
IsScheduleFor flow table limits region (Some extent) None = ⊥
IsScheduleFor flow table limits region (Some extent) (Some schedule) = IsScheduleOf flow table limits extent region schedule

-- what is explained of a loop at a line, for whose header this was chosen: the region and the note of the choice, and the schedule of
-- its form
pub record IsExplained (flow : FlowGraph) (table : Table) (limits : Limits) (extent : Extent) (line : ℕ) (choice : Choice) (explanation : Explanation)
    : Type 0 where
  pub header : explanation.region ≡ choice.region
  pub noted : explanation.notes ≡ form_notes line choice.form choice.causes
  pub scheduled : IsScheduleFor flow table limits choice.region (search_extent extent choice.form) explanation.schedule

-- ---- the loops of a table

-- the line of a loop, if it is there
abbrev pub loop_line : List LoopMark → Option ℕ → Option ℕ
loop_line loops None = None
loop_line loops (Some loop) = option_map (λ mark. mark.line) (slice_get loops loop)

-- a line, if it is the one that is asked for, or none is
abbrev pub if_asked : (asked line : Option ℕ) → Option ℕ
if_asked asked None = None
if_asked None (Some line) = Some line
if_asked (Some asked) (Some line) = if nat_eq asked line then Some line else None

-- the line of the innermost loop that a region heads, if it heads one that is asked for
abbrev pub line_asked : Table → (asked : Option ℕ) → (region : ℕ) → Option ℕ
line_asked table asked region = if_asked asked (loop_line table.loops (innermost_loop table region))

-- the explanations of what was chosen, in the order of the choices: one for each region that heads an innermost loop that is asked for
pub data AreExplained (flow : FlowGraph) (table : Table) (limits : Limits) (extent : Extent) (asked : Option ℕ) : List Choice → List Explanation → Type 0 where
  none_left : AreExplained flow table limits extent asked [] []
  passed_over : {choice : Choice} {choices : List Choice} {explanations : List Explanation} → line_asked table asked choice.region ≡ None
      → AreExplained flow table limits extent asked choices explanations → AreExplained flow table limits extent asked (choice ∷ choices) explanations
  explained : {line : ℕ} {choice : Choice} {choices : List Choice} {explanation : Explanation} {explanations : List Explanation}
      → line_asked table asked choice.region ≡ Some line → IsExplained flow table limits extent line choice explanation
      → AreExplained flow table limits extent asked choices explanations
      → AreExplained flow table limits extent asked (choice ∷ choices) (explanation ∷ explanations)

-- these are the compiler's choices for a table: it gave forms to its regions, with some data of its arrays
pub record HasChosen (table : Table) (limits : Limits) (extent : Extent) (choices : List Choice) : Type 0 where
  pub initial : List (List ℤ)
  pub forms : ℕ → Option RegionForm
  pub chosen : AreChosen table initial limits extent choices forms

-- ---- what can be written

-- a schedule of which each part can be shown: it has few states; for each a row is told, what waits, and what its names hold; each row has
-- few leaves; and each cycle has a transition
pub record HasEach (schedule : LoopSchedule) : Type 0 where
  pub few : length schedule.states ≤ most_rows
  pub as_many : length schedule.tellings ≡ length schedule.states
  pub as_many_wait : length schedule.waits ≡ length schedule.states
  pub as_many_hold : length schedule.holdings ≡ length schedule.states
  pub few_leaves : AllByRecursion (λ state. length (leaves_of state.row) < 2 ^ 32) schedule.states
  pub circles : AllByRecursion (λ cycle. 1 ≤ length cycle.transitions) schedule.cycles

-- a schedule that can be written: the row of each state is within limits too
pub record ScheduleCanBeWritten (limits : Limits) (schedule : LoopSchedule) : Type 0 where
  pub each : HasEach schedule
  pub fits : AllByRecursion (λ state. RowFits limits state.row) schedule.states

-- an explanation of which each part can be shown: the choice of its note is known, and so can be its schedule
pub record CanBeShown (explanation : Explanation) : Type 0 where
  pub known : AllByRecursion IsChoice explanation.notes
  pub schedule : IfSome explanation.schedule HasEach

-- an explanation that can be written: the choice of its note is known, and its schedule can be written
pub record CanBeWritten (limits : Limits) (explanation : Explanation) : Type 0 where
  pub known : AllByRecursion IsChoice explanation.notes
  pub schedule : IfSome explanation.schedule (ScheduleCanBeWritten limits)
