-- The schedule of a table's regions in their forms: a row of an automaton at a time in a region that has one, an item or test at a
-- time in a plain one; the next region follows at no cost. And how many cycles it may cost.
use Rattle.std.specs.Prelude.{ℕ, zero, suc, ◌+◌, ◌*◌, ℤ, if◌then◌else◌, nat_le, List, [], length, Option, Some, None, slice_get}
use Rattle.pc_word.specs.declared.item.End.TheVariants.{Ended, Trapped, Fault}
use Rattle.pc_word.specs.Run.{Run, Step, Goes, Stops, run_from}
use Rattle.pc_word.specs.State.{State, start_state}
use Rattle.pc_word.specs.Items.{operand_value}
use Rattle.pc_word.specs.Row.{RowOutcome, Faults, Commits, item_step, row_step}
use Rattle.pc_table.specs.Table.{TableTree, Does, Asks, Next, Stops_here, Traps_here, Table, region_tree}
use Rattle.pc_table.specs.RegionRun.{lead_on, side_of}
use Rattle.pc_window.specs.Tree.{home_state}
use Rattle.pc_automaton.specs.declared.automaton.AutomatonLeaf.{AutomatonLeaf}
use Rattle.pc_automaton.specs.declared.automaton.AutomatonLeaf.TheVariants.{To, Out, Stop, Trap}
use Rattle.pc_automaton.specs.Automaton.{AutomatonState}
use Rattle.pc_automaton.specs.AutomatonRun.{passed_state, state_parameters}
use Rattle.pc_emit.specs.Emitted.{RegionForm, Plain, ByAutomaton}

-- where a schedule is: at what is left of a plain region's tree, or in a state of a region's automaton
pub data SchedulePlace : Type 0 where
  At_tree : (tree : TableTree) → (state : State) → SchedulePlace
  At_state : (region : ℕ) → (states : List AutomatonState) → (number : ℕ) → (state : State) → SchedulePlace

-- where a region in this form begins
abbrev pub begins_in : Table → (region : ℕ) → Option RegionForm → State → SchedulePlace
begins_in table region None s = At_tree (region_tree table region) s
begins_in table region (Some Plain) s = At_tree (region_tree table region) s
begins_in table region (Some (ByAutomaton states registers)) s = At_state region states 0 s

-- where a region begins, with these values of the variables
abbrev pub begins_at : Table → (forms : ℕ → Option RegionForm) → (region : ℕ) → State → SchedulePlace
begins_at table forms region s = begins_in table region (forms region) s

-- what stands after an item or test of a plain region: the rest of its tree, or the region that follows
abbrev pub behind : Table → (forms : ℕ → Option RegionForm) → TableTree → State → SchedulePlace
behind table forms (Does origin item rest) s = At_tree (Does origin item rest) s
behind table forms (Asks origin on on_yes on_no) s = At_tree (Asks origin on on_yes on_no) s
behind table forms (Next region) s = begins_at table forms region s
behind table forms Stops_here s = At_tree Stops_here s
behind table forms (Traps_here kind line) s = At_tree (Traps_here kind line) s

-- one item or test of a plain region, or the stop or trap at its end
abbrev pub tree_step : Table → (forms : ℕ → Option RegionForm) → TableTree → State → Step SchedulePlace
tree_step table forms (Does origin item rest) s = lead_on (item_step table.arrays item rest s) (behind table forms)
tree_step table forms (Asks origin on on_yes on_no) s = Goes [] (behind table forms (side_of (operand_value s.names on) on_yes on_no) s)
tree_step table forms (Next region) s = Goes [] (begins_at table forms region s)
tree_step table forms Stops_here s = Stops [] Ended
tree_step table forms (Traps_here kind line) s = Stops [] (Trapped kind line)

-- where a leaf of a state leads
abbrev pub schedule_leaf_step : Table → (forms : ℕ → Option RegionForm) → (region : ℕ) → List AutomatonState → List ℤ → State → AutomatonLeaf → Step SchedulePlace
schedule_leaf_step table forms region states out new (To number arguments) =
    Goes out (At_state region states number (passed_state new (state_parameters (slice_get states number)) arguments))
schedule_leaf_step table forms region states out new (Out to homes) = Goes out (begins_at table forms to (home_state new homes))
schedule_leaf_step table forms region states out new Stop = Stops out Ended
schedule_leaf_step table forms region states out new (Trap kind line) = Stops out (Trapped kind line)

-- a row that was done leads on, and a fault ends the run
abbrev pub schedule_outcome_step : Table → (forms : ℕ → Option RegionForm) → (region : ℕ) → List AutomatonState → RowOutcome AutomatonLeaf → Step SchedulePlace
schedule_outcome_step table forms region states (Faults fault) = Stops [] (Fault fault)
schedule_outcome_step table forms region states (Commits out new leaf) = schedule_leaf_step table forms region states out new leaf

-- the row of a state; a number that no state has, which no leaf of an automaton names, ends
abbrev pub schedule_state_step : Table → (forms : ℕ → Option RegionForm) → (region : ℕ) → List AutomatonState → Option AutomatonState → State → Step SchedulePlace
schedule_state_step table forms region states (Some state) s = schedule_outcome_step table forms region states (row_step table.arrays state.row s)
schedule_state_step table forms region states None s = Stops [] Ended

-- one step of the schedule: an item or test of a plain region is done, or a row
abbrev pub schedule_step : Table → (forms : ℕ → Option RegionForm) → SchedulePlace → Step SchedulePlace
schedule_step table forms (At_tree tree s) = tree_step table forms tree s
schedule_step table forms (At_state region states number s) = schedule_state_step table forms region states (slice_get states number) s

-- the schedule's run: so many rows, and items and tests of plain regions, from region 0 and with all variables 0, on arrays that
-- begin with these data
abbrev pub schedule_run : Table → (forms : ℕ → Option RegionForm) → (initial : List (List ℤ)) → List ℤ → Run
schedule_run table forms initial input n = run_from (schedule_step table forms) n (begins_at table forms 0 (start_state initial input))

-- ---- cost

-- the cycles of a row whose leaf passes so many values, where so many copies may stand in a row: its own; one more where all are
-- copied in one row; else at most two rows of copies more for each value
abbrev pub passing_cost : (ops passed : ℕ) → ℕ
passing_cost ops zero = 1
passing_cost ops (suc more) = if nat_le (suc more) ops then 2 else 1 + 2 * suc more

-- the cycles of a row by the leaf that is taken
abbrev pub leaf_cost : (ops : ℕ) → AutomatonLeaf → ℕ
leaf_cost ops (To number arguments) = passing_cost ops (length arguments)
leaf_cost ops (Out region homes) = passing_cost ops (length homes)
leaf_cost ops Stop = 1
leaf_cost ops (Trap kind line) = 1

-- the cycles of a row by its outcome
abbrev pub outcome_cost : (ops : ℕ) → RowOutcome AutomatonLeaf → ℕ
outcome_cost ops (Faults fault) = 1
outcome_cost ops (Commits out new leaf) = leaf_cost ops leaf

-- the cycles of a state's row
abbrev pub state_cost : (lengths : List ℕ) (ops : ℕ) → Option AutomatonState → State → ℕ
state_cost lengths ops (Some state) s = outcome_cost ops (row_step lengths state.row s)
state_cost lengths ops None s = 1

-- the cycles of a step: in a plain region one for each item, test, stop and trap; else those of a row
abbrev pub step_cost : (lengths : List ℕ) (ops : ℕ) → SchedulePlace → ℕ
step_cost lengths ops (At_tree tree s) = 1
step_cost lengths ops (At_state region states number s) = state_cost lengths ops (slice_get states number) s

-- the cycles of the steps after one
abbrev pub cost_behind : {P : Type 0} → Step P → (P → ℕ) → ℕ
cost_behind (Goes out next) cost = cost next
cost_behind (Stops out end) cost = 0

-- the cycles of at most so many steps
abbrev pub cost_from : {P : Type 0} → (P → Step P) → (P → ℕ) → ℕ → P → ℕ
cost_from step cost zero place = 0
cost_from step cost (suc n) place = cost place + cost_behind (step place) (cost_from step cost n)

-- The cycles before the first step. Where region 0 is plain, row 0 may be a leaf alone that leads to the first row of its tree, which
-- is one cycle; a leaf that leads to a region later on leads straight to that region's first row.
abbrev pub start_cost : Option RegionForm → ℕ
start_cost None = 1
start_cost (Some Plain) = 1
start_cost (Some (ByAutomaton states registers)) = 0

-- what so many steps of the schedule may cost
abbrev pub schedule_cost : Table → (ℕ → Option RegionForm) → (ops : ℕ) → (initial : List (List ℤ)) → List ℤ → ℕ → ℕ
schedule_cost table forms ops initial input n =
    start_cost (forms 0) + cost_from (schedule_step table forms) (step_cost table.arrays ops) n (begins_at table forms 0 (start_state initial input))
