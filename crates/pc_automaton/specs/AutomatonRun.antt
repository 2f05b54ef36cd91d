-- The run of an automaton: one row a unit, from state to state, and where a leaf leads out, the region's run.
use Rattle.std.specs.Prelude.{ℕ, ℤ, pos, if◌then◌else◌, nat_eq, List, [], ◌∷◌, Option, Some, None, slice_get}
use Rattle.pc_word.specs.declared.item.Operand.{Operand}
use Rattle.pc_word.specs.declared.item.End.TheVariants.{Ended, Trapped, Fault}
use Rattle.pc_word.specs.Run.{Run, Step, Goes, Stops, run_from}
use Rattle.pc_word.specs.State.{State}
use Rattle.pc_word.specs.Items.{operand_value}
use Rattle.pc_word.specs.Row.{RowOutcome, Faults, Commits, row_step}
use Rattle.pc_table.specs.Table.{Table, Next}
use Rattle.pc_table.specs.RegionRun.{Place, place_at, region_step}
use Rattle.pc_window.specs.Tree.{home_state}
use Rattle.pc_automaton.specs.declared.automaton.AutomatonLeaf.{AutomatonLeaf}
use Rattle.pc_automaton.specs.declared.automaton.AutomatonLeaf.TheVariants.{To, Out, Stop, Trap}
use Rattle.pc_automaton.specs.Automaton.{AutomatonState}

-- where the run is: at a state by its number, or in a region
pub data AutomatonPlace : Type 0 where
  At_state : (number : ℕ) → (state : State) → AutomatonPlace
  In_region : (place : Place) → AutomatonPlace

-- the value of a name where arguments are passed to parameters: that of its argument; 0 where it is no parameter
abbrev pub passed : (ℕ → ℤ) → List ℕ → List Operand → ℕ → ℤ
passed names (parameter ∷ parameters) (argument ∷ arguments) x =
    if nat_eq parameter x then operand_value names argument else passed names parameters arguments x
passed names _ _ x = pos 0

-- the state in which a row begins to which arguments are passed
abbrev pub passed_state : State → List ℕ → List Operand → State
passed_state s parameters arguments = record { names = passed s.names parameters arguments; cells = s.cells; input = s.input }

-- the parameters of a state, if it is there
abbrev pub state_parameters : Option AutomatonState → List ℕ
state_parameters (Some state) = state.parameters
state_parameters None = []

-- a leaf leads on, after what its row printed
abbrev pub leaf_step : Table → List AutomatonState → List ℤ → State → AutomatonLeaf → Step AutomatonPlace
leaf_step table states out new (To number arguments) = Goes out (At_state number (passed_state new (state_parameters (slice_get states number)) arguments))
leaf_step table states out new (Out region homes) = Goes out (In_region (place_at table (Next region) (home_state new homes)))
leaf_step table states out new Stop = Stops out Ended
leaf_step table states out new (Trap kind line) = Stops out (Trapped kind line)

-- a row that was done leads on
abbrev pub outcome_step : Table → List AutomatonState → RowOutcome AutomatonLeaf → Step AutomatonPlace
outcome_step table states (Faults fault) = Stops [] (Fault fault)
outcome_step table states (Commits out new leaf) = leaf_step table states out new leaf

-- a state does its row; a number that no state has, which no leaf of an automaton names, ends
abbrev pub state_step : Table → List AutomatonState → Option AutomatonState → State → Step AutomatonPlace
state_step table states (Some state) s = outcome_step table states (row_step table.arrays state.row s)
state_step table states None s = Stops [] Ended

-- a step of a region, as one of an automaton that was left
abbrev pub left_step : Step Place → Step AutomatonPlace
left_step (Goes out next) = Goes out (In_region next)
left_step (Stops out end) = Stops out end

-- one unit: a row, or, once the automaton was left, a step or test of a region
abbrev pub automaton_step : Table → List AutomatonState → AutomatonPlace → Step AutomatonPlace
automaton_step table states (At_state number s) = state_step table states (slice_get states number) s
automaton_step table states (In_region place) = left_step (region_step table place)

-- the run from state 0, where each name has its value in s
abbrev pub automaton_run : Table → List AutomatonState → State → Run
automaton_run table states s n = run_from (automaton_step table states) n (At_state 0 s)
