-- What regions do one after the other: each item and each test takes one unit, and the next region follows at no cost.
use Rattle.std.specs.Prelude.{ℤ, if◌then◌else◌, List, []}
use Rattle.pc_word.specs.declared.item.End.TheVariants.{Ended, Trapped, Fault}
use Rattle.pc_word.specs.Word.{holds}
use Rattle.pc_word.specs.Run.{Run, Step, Goes, Stops, run_from}
use Rattle.pc_word.specs.State.{State, start_state}
use Rattle.pc_word.specs.Items.{operand_value}
use Rattle.pc_word.specs.Row.{RowOutcome, Faults, Commits, item_step}
use Rattle.pc_table.specs.Table.{TableTree, Does, Asks, Next, Stops_here, Traps_here, Table, region_tree}

-- a tree that is still to be done, and the state, whose names are the variables
pub record Place : Type 0 where
  pub tree : TableTree
  pub state : State

-- where a region follows, its tree: this costs nothing
abbrev pub arrive : Table → TableTree → TableTree
arrive table (Does origin item rest) = Does origin item rest
arrive table (Asks origin on on_yes on_no) = Asks origin on on_yes on_no
arrive table (Next region) = region_tree table region
arrive table Stops_here = Stops_here
arrive table (Traps_here kind line) = Traps_here kind line

-- a place, with what follows a region found
abbrev pub place_at : Table → TableTree → State → Place
place_at table tree s = record { tree = arrive table tree; state = s }

-- an item that is done leads on to what its leaf names; a fault ends the run, and its item prints nothing
abbrev pub lead_on : {L S : Type 0} → RowOutcome L → (L → State → S) → Step S
lead_on (Faults fault) next = Stops [] (Fault fault)
lead_on (Commits out new leaf) next = Goes out (next leaf new)

-- the side to which a test goes
abbrev pub side_of : {S : Type 0} → ℤ → S → S → S
side_of value one other = if holds value then one else other

-- one item or test: an item does what the row of this item alone does
abbrev pub region_step_at : Table → TableTree → State → Step Place
region_step_at table (Does origin item rest) s = lead_on (item_step table.arrays item rest s) (place_at table)
region_step_at table (Asks origin on on_yes on_no) s = Goes [] (place_at table (side_of (operand_value s.names on) on_yes on_no) s)
region_step_at table (Next region) s = Goes [] (place_at table (Next region) s)
region_step_at table Stops_here s = Stops [] Ended
region_step_at table (Traps_here kind line) s = Stops [] (Trapped kind line)

abbrev pub region_step : Table → Place → Step Place
region_step table place = region_step_at table place.tree place.state

-- the run of a tree from a state: at most n items and tests
abbrev pub region_run : Table → TableTree → State → Run
region_run table tree s n = run_from (region_step table) n (place_at table tree s)

-- the run of a table: of region 0, with all variables 0, on arrays that begin with these data
abbrev pub table_run : Table → List (List ℤ) → List ℤ → Run
table_run table initial input = region_run table (Next 0) (start_state initial input)
