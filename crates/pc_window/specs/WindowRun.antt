-- The run of a window: its items and tests in order, one a unit, and where it leaves, the region's run.
use Rattle.std.specs.Prelude.{ℕ, ℤ, if◌then◌else◌, Bool, true, false, List, [], ◌∷◌, Option, Some, None}
use Rattle.pc_word.specs.declared.item.Limits.{Limits}
use Rattle.pc_word.specs.declared.item.End.TheVariants.{Ended, Trapped, Fault}
use Rattle.pc_word.specs.Run.{Seen, Run, Step, Goes, Stops, run_from, after_printing}
use Rattle.pc_word.specs.Word.{holds}
use Rattle.pc_word.specs.State.{State}
use Rattle.pc_word.specs.Items.{operand_value}
use Rattle.pc_linear.specs.Form.{Form}
use Rattle.pc_table.specs.Table.{Table, Next}
use Rattle.pc_table.specs.RegionRun.{Place, place_at, region_step, region_run, lead_on}
use Rattle.pc_word.specs.declared.item.MachineFault.{MachineFault}
use Rattle.pc_word.specs.Commit.{fault_of, prints_of}
use Rattle.pc_word.specs.Row.{item_step}
use Rattle.pc_window.specs.Tree.{Tree, Pending, Undecided, Exit, Stop_exit, Trap_exit, Front, Issued, Split, Unfinished, whole, home_state}
use Rattle.pc_window.specs.Walk.{Walked, Leaves, Finishes, walk, after_item}
use Rattle.pc_window.specs.Hold.{TreeHolds}
use Rattle.pc_window.specs.Opening.{Supply}

-- a window: its front with what stands behind it, a form for each name, the numbers from which on names and form variables are new, the limits of its front, and its loop
pub record Window : Type 0 where
  pub front : Front
  pub forms : ℕ → Form
  pub next : ℕ
  pub next_variable : ℕ
  pub limits : Limits
  pub inside : Option ℕ

-- the names of a window
abbrev pub supply_of : Window → Supply
supply_of w = record { forms = w.forms; next = w.next; next_variable = w.next_variable }

-- where the run is: in the window, or in a region
pub data WindowPlace : Type 0 where
  Within : (tree : Tree) → (state : State) → WindowPlace
  Beyond : (place : Place) → WindowPlace

-- a stub leaves at once
abbrev pub enter : Table → Tree → State → WindowPlace
enter table (Exit region tag homes) s = Beyond (place_at table (Next region) (home_state s homes))
enter table tree s = Within tree s

-- a step of a region, as one of a window that was left
abbrev pub beyond : Step Place → Step WindowPlace
beyond (Goes out next) = Goes out (Beyond next)
beyond (Stops out end) = Stops out end

-- one unit
abbrev pub tree_unit : Table → Tree → State → Step WindowPlace
tree_unit table (Pending tag origin item rest) s = lead_on (item_step table.arrays item rest s) (enter table)
tree_unit table (Undecided tag origin on on_yes on_no) s = Goes [] (enter table (if holds (operand_value s.names on) then on_yes else on_no) s)
tree_unit table (Exit region tag homes) s = Goes [] (Beyond (place_at table (Next region) (home_state s homes)))
tree_unit table Stop_exit s = Stops [] Ended
tree_unit table (Trap_exit kind line) s = Stops [] (Trapped kind line)

-- one unit, in a window or in a region
abbrev pub window_step : Table → WindowPlace → Step WindowPlace
window_step table (Within tree s) = tree_unit table tree s
window_step table (Beyond place) = beyond (region_step table place)

-- the run of a tree from a state: at most n units
abbrev pub tree_run : Table → Tree → State → Run
tree_run table tree s n = run_from (window_step table) n (enter table tree s)

-- the run of a window from a state
abbrev pub window_run : Table → Window → State → Run
window_run table w s = tree_run table (whole w.front) s

-- the forms of a window hold in a state
abbrev pub FormsHold : Table → Window → State → Type 0
FormsHold table w s = TreeHolds w.forms table.arrays (whole w.front) s

-- ---- runs in which a window, or its front, costs nothing

-- a walk, and n units of the region's run where it leaves for one
abbrev pub follow : Table → Walked → Run
follow table (Leaves printed region s) n = after_printing printed (region_run table (Next region) s n)
follow table (Finishes printed end) n = record { printed = printed; end = Some end }

-- the run of a tree that costs nothing, and n units behind it
abbrev pub free_run : Table → Tree → State → Run
free_run table tree s n = follow table (walk table.arrays tree s) n

-- an item's fault, or what is seen after what it prints
abbrev pub seen_first : Option MachineFault → List ℤ → Seen → Seen
seen_first (Some fault) out seen = record { printed = []; end = Some (Fault fault) }
seen_first None out seen = after_printing out seen

-- one of two, as a test goes
abbrev pub seen_side : Bool → Seen → Seen → Seen
seen_side true x y = x
seen_side false x y = y

-- the run of a window whose front costs nothing: its items and tests in order, and then n units of what stands behind it
abbrev pub front_run : Table → Front → State → Run
front_run table (Issued tag origin item rest) s n = seen_first (fault_of table.arrays s (item ∷ [])) (prints_of s (item ∷ [])) (front_run table rest (after_item table.arrays item s) n)
front_run table (Split tag origin on on_yes on_no) s n = seen_side (holds (operand_value s.names on)) (front_run table on_yes s n) (front_run table on_no s n)
front_run table (Unfinished rest) s n = tree_run table rest s n
