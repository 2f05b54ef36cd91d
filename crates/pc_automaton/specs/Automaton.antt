-- Automata: states with parameters and a row each, whose leaves lead from state to state.
use Rattle.std.specs.Prelude.{◌≡◌, ℕ, ◌≤◌, ◌++◌, Bool, List, map, length, nat_eq, Option, Some, None, slice_get}
use Rattle.std.specs.List.{AllByRecursion, filter_map, IsDistinct}
use Rattle.pc_word.specs.Items.{dest_of}
use Rattle.pc_word.specs.Row.{Row, Then, Either, At_leaf, items_of, tests_of, leaves_of}
use Rattle.pc_window.specs.Names.{IsKnown, ReadsKnown, HomesKnown, and_dest}
use Rattle.pc_window.specs.Rebasing.{is_in}
use Rattle.pc_automaton.specs.declared.automaton.AutomatonLeaf.{AutomatonLeaf}
use Rattle.pc_automaton.specs.declared.automaton.AutomatonLeaf.TheVariants.{To, Out, Stop, Trap}
use Rattle.pc_automaton.specs.declared.automaton.AutomatonState.{AutomatonState as StoredState}
use Rattle.pc_word.specs.StoredRow.{row_in}

-- a state: the names that it is passed values for, and its row
pub record AutomatonState : Type 0 where
  pub parameters : List ℕ
  pub row : Row AutomatonLeaf

-- the state that a state in memory is
abbrev pub state_in : StoredState → AutomatonState
state_in state = record { parameters = state.parameters; row = row_in (λ leaf. leaf) state.row }

-- the states of a list
abbrev pub states_in : List StoredState → List AutomatonState
states_in states = map state_in states

-- ---- what an automaton keeps

-- whether a name is a parameter of a state
abbrev pub is_parameter : AutomatonState → ℕ → Bool
is_parameter state name = is_in name state.parameters

-- the names that a row writes, on whatever path
abbrev pub names_written : Row AutomatonLeaf → List ℕ
names_written row = filter_map dest_of (items_of row)

-- what a leaf uses is known
abbrev pub LeafIsKnown : (ℕ → Bool) → AutomatonLeaf → Type 0
LeafIsKnown known (To state arguments) = AllByRecursion (IsKnown known) arguments
LeafIsKnown known (Out region homes) = HomesKnown known homes
LeafIsKnown known Stop = Unit {0}
LeafIsKnown known (Trap kind line) = Unit {0}

-- each leaf uses what is known before the row or written on the path to it
abbrev pub LeavesAreKnown : (ℕ → Bool) → Row AutomatonLeaf → Type 0
LeavesAreKnown known (Then item rest) = LeavesAreKnown (and_dest known item) rest
LeavesAreKnown known (Either on on_yes on_no) = LeavesAreKnown known on_yes × LeavesAreKnown known on_no
LeavesAreKnown known (At_leaf leaf) = LeafIsKnown known leaf

-- so many arguments may be passed to a state that is there
abbrev pub Takes : Option AutomatonState → ℕ → Type 0
Takes (Some state) count = count ≡ length state.parameters
Takes None count = ⊥

-- a leaf that leads to a state leads to one that is there, with as many arguments as this has parameters
abbrev pub LeafLeads : List AutomatonState → AutomatonLeaf → Type 0
LeafLeads states (To state arguments) = Takes (slice_get states state) (length arguments)
LeafLeads states (Out region homes) = Unit {0}
LeafLeads states Stop = Unit {0}
LeafLeads states (Trap kind line) = Unit {0}

-- what a state keeps among these states
pub record IsStateAmong (states : List AutomatonState) (state : AutomatonState) : Type 0 where
  -- items and tests read parameters alone, and leaves what is known at them
  pub items : AllByRecursion (ReadsKnown (is_parameter state)) (items_of state.row)
  pub tests : AllByRecursion (IsKnown (is_parameter state)) (tests_of state.row)
  pub leaves : LeavesAreKnown (is_parameter state) state.row
  -- each name stands once, as a parameter or where it is written
  pub once : IsDistinct nat_eq (state.parameters ++ names_written state.row)
  pub lead : AllByRecursion (LeafLeads states) (leaves_of state.row)

-- what every automaton keeps: it has a state, and each is one among its states
pub record IsAutomaton (states : List AutomatonState) : Type 0 where
  pub some : 1 ≤ length states
  pub each : AllByRecursion (IsStateAmong states) states
