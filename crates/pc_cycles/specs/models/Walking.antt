-- What a walk from state to state has met, and is done with.
use Rattle.std.specs.Prelude.{◌≡◌, ℕ, ◌+◌, ◌<◌, ◌≤◌, Bool, true, false, not, List, length, Some, slice_get}
use Rattle.std.specs.List.{count_by, AllByRecursion}
use Rattle.pc_word.specs.declared.item.Limits.{Limits}
use Rattle.pc_word.specs.Ranges.{AreLimits}
use Rattle.pc_automaton.specs.Automaton.{AutomatonState, IsAutomaton}
use Rattle.pc_told.specs.Tellings.{Telling}
use Rattle.pc_waiting.specs.declared.obstacle.Waiting.{Waiting}
use Rattle.pc_cycles.specs.declared.cycle.Cycle.{Cycle}
use Rattle.pc_cycles.specs.declared.path.Path.{Path}
use Rattle.pc_cycles.specs.declared.path.Path.TheVariants.{Start, After'}
use Rattle.pc_cycles.specs.declared.transition.Transition.{Transition}
use Rattle.pc_cycles.specs.Transitions.{next_of}
use Rattle.pc_cycles.specs.Cycles.{AreScheduled, IsCycle, Closes}
use Rattle.pc_cycles.specs.models.Paths.{is_on, path_length, ComesTo, AreFromOthers}

-- ---- done

-- the walk met a state
abbrev pub IsMet : (met : List Bool) → (state : ℕ) → Type 0
IsMet met state = slice_get met state ≡ Some true

mutual
  -- it is done with a state: whatever leads on from it closes a cycle, or leads to states that it is done with too
  pub data IsDone (states : List AutomatonState) (met : List Bool) (cycles : List Cycle) : (state : ℕ) → Type 0 where
    done : {state : ℕ} → ((leaf next : ℕ) → next_of states (record { state = state; leaf = leaf }) ≡ Some next
        → IsFollowed states met cycles (record { state = state; leaf = leaf }) next) → IsDone states met cycles state

  -- it has followed a transition to a state
  pub data IsFollowed (states : List AutomatonState) (met : List Bool) (cycles : List Cycle) : Transition → (next : ℕ) → Type 0 where
    is_closed : {transition : Transition} {next : ℕ} → Closes cycles transition → IsMet met next → IsFollowed states met cycles transition next
    is_done : {transition : Transition} {next : ℕ} → IsDone states met cycles next → IsFollowed states met cycles transition next

-- it is done with each state that it met, but for those that are still open
abbrev pub OthersAreDone : List AutomatonState → (is_open : ℕ → Bool) → (met : List Bool) → List Cycle → Type 0
OthersAreDone states is_open met cycles = (state : ℕ) → IsMet met state → is_open state ≡ false → IsDone states met cycles state

-- ---- at a place

-- what is known of a schedule on which the walk is
pub record IsGround (limits : Limits) (states : List AutomatonState) : Type 0 where
  pub limited : AreLimits limits
  pub kept : IsAutomaton states
  pub scheduled : AreScheduled limits states

-- the walk is at a state, with a path that leads there
pub record IsAt (states : List AutomatonState) (path : Path) (state : ℕ) (met : List Bool) : Type 0 where
  pub as_many : length met ≡ length states
  pub there : state < length states
  pub comes : ComesTo states path state
  pub others : AreFromOthers path
  pub on_met : (other : ℕ) → is_on path other ≡ true → IsMet met other
  pub room : path_length path + count_by not met ≤ length states

-- what was found so far: the cycles are cycles, and the walk is done with what is not open
pub record IsFound (limits : Limits) (states : List AutomatonState) (tellings : List Telling) (waits : List (List Waiting)) (is_open : ℕ → Bool)
    (met : List Bool) (cycles : List Cycle) : Type 0 where
  pub are_cycles : AllByRecursion (IsCycle limits states tellings waits) cycles
  pub others_done : OthersAreDone states is_open met cycles

-- ---- going on

-- more states are met, and more cycles found
pub record Finds (old_met new_met : List Bool) (old_cycles new_cycles : List Cycle) : Type 0 where
  pub as_many : length new_met ≡ length old_met
  pub stay_met : (state : ℕ) → IsMet old_met state → IsMet new_met state
  pub fewer_left : count_by not new_met ≤ count_by not old_met
  pub stay_told : (at : ℕ) (cycle : Cycle) → slice_get old_cycles at ≡ Some cycle → slice_get new_cycles at ≡ Some cycle

-- from a place the walk has met its state, and is done with what it met but for the path there
pub record Visits (limits : Limits) (states : List AutomatonState) (tellings : List Telling) (waits : List (List Waiting)) (path : Path) (state : ℕ) (old_met new_met : List Bool)
    (old_cycles new_cycles : List Cycle) : Type 0 where
  pub finds : Finds old_met new_met old_cycles new_cycles
  pub is_met : IsMet new_met state
  pub found : IsFound limits states tellings waits (is_on path) new_met new_cycles

-- the last transition of a path was followed
abbrev pub LastIsFollowed : List AutomatonState → (met : List Bool) → List Cycle → Path → (next : ℕ) → Type 0
LastIsFollowed states met cycles Start next = Unit {0}
LastIsFollowed states met cycles (After' transition p before) next = IsFollowed states met cycles transition next

-- the walk followed the last transition of a path to a state
pub record Follows (limits : Limits) (states : List AutomatonState) (tellings : List Telling) (waits : List (List Waiting)) (path : Path) (next : ℕ) (old_met new_met : List Bool)
    (old_cycles new_cycles : List Cycle) : Type 0 where
  pub finds : Finds old_met new_met old_cycles new_cycles
  pub followed : LastIsFollowed states new_met new_cycles path next
  pub found : IsFound limits states tellings waits (is_on path) new_met new_cycles
