-- Cycles of states, what stands on them, and that none is passed over.
use Rattle.std.specs.Prelude.{◌≡◌, ℕ, ◌*◌, ◌≤◌, nat_eq, List, [], ◌∷◌, ◌++◌, length, map, Some, IfSome, slice_get}
use Rattle.std.specs.List.{count_by, AllByRecursion, IsDistinct}
use Rattle.pc_word.specs.declared.item.Limits.{Limits}
use Rattle.pc_word.specs.Items.{is_memory}
use Rattle.pc_word.specs.MachineLimits.{most_rows}
use Rattle.pc_automaton.specs.Automaton.{AutomatonState}
use Rattle.pc_automaton.specs.RowFits.{RowFits}
use Rattle.pc_told.specs.Resources.{IsLeastRoom}
use Rattle.pc_told.specs.Tellings.{Telling}
use Rattle.pc_cycles.specs.declared.cycle.Cycle.{Cycle}
use Rattle.pc_waiting.specs.declared.obstacle.Resource.{Resource}
use Rattle.pc_waiting.specs.declared.obstacle.Resource.TheVariants.{Items, Tests, Memory}
use Rattle.pc_waiting.specs.declared.obstacle.Waiting.{Waiting}
use Rattle.pc_cycles.specs.declared.transition.Transition.{Transition}
use Rattle.pc_cycles.specs.Chains.{IsChain}
use Rattle.pc_cycles.specs.Transitions.{Leads, items_along, tests_along, taken_along, origins_along}

-- ---- what is asked of a schedule

-- the states of a schedule within limits: they are few, and the row of each is within the limits
pub record AreScheduled (limits : Limits) (states : List AutomatonState) : Type 0 where
  pub few : length states ≤ most_rows
  pub fits : AllByRecursion (λ state. RowFits limits state.row) states

-- ---- what stands on a way

-- this many of some numbers are one and the same, and no more are
pub record IsGreatestCount (numbers : List ℕ) (most : ℕ) : Type 0 where
  pub bound : (number : ℕ) → count_by (nat_eq number) numbers ≤ most
  pub common : ℕ
  pub reached : count_by (nat_eq common) numbers ≡ most

-- so many rows have room for what stands there of a resource
abbrev pub HasRoomFor : Limits → (items tests memory : ℕ) → Resource → (rows : ℕ) → Type 0
HasRoomFor limits items tests memory Items rows = items ≤ rows * limits.ops
HasRoomFor limits items tests memory Tests rows = tests ≤ rows * limits.tests
HasRoomFor limits items tests memory Memory rows = memory ≤ rows * limits.mem

-- what stands there of a resource has no room in fewer rows
abbrev pub NeedsRows : Limits → (items tests memory : ℕ) → Resource → (least : ℕ) → Type 0
NeedsRows limits items tests memory resource least = (rows : ℕ) → HasRoomFor limits items tests memory resource rows → least ≤ rows

-- ---- cycles

-- What tells how many iterations go by: the origins of the tests on the way, of which a node's comes once an iteration. Where there is no
-- test, those of the items; of an item several may stand on a way, where it was done ahead for both sides of a test.
abbrev pub iteration_origins : List AutomatonState → List Telling → List Transition → List ℕ
iteration_origins states tellings transitions = origins_along (nat_eq (length (tests_along states transitions)) 0) states tellings transitions

-- a cycle of states, with what stands on the way once around
pub record IsCycle (limits : Limits) (states : List AutomatonState) (tellings : List Telling) (waits : List (List Waiting)) (cycle : Cycle) : Type 0 where
  -- it leads from a state back to this, and no state stands twice on it
  pub start : ℕ
  pub closed : Leads states start cycle.transitions start
  pub some : 1 ≤ length cycle.transitions
  pub once : IsDistinct nat_eq (map (λ transition. transition.state) cycle.transitions)
  -- these are the counts
  pub iterations : IsGreatestCount (iteration_origins states tellings cycle.transitions) cycle.iterations
  pub items : cycle.items ≡ length (items_along states cycle.transitions)
  pub tests : cycle.tests ≡ length (tests_along states cycle.transitions)
  pub taken : cycle.taken ≡ length (taken_along states cycle.transitions)
  pub memory : cycle.memory ≡ count_by is_memory (items_along states cycle.transitions)
  -- so many rows are needed at least, because of this resource, and it has no fewer
  pub least : IsLeastRoom limits cycle.items cycle.tests cycle.memory cycle.least_rows
  pub needed : NeedsRows limits cycle.items cycle.tests cycle.memory cycle.resource cycle.least_rows
  pub takes : cycle.least_rows ≤ length cycle.transitions
  -- the chain goes round it
  pub chain : IfSome cycle.chain (IsChain states tellings waits cycle.transitions)

-- ---- that none is passed over

-- a transition is the last of one of these cycles
pub record Closes (cycles : List Cycle) (transition : Transition) : Type 0 where
  pub at : ℕ
  pub cycle : Cycle
  pub told : slice_get cycles at ≡ Some cycle
  pub before : List Transition
  pub last : cycle.transitions ≡ before ++ transition ∷ []

-- one of some transitions is
pub record SomeCloses (cycles : List Cycle) (transitions : List Transition) : Type 0 where
  pub at : ℕ
  pub transition : Transition
  pub there : slice_get transitions at ≡ Some transition
  pub closes : Closes cycles transition

-- whoever goes round and round somewhere, where state 0 leads to, takes the last transition of one of these cycles
abbrev pub NoneIsPassedOver : List AutomatonState → List Cycle → Type 0
NoneIsPassedOver states cycles = (at : ℕ) (way around : List Transition) → Leads states 0 way at → Leads states at around at → 1 ≤ length around
    → SomeCloses cycles around
