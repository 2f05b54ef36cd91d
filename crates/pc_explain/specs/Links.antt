-- Where the items of a chain round a cycle come from.
use Rattle.std.specs.Prelude.{ℕ, ◌%◌, List, length, Option, Some, None, slice_get}
use Rattle.std.specs.Option.{option_and_then}
use Rattle.pc_automaton.specs.Automaton.{AutomatonState}
use Rattle.pc_told.specs.Tellings.{Telling}
use Rattle.pc_cycles.specs.declared.chain.Link.{Link}
use Rattle.pc_cycles.specs.declared.transition.Transition.{Transition}
use Rattle.pc_cycles.specs.Transitions.{item_origin_to}

-- the node of the flow graph that an item comes from, by its number among those on the path to a leaf of a state
abbrev pub origin_from : Option AutomatonState → Option Telling → (leaf number : ℕ) → Option ℕ
origin_from (Some state) (Some telling) leaf number = item_origin_to state.row telling leaf number
origin_from _ _ leaf number = None

-- so of an item on the way of a transition, if there are both
abbrev pub origin_by : List AutomatonState → List Telling → Option Transition → (number : Option ℕ) → Option ℕ
origin_by states tellings (Some transition) (Some number) =
    origin_from (slice_get states transition.state) (slice_get tellings transition.state) transition.leaf number
origin_by states tellings _ _ = None

-- the line of the item of a link of a chain round these transitions, by its place in the chain and the line of each node
abbrev pub link_line : (lines : List ℕ) → List AutomatonState → List Telling → List Transition → (at : ℕ) → Link → Option ℕ
link_line lines states tellings transitions at link =
    option_and_then (slice_get lines) (origin_by states tellings (slice_get transitions (at % length transitions)) link.item)
