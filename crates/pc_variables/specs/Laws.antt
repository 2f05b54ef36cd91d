-- The laws of names that hold scalars. Each is the contract of a function of laws.rt, which does nothing.
use Rattle.std.specs.Prelude.{◌≡◌, ℕ, List, length, map, nat_eq, Some, slice_get}
use Rattle.std.specs.List.{AllByRecursion, IsDistinct}
use Rattle.pc_flow.specs.FlowGraph.{FlowGraph}
use Rattle.pc_automaton.specs.Automaton.{AutomatonState}
use Rattle.pc_told.specs.Tellings.{Telling}
use Rattle.pc_variables.specs.declared.holding.Holding.{Holding}
use Rattle.pc_variables.specs.Holdings.{variables_of}
use Rattle.pc_variables.specs.Holds.{Holds}

-- each name that is told to hold a scalar has a ground for it
abbrev pub EachHasAGround : Type 0
EachHasAGround =
    (flow : FlowGraph) (states : List AutomatonState) (tellings : List Telling) (number : ℕ) (holdings : List Holding)
    → length tellings ≡ length states → slice_get (variables_of flow states tellings) number ≡ Some holdings
    → AllByRecursion (λ holding. Holds flow states tellings number holding.name holding.scalar) holdings

-- of each state each name is told once at most
abbrev pub EachNameOnce : Type 0
EachNameOnce =
    (flow : FlowGraph) (states : List AutomatonState) (tellings : List Telling) (number : ℕ) (holdings : List Holding)
    → slice_get (variables_of flow states tellings) number ≡ Some holdings
    → IsDistinct nat_eq (map (λ holding. holding.name) holdings)
