-- Ways that lead back, before what stands on them is counted.
use Rattle.std.specs.Prelude.{ℕ, ◌<◌, ◌≤◌, ◌^◌, nat_eq, List, length, map}
use Rattle.std.specs.List.{AllByRecursion, IsDistinct}
use Rattle.pc_word.specs.Row.{leaves_of}
use Rattle.pc_automaton.specs.Automaton.{AutomatonState}
use Rattle.pc_cycles.specs.declared.transition.Transition.{Transition}
use Rattle.pc_cycles.specs.Transitions.{Leads}

-- the row of each state has so few leaves that they can be counted
abbrev pub HaveFewLeaves : List AutomatonState → Type 0
HaveFewLeaves states = AllByRecursion (λ state. length (leaves_of state.row) < 2 ^ 32) states

-- each of some transitions is from a state that is there
abbrev pub AreThere : List AutomatonState → List Transition → Type 0
AreThere states transitions = AllByRecursion (λ transition. transition.state < length states) transitions

-- transitions lead from a state back to this, and no two are from one state
pub record IsCircle (states : List AutomatonState) (transitions : List Transition) : Type 0 where
  pub start : ℕ
  pub closed : Leads states start transitions start
  pub some : 1 ≤ length transitions
  pub once : IsDistinct nat_eq (map (λ transition. transition.state) transitions)
  pub few : length transitions ≤ length states
