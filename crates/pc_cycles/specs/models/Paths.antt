-- The path of a walk from state to state.
use Rattle.std.specs.Prelude.{◌≡◌, ℕ, suc, Bool, false, ◌||◌, if◌then◌else◌, nat_eq, List, [], ◌∷◌, ◌++◌, Some}
use Rattle.pc_automaton.specs.Automaton.{AutomatonState}
use Rattle.pc_cycles.specs.declared.path.Path.{Path}
use Rattle.pc_cycles.specs.declared.path.Path.TheVariants.{Start, After'}
use Rattle.pc_cycles.specs.declared.transition.Transition.{Transition}
use Rattle.pc_cycles.specs.Transitions.{next_of}

-- whether a transition on the path is from a state
abbrev pub is_on : Path → (state : ℕ) → Bool
is_on Start state = false
is_on (After' transition p before) state = nat_eq transition.state state || is_on before state

-- the transitions from the last one on that is from a state
abbrev pub since : Path → (state : ℕ) → List Transition
since Start state = []
since (After' transition p before) state = if nat_eq transition.state state then transition ∷ [] else since before state ++ transition ∷ []

-- how many transitions it has
abbrev pub path_length : Path → ℕ
path_length Start = 0
path_length (After' transition p before) = suc (path_length before)

-- each leads to where the next one is from, and the last one to this state
abbrev pub ComesTo : List AutomatonState → Path → (to : ℕ) → Type 0
ComesTo states Start to = Unit {0}
ComesTo states (After' transition p before) to = (next_of states transition ≡ Some to) × ComesTo states before transition.state

-- no two are from one state
abbrev pub AreFromOthers : Path → Type 0
AreFromOthers Start = Unit {0}
AreFromOthers (After' transition p before) = (is_on before transition.state ≡ false) × AreFromOthers before
