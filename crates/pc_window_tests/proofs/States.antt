-- Automata in memory, and tables from which they are searched.
use Rattle.std.proofs.Common.{◌≡◌, List, length}
use Rattle.std.proofs.lemmas.List.{length-map}
use Rattle.pc_table.proofs.StoredRegions.{some_region}
use Rattle.pc_automaton.specs.declared.automaton.AutomatonState.{AutomatonState as StoredState}
use Rattle.pc_automaton.specs.Automaton.{state_in, states_in}

-- there are as many states in memory
pub as_many_states : (states : List StoredState) → length (states_in states) ≡ length states
as_many_states states = length-map states state_in

pub ruleset searching = (as_many_states, some_region)
