use Rattle.std.proofs.Common.{◌≡◌, drop, length}
use Rattle.pc_automaton.specs.Automaton.{states_in}
use Rattle.pc_told.specs.Tellings.{tellings_in}
use Rattle.pc_variables.specs.Holdings.{and_states, variables_of}
use Rattle.pc_variables.proofs.states.variables.Given as goal

-- the states that are left lead to the same
abbrev pub invariant-loop-number : goal.invariant-loop-number
invariant-loop-number l =
    (length l.variables ≡ l.number)
    × (and_states l.flow (states_in l.automaton) (tellings_in (drop l.number l.rows)) l.variables ≡ variables_of l.flow (states_in l.automaton) (tellings_in l.rows))
