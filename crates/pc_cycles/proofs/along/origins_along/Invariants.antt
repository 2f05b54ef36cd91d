use Rattle.std.proofs.Common.{◌≡◌, ◌++◌, drop}
use Rattle.pc_automaton.specs.Automaton.{states_in}
use Rattle.pc_told.specs.Tellings.{tellings_in}
use Rattle.pc_cycles.specs.Transitions.{origins_along}
use Rattle.pc_cycles.proofs.along.origins_along.Given as goal

-- what is told before this transition, and what is told from it on
abbrev pub invariant-loop-transition : goal.invariant-loop-transition
invariant-loop-transition l =
    l.origins ++ origins_along l.of_items (states_in l.told.automaton) (tellings_in l.told.rows) (drop l.transition-index l.way)
    ≡ origins_along l.of_items (states_in l.told.automaton) (tellings_in l.told.rows) l.way
