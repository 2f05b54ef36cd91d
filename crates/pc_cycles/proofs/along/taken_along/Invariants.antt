use Rattle.std.proofs.Common.{◌≡◌, ◌++◌, drop}
use Rattle.pc_automaton.specs.Automaton.{states_in}
use Rattle.pc_cycles.specs.Transitions.{taken_along}
use Rattle.pc_cycles.proofs.along.taken_along.Given as goal

-- what stands before this transition, and what stands from it on
abbrev pub invariant-loop-transition : goal.invariant-loop-transition
invariant-loop-transition l = l.taken ++ taken_along (states_in l.told.automaton) (drop l.transition-index l.way) ≡ taken_along (states_in l.told.automaton) l.way
