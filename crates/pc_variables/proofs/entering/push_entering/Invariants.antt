use Rattle.std.proofs.Common.{◌≡◌, drop}
use Rattle.pc_automaton.specs.Automaton.{states_in}
use Rattle.pc_variables.specs.Holdings.{entered}
use Rattle.pc_variables.proofs.entering.push_entering.Given as goal

-- no state that was passed leads there
abbrev pub invariant-loop-from : goal.invariant-loop-from
invariant-loop-from l =
    entered (drop l.from l.earlier) (drop l.from (states_in l.automaton)) l.number l.parameters l.holdings
    ≡ entered l.earlier (states_in l.automaton) l.number l.parameters l.initial.holdings
