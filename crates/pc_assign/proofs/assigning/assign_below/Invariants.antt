use Rattle.pc_automaton.specs.Automaton.{states_in}
use Rattle.pc_assign.specs.models.Assigning.{AreGiven}
use Rattle.pc_assign.proofs.assigning.assign_below.Given as goal

abbrev pub invariant-loop-number : goal.invariant-loop-number
invariant-loop-number l = AreGiven l.scratch (states_in l.automaton) l.number l.states l.table.items
