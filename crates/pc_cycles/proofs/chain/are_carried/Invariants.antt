use Rattle.std.proofs.Common.{take}
use Rattle.pc_automaton.specs.Automaton.{states_in}
use Rattle.pc_told.specs.Tellings.{tellings_in}
use Rattle.pc_cycles.specs.Chains.{Carry}
use Rattle.pc_cycles.proofs.chain.are_carried.Given as goal

-- the links before this one carry on to where the walk is
abbrev pub invariant-loop-at : goal.invariant-loop-at
invariant-loop-at l = Carry (states_in l.told.automaton) (tellings_in l.told.rows) l.told.waiting l.transitions 0 l.start (take l.at l.links) l.carrier
