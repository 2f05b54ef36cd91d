use Rattle.std.proofs.Common.{◌≡◌, length, drop}
use Rattle.pc_automaton.specs.Automaton.{states_in}
use Rattle.pc_emit.specs.Leading.{states_lead}
use Rattle.pc_compile.specs.Choosing.{with_regions}
use Rattle.pc_compile.proofs.leading.find_led_out.Given as goal

abbrev pub invariant-loop-number : goal.invariant-loop-number
invariant-loop-number l =
    (with_regions l.found.order (states_lead (states_in (drop l.number l.automaton))) ≡ with_regions l.initial.found.order (states_lead (states_in l.automaton)))
    × (length l.found.marks ≡ length l.initial.found.marks)
