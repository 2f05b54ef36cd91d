use Rattle.std.proofs.Common.{◌≡◌, ◌+◌, drop}
use Rattle.pc_automaton.specs.Automaton.{states_in}
use Rattle.pc_emit.specs.Bytes.{states_bytes}
use Rattle.pc_compile.proofs.bytes.states_bytes.Given as goal

abbrev pub invariant-loop-number : goal.invariant-loop-number
invariant-loop-number l = l.bytes + states_bytes (states_in (drop l.number l.automaton)) ≡ states_bytes (states_in l.automaton)
