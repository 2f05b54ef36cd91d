use Rattle.std.proofs.Common.{◌≡◌, ◌++◌, drop, string_bytes}
use Rattle.pc_explain_text.specs.CycleLines.{states_from}
use Rattle.pc_explain_text.proofs.cycles.push_states.Given as goal

-- the text with the states from here on is the text at the start with all of them
abbrev pub invariant-loop-place : goal.invariant-loop-place
invariant-loop-place l = string_bytes l.text ++ states_from l.place (drop l.place l.transitions) ≡ string_bytes l.initial.text ++ states_from 0 l.transitions
