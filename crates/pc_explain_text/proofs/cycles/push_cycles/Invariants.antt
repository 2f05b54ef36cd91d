use Rattle.std.proofs.Common.{◌≡◌, ◌++◌, drop, string_bytes}
use Rattle.std.specs.List.{flat_map}
use Rattle.pc_automaton.specs.Automaton.{states_in}
use Rattle.pc_told.specs.Tellings.{tellings_in}
use Rattle.pc_view.specs.Listing.{lines_text}
use Rattle.pc_explain_text.specs.CycleLines.{cycle_lines}
use Rattle.pc_explain_text.proofs.cycles.push_cycles.Given as goal

-- the text with the lines of the cycles from here on is the text at the start with those of all cycles
abbrev pub invariant-loop-cycle : goal.invariant-loop-cycle
invariant-loop-cycle l =
    string_bytes l.text
    ++ lines_text (flat_map (cycle_lines l.legend.lines (states_in l.told.automaton) (tellings_in l.told.rows)) (drop l.cycle-index l.cycles))
    ≡ string_bytes l.initial.text ++ lines_text (flat_map (cycle_lines l.legend.lines (states_in l.told.automaton) (tellings_in l.told.rows)) l.cycles)
