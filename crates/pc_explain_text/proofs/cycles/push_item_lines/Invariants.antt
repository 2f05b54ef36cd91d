use Rattle.std.proofs.Common.{◌≡◌, ◌≤◌, ◌++◌, drop, string_bytes}
use Rattle.pc_automaton.specs.Automaton.{states_in}
use Rattle.pc_told.specs.Tellings.{tellings_in}
use Rattle.pc_explain.specs.Links.{link_line}
use Rattle.pc_explain_text.specs.CycleLines.{item_lines}
use Rattle.pc_explain_text.proofs.cycles.push_item_lines.Given as goal

-- the text with the lines of the items from here on is the text at the start with all of them; so far there are no more items than links
abbrev pub invariant-loop-at : goal.invariant-loop-at
invariant-loop-at l =
    (string_bytes l.text
    ++ item_lines (link_line l.legend.lines (states_in l.told.automaton) (tellings_in l.told.rows) l.transitions) l.place l.at (drop l.at l.links)
    ≡ string_bytes l.initial.text ++ item_lines (link_line l.legend.lines (states_in l.told.automaton) (tellings_in l.told.rows) l.transitions) 0 0 l.links)
    × (l.place ≤ l.at)
