use Rattle.std.proofs.Common.{◌≡◌, ◌++◌, drop, string_bytes}
use Rattle.pc_view.specs.Listing.{lines_text}
use Rattle.pc_explain.specs.Legends.{legend_in}
use Rattle.pc_explain.specs.Explained.{schedule_in}
use Rattle.pc_explain.specs.EachState.{each_state, explained_states}
use Rattle.pc_explain_text.specs.StateLines.{state_lines}
use Rattle.pc_explain_text.proofs.states.push_states.Given as goal

-- the text with the lines of the states from here on is the text at the start with those of all states
abbrev pub invariant-loop-number : goal.invariant-loop-number
invariant-loop-number l =
    string_bytes l.text
    ++ lines_text (each_state (state_lines l.limits (legend_in l.legend) l.header) l.number (drop l.number (explained_states (schedule_in l.schedule))))
    ≡ string_bytes l.initial.text ++ lines_text (each_state (state_lines l.limits (legend_in l.legend) l.header) 0 (explained_states (schedule_in l.schedule)))
