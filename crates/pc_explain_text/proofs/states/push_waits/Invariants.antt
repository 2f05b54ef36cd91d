use Rattle.std.proofs.Common.{◌≡◌, ◌++◌, drop, map, string_bytes}
use Rattle.pc_view.specs.Listing.{lines_text}
use Rattle.pc_explain.specs.Legends.{legend_in}
use Rattle.pc_explain_text.specs.StateLines.{waiting_words}
use Rattle.pc_explain_text.proofs.states.push_waits.Given as goal

-- the text with the lines of what waits from here on is the text at the start with those of all that waits
abbrev pub invariant-loop-it : goal.invariant-loop-it
invariant-loop-it l =
    string_bytes l.text ++ lines_text (map (waiting_words (legend_in l.legend)) (drop l.it-index l.waits))
    ≡ string_bytes l.initial.text ++ lines_text (map (waiting_words (legend_in l.legend)) l.waits)
