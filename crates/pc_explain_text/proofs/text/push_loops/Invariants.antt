use Rattle.std.proofs.Common.{◌≡◌, ◌++◌, drop, string_bytes}
use Rattle.std.specs.List.{flat_map}
use Rattle.pc_view.specs.Listing.{lines_text}
use Rattle.pc_explain.specs.Legends.{legend_in}
use Rattle.pc_explain.specs.Explained.{explanations_in}
use Rattle.pc_explain_text.specs.Text.{explanation_lines}
use Rattle.pc_explain_text.proofs.text.push_loops.Given as goal

-- the text with the lines of the loops from here on is the text at the start with those of all loops
abbrev pub invariant-loop-explanation : goal.invariant-loop-explanation
invariant-loop-explanation l =
    string_bytes l.text ++ lines_text (flat_map (explanation_lines l.limits (legend_in l.legend)) (explanations_in (drop l.explanation-index l.loops)))
    ≡ string_bytes l.initial.text ++ lines_text (flat_map (explanation_lines l.limits (legend_in l.legend)) (explanations_in l.loops))
