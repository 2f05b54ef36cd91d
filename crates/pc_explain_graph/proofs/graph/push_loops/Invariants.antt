use Rattle.std.proofs.Common.{◌≡◌, ◌++◌, drop, string_bytes}
use Rattle.pc_view.specs.Listing.{lines_text}
use Rattle.pc_explain.specs.Explained.{explanations_in}
use Rattle.pc_explain.specs.Legends.{legend_in}
use Rattle.pc_explain_graph.specs.Graph.{loops_graph}
use Rattle.pc_explain_graph.proofs.graph.push_loops.Given as goal

-- the text with the loops from here on is the text at the start with all of them
abbrev pub invariant-loop-cluster : goal.invariant-loop-cluster
invariant-loop-cluster l =
    string_bytes l.text ++ lines_text (loops_graph l.limits (legend_in l.legend) l.cluster (explanations_in (drop l.cluster l.loops)))
    ≡ string_bytes l.initial.text ++ lines_text (loops_graph l.limits (legend_in l.legend) 0 (explanations_in l.loops))
