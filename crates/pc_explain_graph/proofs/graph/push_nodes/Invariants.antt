use Rattle.std.proofs.Common.{◌≡◌, ◌++◌, string_bytes}
use Rattle.pc_view.specs.Listing.{lines_text}
use Rattle.pc_explain.specs.EachState.{explained_states}
use Rattle.pc_explain.specs.Explained.{schedule_in}
use Rattle.pc_explain.specs.Legends.{legend_in}
use Rattle.pc_explain.proofs.EachState.{shown_from}
use Rattle.pc_explain_graph.specs.Graph.{state_node}
use Rattle.pc_explain_graph.proofs.graph.push_nodes.Given as goal

-- the text with the nodes from here on is the text at the start with all of them
abbrev pub invariant-loop-number : goal.invariant-loop-number
invariant-loop-number l =
    let shown = state_node l.limits (legend_in l.legend) l.header l.cluster in
    let states = explained_states (schedule_in l.schedule) in
    string_bytes l.text ++ lines_text (shown_from shown states l.number) ≡ string_bytes l.initial.text ++ lines_text (shown_from shown states 0)
