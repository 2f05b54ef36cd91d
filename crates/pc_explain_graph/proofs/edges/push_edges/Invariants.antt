use Rattle.std.proofs.Common.{◌≡◌, ◌++◌, string_bytes}
use Rattle.pc_view.specs.Listing.{lines_text}
use Rattle.pc_explain.specs.EachState.{explained_states}
use Rattle.pc_explain.specs.Explained.{schedule_in}
use Rattle.pc_explain.proofs.EachState.{shown_from}
use Rattle.pc_explain_graph.specs.Graph.{state_edges}
use Rattle.pc_explain_graph.proofs.edges.push_edges.Given as goal

-- the text with the edges from here on is the text at the start with all of them
abbrev pub invariant-loop-number : goal.invariant-loop-number
invariant-loop-number l =
    let shown = state_edges l.region l.cluster in
    let states = explained_states (schedule_in l.schedule) in
    string_bytes l.text ++ lines_text (shown_from shown states l.number) ≡ string_bytes l.initial.text ++ lines_text (shown_from shown states 0)
