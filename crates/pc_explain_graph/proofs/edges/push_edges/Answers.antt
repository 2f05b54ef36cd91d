use Rattle.std.proofs.Common.{ℕ, ◌+◌, ◌++◌, List, string_bytes, sym, ◌∙◌, ap, append_assoc}
use Rattle.pc_view.specs.Listing.{lines_text}
use Rattle.pc_explain.specs.EachState.{explained_in, explained_states}
use Rattle.pc_explain.specs.Explained.{schedule_in}
use Rattle.pc_explain.proofs.EachState.{shown_from, lines_at}
use Rattle.pc_explain_graph.specs.Graph.{state_edges}
use Rattle.pc_explain_graph.proofs.edges.push_edges.Goals as goal

-- what is shown of the state at hand comes before what is shown of those after it
pub loop-number-preserved : goal.loop-number-preserved
loop-number-preserved c =
    let at = c.loop-number.number in
    let states = explained_states (schedule_in c.args.schedule.now) in
    let it = explained_in c.state.result in
    let shown = state_edges c.args.region c.args.cluster in
    let old = string_bytes c.loop-number.text in
    let later = lines_text (shown_from shown states (at + 1)) in
    ap (λ (text : List ℕ). text ++ later) c.in_ok-push_state_edges.ensures
    ∙ append_assoc old (lines_text (shown at it)) later
    ∙ ap (λ (text : List ℕ). old ++ text) (sym (lines_at shown states at it c.state.ensures))
    ∙ c.loop-number.invariant
