use Rattle.std.proofs.Common.{ℕ, ◌+◌, ◌++◌, List, string_bytes, sym, ◌∙◌, ap, append_assoc}
use Rattle.pc_view.specs.Listing.{lines_text}
use Rattle.pc_explain.specs.EachState.{explained_in, explained_states}
use Rattle.pc_explain.specs.Explained.{schedule_in}
use Rattle.pc_explain.specs.Legends.{legend_in}
use Rattle.pc_explain.proofs.EachState.{explained_fits, shown_from, lines_at}
use Rattle.pc_explain.specs.Naming.{Naming}
use Rattle.pc_explain_graph.specs.Graph.{named_node, state_node}
use Rattle.pc_explain_graph.proofs.graph.push_nodes.Goals as goal

-- the row of each state is within limits
pub push_node-requires : goal.push_node-requires
push_node-requires c =
    explained_fits c.args.limits (schedule_in c.args.schedule.now) c.requires c.loop-number.number (explained_in c.state-it.result) c.state-it.ensures

-- the node of the state at hand comes before the nodes of those after it
pub loop-number-preserved : goal.loop-number-preserved
loop-number-preserved c =
    let at = c.loop-number.number in
    let states = explained_states (schedule_in c.args.schedule.now) in
    let it = explained_in c.state-it.result in
    let shown = state_node c.args.limits (legend_in c.args.legend.now) c.args.header c.args.cluster in
    let node = λ (naming : Naming). lines_text (named_node c.args.limits c.args.header c.args.cluster at naming it) in
    let old = string_bytes c.loop-number.text in
    let later = lines_text (shown_from shown states (at + 1)) in
    ap (λ (text : List ℕ). text ++ later) (c.in_ok-push_node.ensures ∙ ap (λ (naming : Naming). old ++ node naming) c.naming-naming.ensures)
    ∙ append_assoc old (lines_text (shown at it)) later
    ∙ ap (λ (text : List ℕ). old ++ text) (sym (lines_at shown states at it c.state-it.ensures))
    ∙ c.loop-number.invariant
