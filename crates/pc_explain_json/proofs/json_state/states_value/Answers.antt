use Rattle.std.proofs.Common.{List, ◌+◌, ◌++◌, map, sym, ◌∙◌, ap, append_assoc}
use Rattle.serde_json.specs.Data.{Data}
use Rattle.serde_json.specs.View.{view}
use Rattle.pc_explain.specs.EachState.{explained_in, explained_states}
use Rattle.pc_explain.specs.Explained.{schedule_in}
use Rattle.pc_explain.specs.Legends.{legend_in}
use Rattle.pc_explain.proofs.EachState.{shown_from, shown_at}
use Rattle.pc_explain_json.specs.Json.{state_shown}
use Rattle.pc_explain_json.proofs.json_state.states_value.Goals as goal

pub loop-number-preserved : goal.loop-number-preserved
loop-number-preserved c =
    let number = c.loop-number.number in
    let shown = state_shown (legend_in c.args.legend.now) in
    let states = explained_states (schedule_in c.args.schedule.now) in
    let old = map view c.loop-number.list.items in
    let here = shown number (explained_in c.state-state.result) in
    let later = shown_from shown states (number + 1) in
    ap (λ (values : List Data). values ++ later) c.in_ok-push_state.ensures
    ∙ append_assoc old here later
    ∙ ap (λ (values : List Data). old ++ values) (sym (shown_at shown states number (explained_in c.state-state.result) c.state-state.ensures))
    ∙ c.loop-number.invariant
