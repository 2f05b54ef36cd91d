use Rattle.std.proofs.Common.{◌≡◌, ◌++◌, map}
use Rattle.serde_json.specs.View.{view}
use Rattle.pc_explain.specs.EachState.{explained_states}
use Rattle.pc_explain.specs.Explained.{schedule_in}
use Rattle.pc_explain.specs.Legends.{legend_in}
use Rattle.pc_explain.proofs.EachState.{shown_from}
use Rattle.pc_explain_json.specs.Json.{state_shown}
use Rattle.pc_explain_json.proofs.json_state.states_value.Given as goal

-- the list with the states from here on has all of them
abbrev pub invariant-loop-number : goal.invariant-loop-number
invariant-loop-number l =
    let shown = state_shown (legend_in l.legend) in
    let states = explained_states (schedule_in l.schedule) in
    map view l.list.items ++ shown_from shown states l.number ≡ shown_from shown states 0
