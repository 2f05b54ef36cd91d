use Rattle.std.proofs.Common.{◌<◌, ◌^◌, length, Some, sym, ap, ◌∙◌}
use Rattle.std.specs.Prelude.{option_copied}
use Rattle.pc_word.specs.Row.{leaves_of}
use Rattle.pc_word.proofs.Lists.{all_at}
use Rattle.pc_word.proofs.Places.{map_at}
use Rattle.pc_automaton.specs.Automaton.{AutomatonState, state_in, states_in}
use Rattle.pc_told.specs.Tellings.{tellings_in}
use Rattle.pc_explain.specs.Links.{origin_by}
use Rattle.pc_explain.proofs.Origins.{origin_there}
use Rattle.pc_explain.proofs.links.origin_by.Goals as goal

-- the row of each state has few leaves
pub item_origin-requires : goal.item_origin-requires
item_origin-requires c =
    let states = c.args.told.now.automaton in
    let state = c.state-state.result.now in
    all_at (λ (it : AutomatonState). length (leaves_of it.row) < 2 ^ 32) (states_in states) c.args.transition.state (state_in state) c.requires.few_leaves
    (map_at state_in states c.args.transition.state state c.state-state.ensures)

pub returns : goal.returns
returns c =
    let states = c.args.told.now.automaton in
    let rows = c.args.told.now.rows in
    let row = sym c.get.ensures.value ∙ ap option_copied c.in_ok-row.was in
    let there = origin_there states rows c.args.transition c.in_ok-number.number c.state-state.result.now c.in_ok-row.row.now c.state-state.ensures row in
    c.item_origin.ensures ∙ sym there ∙ ap (origin_by (states_in states) (tellings_in rows) (Some c.args.transition)) (sym c.in_ok-number.was)
