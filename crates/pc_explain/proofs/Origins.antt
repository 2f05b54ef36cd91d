-- Where the item of a link comes from, by the state and the row that stand there.
use Rattle.std.proofs.Common.{◌≡◌, ℕ, List, Some}
use Rattle.std.specs.Prelude.{slice_get}
use Rattle.pc_word.specs.StoredRow.{row_in}
use Rattle.pc_word.proofs.Places.{map_at}
use Rattle.pc_automaton.specs.declared.automaton.AutomatonState.{AutomatonState as StoredState}
use Rattle.pc_automaton.specs.Automaton.{state_in, states_in}
use Rattle.pc_told.specs.declared.told_row.ToldRow.{ToldRow}
use Rattle.pc_told.specs.Tellings.{telling_in, tellings_in}
use Rattle.pc_cycles.specs.declared.transition.Transition.{Transition}
use Rattle.pc_cycles.specs.Transitions.{item_origin_to}
use Rattle.pc_explain.specs.Links.{origin_from, origin_by}

-- the origin of an item on the way of a transition is told by the row of its state
pub origin_there : (states : List StoredState) (rows : List ToldRow) (transition : Transition) (number : ℕ) (state : StoredState) (row : ToldRow)
    → slice_get states transition.state ≡ Some state → slice_get rows transition.state ≡ Some row
    → origin_by (states_in states) (tellings_in rows) (Some transition) (Some number)
    ≡ item_origin_to (row_in (λ leaf. leaf) state.row) (telling_in row) transition.leaf number
origin_there states rows transition number state row there here =
    let one = map_at state_in states transition.state state there in
    let other = map_at telling_in rows transition.state row here in
    (λ i. origin_from (one i) (other i) transition.leaf number)
