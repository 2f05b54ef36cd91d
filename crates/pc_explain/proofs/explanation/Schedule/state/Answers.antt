use Rattle.std.proofs.Common.{refl, length, arith}
use Rattle.std.proofs.lemmas.Option.{slice_get_read}
use Rattle.pc_word.proofs.Places.{map_at, map_length}
use Rattle.pc_automaton.specs.Automaton.{state_in}
use Rattle.pc_told.specs.Tellings.{telling_in}
use Rattle.pc_explain.specs.Explained.{schedule_in}
use Rattle.pc_explain.proofs.EachState.{explained_at, explained_length}
use Rattle.pc_explain.proofs.explanation.Schedule.state.Goals as goal

pub state-requires : goal.state-requires
state-requires c =
    let all = explained_length (schedule_in c.args.self.now) c.requires.each in
    let states = map_length state_in c.args.self.now.told.automaton in
    let there = c.requires.there in
    omega (arith, all, states, there)

pub bounds-as_slice-at : goal.bounds-as_slice-at
bounds-as_slice-at c =
    let all = explained_length (schedule_in c.args.self.now) c.requires.each in
    let rows = map_length telling_in c.args.self.now.told.rows in
    let as_many = c.requires.each.as_many in
    let there = c.requires.there in
    rw c.as_slice.ensures (omega (arith, all, rows, as_many, there))

pub bounds-as_slice-at-2 : goal.bounds-as_slice-at-2
bounds-as_slice-at-2 c =
    let all = explained_length (schedule_in c.args.self.now) c.requires.each in
    let as_many = c.requires.each.as_many_wait in
    let there = c.requires.there in
    rw c.as_slice-2.ensures (omega (arith, all, as_many, there))

pub bounds-as_slice-at-3 : goal.bounds-as_slice-at-3
bounds-as_slice-at-3 c =
    let all = explained_length (schedule_in c.args.self.now) c.requires.each in
    let as_many = c.requires.each.as_many_hold in
    let there = c.requires.there in
    rw c.as_slice-4.ensures (omega (arith, all, as_many, there))

-- the state by its parts
pub returns : goal.returns
returns c =
    let at = c.args.number in
    let it = c.args.self.now in
    let row = c.index-as_slice-at.result in
    let waits = c.index-as_slice-at-2.result in
    let held = c.index-as_slice-at-3.result in
    let all = explained_length (schedule_in it) c.requires.each in
    let rows = map_length telling_in it.told.rows in
    let one = c.requires.each.as_many in
    let two = c.requires.each.as_many_wait in
    let three = c.requires.each.as_many_hold in
    let there = c.requires.there in
    rw (c.as_slice-3.ensures, c.as_slice-5.ensures)
    (explained_at (schedule_in it) at (state_in c.state.result.now) (telling_in row) waits held
    (map_at state_in it.told.automaton at c.state.result.now c.state.ensures)
    (map_at telling_in it.told.rows at row
    (slice_get_read it.told.rows (length it.told.rows) at row refl (omega (arith, all, rows, one, there)) (rw c.as_slice.ensures at c.index-as_slice-at.is)))
    (slice_get_read it.told.waiting (length it.told.waiting) at waits refl (omega (arith, all, two, there)) (rw c.as_slice-2.ensures at c.index-as_slice-at-2.is))
    (slice_get_read it.variables (length it.variables) at held refl (omega (arith, all, three, there)) (rw c.as_slice-4.ensures at c.index-as_slice-at-3.is)))
