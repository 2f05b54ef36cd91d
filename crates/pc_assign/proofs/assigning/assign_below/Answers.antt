use Rattle.std.proofs.Common.{arith, rules, ◌≡◌, ◌+◌, ◌++◌, ◌∷◌, suc, sym, ◌∙◌, ap, subst, length, List, Option, ℕ, [], Err, unwrap_or, Result}
use Rattle.std.specs.Prelude.{slice_get, MatchResult}
use Rattle.pc_automaton.specs.Automaton.{state_in, states_in}
use Rattle.pc_assign.specs.Pressure.{LowBefore}
use Rattle.pc_assign.specs.Assigned.{AreByRule}
use Rattle.pc_assign.specs.Stored.{beside}
use Rattle.pc_assign.specs.declared.assigned.Assigned.{Assigned}
use Rattle.pc_assign.specs.declared.assigned.StateRegisters.{StateRegisters}
use Rattle.pc_assign.specs.declared.error.AssignError.{AssignError}
use Rattle.pc_assign.specs.models.Passing.{noted, Notes}
use Rattle.pc_assign.specs.models.Assigning.{AreGiven, RefusesStates, registers_of}
use Rattle.pc_assign.proofs.AllGiven.{stored_at, stands_once, one_more_given, all_stored, refused, written_back}
use Rattle.pc_assign.proofs.assigning.assign_below.Goals as goal
use Rattle.pc_word.specs.StoredRow.{row_in}

pub assign_state-requires-clause-once : goal.assign_state-requires-clause-once
assign_state-requires-clause-once c =
    stands_once (states_in c.args.automaton.now) c.loop-number.number (state_in c.state-state.result.now) c.count-count.ensures.kept
    (stored_at c.args.automaton.now c.loop-number.number c.state-state.result.now c.state-state.ensures)

pub assign_state-requires-clause-variables : goal.assign_state-requires-clause-variables
assign_state-requires-clause-variables c first =
    c.requires.variables.below (state_in c.state-state.result.now)
    (ap (slice_get (states_in c.args.automaton.now)) (sym first)
    ∙ stored_at c.args.automaton.now c.loop-number.number c.state-state.result.now c.state-state.ensures)

pub returns-in_err-given-clause-given : goal.returns-in_err-given-clause-given
returns-in_err-given-clause-given c =
    let states = states_in c.args.automaton.now in
    let is_err : c.from_residual-in_err-given.result ≡ Err c.in_err-given.field-0.0 = search rules in
    subst (λ (result : Result Assigned AssignError).
    MatchResult result (λ assigned. LowBefore c.args.scratch states (length c.args.automaton.now) × AreByRule c.args.scratch states (registers_of assigned.states))
    (λ why. RefusesStates c.args.scratch states why)) (sym is_err)
    (refused c.args.scratch states c.loop-number.number
    (state_in c.state-state.result.now) c.loop-number.states c.loop-number.table.items c.in_err-given.field-0.0 c.loop-number.invariant
    (stored_at c.args.automaton.now c.loop-number.number c.state-state.result.now c.state-state.ensures) c.in_err-given.ensures)

pub loop-number-preserved : goal.loop-number-preserved
loop-number-preserved c =
    let states = states_in c.args.automaton.now in
    let state = c.state-state.result.now in
    let given : StateRegisters = c.in_ok-given.given in
    let later : List (Option (List (Option ℕ))) = c.note.new.table in
    let table : List (Option (List (Option ℕ))) = c.loop-number.table.items in
    let notes : Notes (beside given.names.keys given.registers) (row_in (λ leaf. leaf) state.row) table later =
    subst (λ (old : List (Option (List (Option ℕ)))). Notes (beside given.names.keys given.registers) (row_in (λ leaf. leaf) state.row) old later)
    c.as_mut_slice.ensures.value c.in_ok-note.ensures in
    let long : length table ≡ c.loop-number.table.len = ap length (sym c.as_mut_slice.ensures.value) ∙ c.as_mut_slice.ensures.len in
    let passed = c.passed_to-passed.ensures ∙ ap
    (λ (slots : List (Option (List (Option ℕ)))). unwrap_or (noted slots c.loop-number.number) []) c.as_slice.ensures.value in
    let next : suc c.loop-number.number ≡ c.loop-number.number + 1 = omega arith in
    let more = one_more_given c.args.scratch states c.loop-number.number
    (state_in state) c.loop-number.states given table later c.passed_to-passed.result.now c.loop-number.invariant
    (stored_at c.args.automaton.now c.loop-number.number state c.state-state.ensures) passed c.in_ok-given.ensures notes in
    subst (λ (slots : List (Option (List (Option ℕ)))). AreGiven c.args.scratch states (c.loop-number.number + 1) c.push.new.self slots)
    (sym (written_back later _ c.loop-number.table.len (sym (notes.as_many ∙ long))))
    (subst (λ (list : List StateRegisters). AreGiven c.args.scratch states (c.loop-number.number + 1) list later) (sym c.in_ok-push.ensures.ok)
    (subst (λ (n : ℕ). AreGiven c.args.scratch states n (c.loop-number.states ++ given ∷ []) later) next more))

pub returns-clause-given : goal.returns-clause-given
returns-clause-given c =
    all_stored c.args.scratch c.args.automaton.now c.loop-number.number c.loop-number.states c.loop-number.table.items
    (omega (arith, c.count-count.ensures.number)) c.loop-number.invariant
