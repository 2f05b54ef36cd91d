use Rattle.std.proofs.Common.{◌≡◌, ◌+◌, ℕ, sym, ap, ◌∙◌, List, [], ◌∷◌, ◌++◌, length, drop}
use Rattle.std.specs.Prelude.{Option, Some, slice_get}
use Rattle.std.specs.Option.{option_map}
use Rattle.std.proofs.lemmas.List.{length_push}
use Rattle.std.proofs.lemmas.Option.{slice_get-map}
use Rattle.pc_automaton.specs.Automaton.{state_in, states_in}
use Rattle.pc_told.specs.Tellings.{telling_in, tellings_in}
use Rattle.pc_variables.specs.declared.holding.Holding.{Holding}
use Rattle.pc_variables.specs.Holdings.{holdings_of, and_states}
use Rattle.pc_variables.proofs.Steps.{state_one}
use Rattle.pc_variables.proofs.states.variables.Goals as goal

-- one state more
pub loop-number-preserved : goal.loop-number-preserved
loop-number-preserved c =
    let l = c.loop-number in
    let flow = c.args.flow.now in
    let states = states_in c.args.automaton.now in
    let state = state_in c.state-state.result.now in
    let row = c.index-rows-number.result in
    let there : slice_get states l.number ≡ Some state = slice_get-map state_in c.args.automaton.now l.number ∙ ap (option_map state_in) c.state-state.ensures in
    let last = holdings_of flow states l.variables state (telling_in row) in
    let made = c.in_ok-holdings.ensures ∙ ap (λ (earlier : List (List Holding)). holdings_of flow states earlier state (telling_in row)) c.as_slice.ensures in
    let pushed : c.push.new.self ≡ l.variables ++ last ∷ [] = c.in_ok-push.ensures.ok ∙ ap (λ (holdings : List Holding). l.variables ++ holdings ∷ []) made in (
      ap length pushed ∙ length_push l.variables last ∙ ap (λ (n : ℕ). n + 1) l.invariant.0,
      ap (and_states flow states (tellings_in (drop (l.number + 1) c.args.rows.now))) pushed
          ∙ sym (state_one flow states c.args.rows.now l.number row l.variables state c.loop-number-test.true c.index-rows-number.is l.invariant.0 there)
          ∙ l.invariant.1,
    )
