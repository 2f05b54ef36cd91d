use Rattle.std.proofs.Common.{◌≡◌, ◌+◌, sym, ap, ◌∙◌, List, [], drop, get_or}
use Rattle.std.specs.Prelude.{Option, Some, None, slice_get}
use Rattle.std.specs.Borrow.{Bor}
use Rattle.std.specs.Option.{option_map}
use Rattle.std.proofs.lemmas.Option.{slice_get-map}
use Rattle.pc_word.specs.declared.item.Operand.{Operand}
use Rattle.pc_automaton.specs.Automaton.{AutomatonState, state_in, states_in}
use Rattle.pc_variables.specs.declared.holding.Holding.{Holding}
use Rattle.pc_variables.specs.Holdings.{with_passed, arguments_to, entered_by, entered}
use Rattle.pc_variables.proofs.Steps.{entered_one}
use Rattle.pc_variables.proofs.entering.push_entering.Goals as goal

-- the first state that leads there
pub returns-in-Some : goal.returns-in-Some
returns-in-Some c =
    let l = c.loop-from in
    let states = states_in c.args.automaton.now in
    let state = state_in c.state-state.result.now in
    let parameters = c.args.parameters.now in
    let there : slice_get states l.from ≡ Some state = slice_get-map state_in c.args.automaton.now l.from ∙ ap (option_map state_in) c.state-state.ensures in
    let found : arguments_to c.args.number state.row ≡ Some c.in-Some.arguments.now
    = sym c.arguments_to.ensures ∙ ap (option_map (λ (arguments : Bor (List Operand)). arguments.now)) c.in-Some.is in
    let passing = c.index-earlier-from.result in
    let others = entered (drop (l.from + 1) c.args.earlier.now) (drop (l.from + 1) states) c.args.number parameters l.holdings in
    rw (sym l.invariant
    ∙ entered_one c.args.earlier.now states l.from c.args.number parameters l.holdings passing state c.loop-from-test.true c.index-earlier-from.is there
    ∙ ap (λ (o : Option (List Operand)). entered_by passing o parameters l.holdings others) found
    ∙ ap (λ (p : List Holding). with_passed p parameters c.in-Some.arguments.now l.holdings) (sym c.as_slice.ensures))
    c.push_passed.ensures

-- a state that does not lead there
pub loop-from-preserved : goal.loop-from-preserved
loop-from-preserved c =
    let l = c.loop-from in
    let states = states_in c.args.automaton.now in
    let state = state_in c.state-state.result.now in
    let parameters = c.args.parameters.now in
    let there : slice_get states l.from ≡ Some state = slice_get-map state_in c.args.automaton.now l.from ∙ ap (option_map state_in) c.state-state.ensures in
    let quiet : arguments_to c.args.number state.row ≡ None
    = sym c.arguments_to.ensures ∙ ap (option_map (λ (arguments : Bor (List Operand)). arguments.now)) c.in_default.is in
    let passing = c.index-earlier-from.result in
    let others = entered (drop (l.from + 1) c.args.earlier.now) (drop (l.from + 1) states) c.args.number parameters l.holdings in
    sym (entered_one c.args.earlier.now states l.from c.args.number parameters l.holdings passing state c.loop-from-test.true c.index-earlier-from.is there
    ∙ ap (λ (o : Option (List Operand)). entered_by passing o parameters l.holdings others) quiet)
    ∙ l.invariant
