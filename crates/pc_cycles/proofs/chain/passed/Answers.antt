use Rattle.std.proofs.Common.{◌∙◌, List, ap, sym}
use Rattle.std.specs.Prelude.{slice_get}
use Rattle.std.specs.Option.{option_copied}
use Rattle.pc_word.specs.declared.item.Operand.{Operand}
use Rattle.pc_automaton.specs.Automaton.{states_in}
use Rattle.pc_cycles.specs.Chains.{passed_by, argument_of}
use Rattle.pc_cycles.proofs.OnWays.{few_of_state, passed_of_state}
use Rattle.pc_cycles.proofs.chain.passed.Goals as goal

pub leaf_at-requires : goal.leaf_at-requires
leaf_at-requires c = few_of_state c.args.told.now.automaton c.args.transition.state c.state-state.result.now c.requires.few c.state-state.ensures

pub returns-in-Some-To : goal.returns-in-Some-To
returns-in-Some-To c =
    let found = ap option_copied (sym c.in-Some-To.is) ∙ c.leaf_at.ensures in
    let passed = ap (λ leaf. passed_by (states_in c.args.told.now.automaton) leaf c.args.parameter) found
    ∙ passed_of_state c.args.told.now.automaton c.args.transition.state c.args.transition.leaf c.args.parameter c.state-state.result.now c.state-state.ensures in
    c.argument_of.ensures
    ∙ ap (λ (arguments : List Operand). argument_of (slice_get (states_in c.args.told.now.automaton) c.in-Some-To.state) arguments c.args.parameter) c.as_slice.ensures
    ∙ (rw c.in-Some-To.field-0-is at passed)

pub returns-in-Some-Out : goal.returns-in-Some-Out
returns-in-Some-Out c =
    let found = ap option_copied (sym c.in-Some-Out.is) ∙ c.leaf_at.ensures in
    let passed = ap (λ leaf. passed_by (states_in c.args.told.now.automaton) leaf c.args.parameter) found
    ∙ passed_of_state c.args.told.now.automaton c.args.transition.state c.args.transition.leaf c.args.parameter c.state-state.result.now c.state-state.ensures in
    rw c.in-Some-Out.field-0-is at passed

pub returns-in-Some-Stop : goal.returns-in-Some-Stop
returns-in-Some-Stop c =
    let found = ap option_copied (sym c.in-Some-Stop.is) ∙ c.leaf_at.ensures in
    let passed = ap (λ leaf. passed_by (states_in c.args.told.now.automaton) leaf c.args.parameter) found
    ∙ passed_of_state c.args.told.now.automaton c.args.transition.state c.args.transition.leaf c.args.parameter c.state-state.result.now c.state-state.ensures in
    rw c.in-Some-Stop.field-0-is at passed

pub returns-in-Some-Trap : goal.returns-in-Some-Trap
returns-in-Some-Trap c =
    let found = ap option_copied (sym c.in-Some-Trap.is) ∙ c.leaf_at.ensures in
    let passed = ap (λ leaf. passed_by (states_in c.args.told.now.automaton) leaf c.args.parameter) found
    ∙ passed_of_state c.args.told.now.automaton c.args.transition.state c.args.transition.leaf c.args.parameter c.state-state.result.now c.state-state.ensures in
    rw c.in-Some-Trap.field-0-is at passed

pub returns-in-None : goal.returns-in-None
returns-in-None c =
    let found = ap option_copied (sym c.in-None.is) ∙ c.leaf_at.ensures in
    let passed = ap (λ leaf. passed_by (states_in c.args.told.now.automaton) leaf c.args.parameter) found
    ∙ passed_of_state c.args.told.now.automaton c.args.transition.state c.args.transition.leaf c.args.parameter c.state-state.result.now c.state-state.ensures in
    passed
