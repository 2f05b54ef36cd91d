use Rattle.std.proofs.Common.{◌≡◌, ◌+◌, ◌*◌, ◌≤◌, IfOk, length, sym, ◌∙◌, ap, subst}
use Rattle.std.specs.Prelude.{slice_get}
use Rattle.pc_automaton.specs.AutomatonRun.{state_parameters}
use Rattle.pc_machine.specs.MachineCode.{rows_of}
use Rattle.pc_object.specs.ObjectText.{leaf_text}
use Rattle.pc_emit.specs.models.Output.{bytes_of, of_state}
use Rattle.pc_emit.specs.models.Layout.{states_at, names_at}
use Rattle.pc_emit.proofs.Packs.{many_arguments, state_there}
use Rattle.pc_emit.proofs.packed.to_state.Goals as goal

pub returns-clause-short : goal.returns-clause-short
returns-clause-short c =
    let site = c.args.site.now in
    let parameters = state_parameters (slice_get (states_at site) c.args.state) in
    let taken : parameters ≡ c.as_slice-parameters.result.now = ap state_parameters (state_there site c.args.state c.state.result.now c.state.ensures) ∙ sym c.as_slice-parameters.ensures in
    let same : length c.args.arguments.now ≡ length c.as_slice-parameters.result.now = c.requires.as_many ∙ ap length taken in
    let many = ap length c.as_slice.ensures.value ∙ ap length c.in_ok-moves.ensures
    ∙ many_arguments (of_state c.args.names.now) (names_at site c.args.state) c.as_slice-parameters.result.now c.args.arguments.now same in
    let after = bytes_of (rows_of c.move_along.new.output.copies.items) in
    let before = bytes_of (rows_of c.args.output.now.copies.items) in
    subst (λ n. IfOk c.move_along.result (λ made. after + length (leaf_text made) ≤ before + (5 + 24 * n))) many c.move_along.ensures.short
