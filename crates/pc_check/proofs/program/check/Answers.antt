use Rattle.pc_syntax.specs.Erasure.{program_of, list_of}
use Rattle.pc_check.specs.Faults.{faults}
use Rattle.pc_check.specs.Resolution.{resolved}
use Rattle.pc_check.specs.Checks.{resolved_of}
use Rattle.pc_check.specs.models.View.{names_of}
use Rattle.pc_check.proofs.FaultLaws.{exact_refusal}
use Rattle.pc_check.proofs.ProgramLaws.{program-resolves, statements-sound, statements-data}
use Rattle.pc_check.proofs.program.check.Goals as goal

-- it is what the check gives of this program, and what was checked holds of it
pub invariant_of-result : goal.invariant_of-result
invariant_of-result c =
    let program = program_of c.args.program.now in
    let before = names_of c.new-scopes.result in
    let behind = names_of c.check_list.new.scopes in
    let items = list_of c.in_ok-items.items in
    let start = c.new-scopes.ensures in
    let resolves = c.in_ok-items.ensures.resolved in
    let counted = c.scalars-scalars.ensures.value in
    let measured = c.into_arrays-arrays.ensures.lengths in
    let begun = c.into_arrays-arrays.ensures.data in
    let arrays = c.into_arrays-arrays.result.0 in
    let initial = c.into_arrays-arrays.result.1 in
    record {
      few_scalars = c.scalars-scalars.ensures.few;
      few_arrays = c.into_arrays-arrays.ensures.few;
      sized = c.into_arrays-arrays.ensures.sized;
      few_elements = c.into_arrays-arrays.ensures.few_elements;
      data_fits = statements-data program.items before behind items arrays initial start resolves measured begun;
      sound = statements-sound program.items before behind items c.scalars-scalars.result arrays start resolves counted measured;
      of_a_program = ∣ (program, program-resolves program before behind items c.scalars-scalars.result arrays initial start resolves counted measured begun) ∣₁;
    }

-- the resolved program
pub returns : goal.returns
returns c =
    program-resolves (program_of c.args.program.now) (names_of c.new-scopes.result) (names_of c.check_list.new.scopes) (list_of c.in_ok-items.items)
    c.scalars-scalars.result c.into_arrays-arrays.result.0 c.into_arrays-arrays.result.1 c.new-scopes.ensures c.in_ok-items.ensures.resolved
    c.scalars-scalars.ensures.value c.into_arrays-arrays.ensures.lengths c.into_arrays-arrays.ensures.data

-- the first fault
pub returns-in_err-items : goal.returns-in_err-items
returns-in_err-items c =
    let program = program_of c.args.program.now in
    let refused = rw c.new-scopes.ensures at c.in_err-items.ensures.refused in
    exact_refusal resolved_of _ c.in_err-items.field-0.0 (faults program) (resolved program) c.from_residual.ensures.1 refused
