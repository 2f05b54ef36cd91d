use Rattle.std.proofs.Common.{arith}
use Rattle.std.proofs.lemmas.Grind.{common_steps}
use Rattle.pc_renumber.specs.models.Numbering.{Rise}
use Rattle.pc_renumber.proofs.NewForms.{new_form}
use Rattle.pc_renumber.proofs.forms.renumbered_forms.Goals as goal

pub in_variables-requires-clause-below : goal.in_variables-requires-clause-below
in_variables-requires-clause-below c =
    let rise : Rise c.args.numbers.now c.index.result.now.terms = grind (arith, common_steps) in
    rise.below

pub in_variables-requires-clause-form : goal.in_variables-requires-clause-form
in_variables-requires-clause-form c kept =
    let rise : Rise c.args.numbers.now c.index.result.now.terms = grind (arith, common_steps) in
    new_form c.args.numbers.now c.index.result.now kept rise
