use Rattle.std.proofs.Common.{rules, ◌≡◌, None, drop, refl}
use Rattle.pc_window.specs.Rebasing.{with_variable, new_base, free_terms}
use Rattle.pc_window.specs.StoredWindow.{forms_in, supply_in}
use Rattle.pc_rebase.specs.declared.terms.FewTerms.TheVariants.{One, Several}
use Rattle.pc_rebase.specs.declared.turns.Turning.{Turning}
use Rattle.pc_rebase.specs.models.Turning.{few_of}
use Rattle.pc_rebase.proofs.ParameterTurns.{second_given, second_several}
use Rattle.pc_rebase.proofs.turns.second_turn.Goals as goal

pub returns-in_ok-set_variable-in-None : goal.returns-in_ok-set_variable-in-None
returns-in_ok-set_variable-in-None c =
    let turning = c.args.turning.now in
    let form = c.form_of-form.result in
    let later : Turning = record { names = c.set_variable.new.names; bases = turning.bases } in
    let is : form ≡ forms_in turning.names.forms c.args.parameter = search rules in
    let made : One c.in-One.term ≡ few_of (free_terms turning.bases (drop 0 form.terms)) = search rules in
    let none : None ≡ new_base turning.bases c.in-One.term = search rules in
    let names : supply_in later.names ≡ with_variable (supply_in turning.names) c.args.parameter = search rules in
    second_given c.args.all.now c.args.parameter turning form is later names refl c.in-One.term made none

pub returns-in_ok-set_variable-in-Several : goal.returns-in_ok-set_variable-in-Several
returns-in_ok-set_variable-in-Several c =
    let turning = c.args.turning.now in
    let form = c.form_of-form.result in
    let later : Turning = record { names = c.set_variable-in-Several.new.names; bases = turning.bases } in
    let is : form ≡ forms_in turning.names.forms c.args.parameter = search rules in
    let made : Several ≡ few_of (free_terms turning.bases (drop 0 form.terms)) = search rules in
    let names : supply_in later.names ≡ with_variable (supply_in turning.names) c.args.parameter = search rules in
    second_several c.args.all.now c.args.parameter turning form is later names refl made
