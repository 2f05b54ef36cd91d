use Rattle.std.proofs.Common.{rules, ◌≡◌, refl, map}
use Rattle.std.specs.Prelude.{slice_index}
use Rattle.pc_linear.specs.Form.{in_variables}
use Rattle.pc_renumber.proofs.NewForms.{all_rise, table_is}
use Rattle.pc_renumber.proofs.forms.table_from.Goals as goal

pub renumbered_forms-forms-requires : goal.renumbered_forms-forms-requires
renumbered_forms-forms-requires c = all_rise c.args.numbers.now c.args.forms.items c.args.variables c.requires.new c.requires.below

pub returns : goal.returns
returns c =
    let numbers = c.args.numbers.now in
    let forms = c.args.forms.items in
    let made : c.from_vec.result ≡ map (in_variables (slice_index numbers)) forms = search rules in
    table_is numbers forms c.args.variables c.requires.new _ c.requires.below made refl
