use Rattle.std.proofs.Common.{rules, ◌≡◌, ◌∙◌}
use Rattle.pc_canon.specs.models.Gathered.{and_terms}
use Rattle.pc_canon.proofs.Factors.{form_gathered}
use Rattle.pc_canon.proofs.columns.add_form.Goals as goal

pub returns-clause-columns : goal.returns-clause-columns
returns-clause-columns c =
    let is : c.add_terms.new.columns ≡ and_terms c.args.place c.args.form.now.terms c.args.columns.now = search rules in
    is ∙ form_gathered c.args.place c.args.form.now c.args.columns.now c.offset-offset.ensures.kept
