use Rattle.std.proofs.Common.{rules, ◌≡◌, Some, length}
use Rattle.std.specs.Prelude.{slice_get}
use Rattle.pc_renumber.proofs.Marks.{term_below}
use Rattle.pc_renumber.proofs.variables.+mark_terms.Goals as goal

pub mark-requires : goal.mark-requires
mark-requires t c =
    let is : slice_get c.args.form.now.terms c.args.at ≡ Some c.in-Some.term = search rules in
    term_below c.args.form.now.terms c.args.at (length c.args.marks.now) c.in-Some.term is c.requires
