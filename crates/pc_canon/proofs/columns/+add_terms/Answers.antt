use Rattle.std.proofs.Common.{rules, ◌≡◌, Some, length}
use Rattle.std.specs.Prelude.{slice_get}
use Rattle.pc_canon.proofs.Gathering.{term_below}
use Rattle.pc_canon.proofs.columns.+add_terms.Goals as goal

pub add_term-requires : goal.add_term-requires
add_term-requires t c =
    let is : slice_get c.args.form.now.terms c.args.at ≡ Some c.in-Some.term = search rules in
    term_below c.args.form.now.terms c.args.at (length c.args.columns.now) c.in-Some.term is c.requires.below
