use Rattle.std.proofs.Common.{◌-◌, length}
use Rattle.pc_canon.proofs.columns.+add_terms.Given as goal

abbrev pub decreases-add_terms : goal.decreases-add_terms
decreases-add_terms l = length l.form.now.terms - l.at
