use Rattle.std.proofs.Common.{◌-◌, length}
use Rattle.pc_renumber.proofs.variables.+mark_terms.Given as goal

abbrev pub decreases-mark_terms : goal.decreases-mark_terms
decreases-mark_terms l = length l.form.now.terms - l.at
