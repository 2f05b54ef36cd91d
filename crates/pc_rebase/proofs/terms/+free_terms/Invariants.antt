use Rattle.std.proofs.Common.{◌-◌, length}
use Rattle.pc_rebase.proofs.terms.+free_terms.Given as goal

abbrev pub decreases-free_terms : goal.decreases-free_terms
decreases-free_terms l = length l.form.now.terms - l.place
