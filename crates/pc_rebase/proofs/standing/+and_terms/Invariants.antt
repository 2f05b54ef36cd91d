use Rattle.std.proofs.Common.{◌-◌, length}
use Rattle.pc_rebase.proofs.standing.+and_terms.Given as goal

abbrev pub decreases-and_terms : goal.decreases-and_terms
decreases-and_terms l = length l.form.now.terms - l.place
