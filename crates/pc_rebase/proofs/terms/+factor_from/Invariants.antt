use Rattle.std.proofs.Common.{◌-◌, length}
use Rattle.pc_rebase.proofs.terms.+factor_from.Given as goal

abbrev pub decreases-factor_from : goal.decreases-factor_from
decreases-factor_from l = length l.form.now.terms - l.place
