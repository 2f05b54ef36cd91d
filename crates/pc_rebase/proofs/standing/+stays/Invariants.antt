use Rattle.std.proofs.Common.{◌-◌, length}
use Rattle.pc_rebase.proofs.standing.+stays.Given as goal

abbrev pub decreases-stays : goal.decreases-stays
decreases-stays l = length l.form.now.terms - l.place
