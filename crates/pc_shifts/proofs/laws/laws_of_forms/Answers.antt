use Rattle.pc_shifts.proofs.Counts.{as_long}
use Rattle.pc_shifts.proofs.Combined.{sums_alike, combined_alike}
use Rattle.pc_shifts.proofs.laws.laws_of_forms.Goals as goal

pub returns-clause-long : goal.returns-clause-long
returns-clause-long c = as_long

pub returns-clause-sums : goal.returns-clause-sums
returns-clause-sums c = sums_alike

pub returns-clause-combined : goal.returns-clause-combined
returns-clause-combined c = combined_alike
