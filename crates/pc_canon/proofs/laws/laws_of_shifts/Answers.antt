use Rattle.pc_canon.proofs.ShiftRuns.{shifted_runs}
use Rattle.pc_canon.proofs.ShiftForms.{shifted_forms}
use Rattle.pc_canon.proofs.laws.laws_of_shifts.Goals as goal

pub returns-clause-runs : goal.returns-clause-runs
returns-clause-runs c = shifted_runs

pub returns-clause-forms : goal.returns-clause-forms
returns-clause-forms c = shifted_forms
