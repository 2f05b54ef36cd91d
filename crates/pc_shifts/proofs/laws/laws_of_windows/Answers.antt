use Rattle.pc_shifts.proofs.Windows.{unwinding_shifts, settling_shifts, known_settles}
use Rattle.pc_shifts.proofs.laws.laws_of_windows.Goals as goal

pub returns-clause-unwound : goal.returns-clause-unwound
returns-clause-unwound c = unwinding_shifts

pub returns-clause-settled : goal.returns-clause-settled
returns-clause-settled c = settling_shifts

pub returns-clause-known : goal.returns-clause-known
returns-clause-known c = known_settles
