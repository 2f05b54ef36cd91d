use Rattle.pc_certified.proofs.Jumps.{jumps_are_moves, filling_changes}
use Rattle.pc_certified.proofs.laws.laws_of_moves.Goals as goal

pub returns-clause-jumps : goal.returns-clause-jumps
returns-clause-jumps c = jumps_are_moves

pub returns-clause-filling : goal.returns-clause-filling
returns-clause-filling c = filling_changes
