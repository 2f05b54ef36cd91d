use Rattle.pc_check.proofs.ResolvedSizes.{statement_size-resolved, size-resolved}
use Rattle.pc_check.proofs.laws.laws_of_resolved_programs.Goals as goal

pub returns-clause-statements : goal.returns-clause-statements
returns-clause-statements c = statement_size-resolved

pub returns-clause-programs : goal.returns-clause-programs
returns-clause-programs c = size-resolved
