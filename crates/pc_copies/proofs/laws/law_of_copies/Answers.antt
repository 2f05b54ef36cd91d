use Rattle.pc_copies.proofs.Steps.{copies_commit}
use Rattle.pc_copies.proofs.laws.law_of_copies.Goals as goal

pub returns : goal.returns
returns c = copies_commit
