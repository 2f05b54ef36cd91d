use Rattle.pc_unwind.proofs.Opened.{opened_unwinds}
use Rattle.pc_unwind.proofs.laws.laws_of_unwinding.Goals as goal

pub returns : goal.returns
returns c = opened_unwinds
