use Rattle.pc_settled.proofs.Bits.{none_is}
use Rattle.pc_settled.proofs.register_set.RegisterSet.none.Goals as goal

pub returns-clause-empty : goal.returns-clause-empty
returns-clause-empty c x = none_is x
