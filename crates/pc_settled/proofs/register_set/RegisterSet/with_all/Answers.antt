use Rattle.pc_settled.proofs.Bits.{both_is}
use Rattle.pc_settled.proofs.register_set.RegisterSet.with_all.Goals as goal

pub returns : goal.returns
returns c x = both_is c.args.self c.args.other x
