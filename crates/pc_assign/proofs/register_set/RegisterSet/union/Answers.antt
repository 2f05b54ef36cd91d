use Rattle.std.proofs.Common.{refl}
use Rattle.pc_assign.proofs.Sets.{union_is}
use Rattle.pc_assign.proofs.register_set.RegisterSet.union.Goals as goal

pub returns : goal.returns
returns c x = union_is c.args.self c.args.other _ x refl refl
