use Rattle.pc_live.proofs.Bits.{union_is}
use Rattle.pc_live.proofs.variable_set.VariableSet.union.Goals as goal

pub returns : goal.returns
returns c x = union_is c.args.self.bits c.args.other.bits x
