use Rattle.std.proofs.Common.{arith}
use Rattle.pc_live.proofs.Bits.{union_is, union_grows, union_fits}
use Rattle.pc_live.proofs.variable_set.VariableSet.add.Goals as goal

pub returns-clause-both : goal.returns-clause-both
returns-clause-both c x = union_is c.args.self.now.bits c.args.other.bits x

pub returns-clause-grew : goal.returns-clause-grew
returns-clause-grew c h = union_grows c.args.self.now.bits c.args.other.bits h

pub returns-clause-fits : goal.returns-clause-fits
returns-clause-fits c = union_fits c.args.self.now.bits c.args.other.bits (omega arith) (omega arith)
