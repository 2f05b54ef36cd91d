use Rattle.std.proofs.Common.{arith}
use Rattle.pc_live.proofs.Bits.{without_is}
use Rattle.pc_live.proofs.variable_set.VariableSet.without.Goals as goal

pub returns : goal.returns
returns c x small = without_is c.args.self.bits c.args.variable x (omega (arith, c.requires)) (omega (arith, small))
