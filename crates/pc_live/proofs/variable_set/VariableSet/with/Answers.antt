use Rattle.std.proofs.Common.{arith}
use Rattle.pc_live.proofs.Bits.{with_is}
use Rattle.pc_live.proofs.variable_set.VariableSet.with.Goals as goal

pub returns : goal.returns
returns c x = with_is c.args.self.bits c.args.variable x (omega (arith, c.requires))
