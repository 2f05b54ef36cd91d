use Rattle.pc_settled.proofs.Bits.{without_low_is, without_high_is}
use Rattle.pc_settled.proofs.register_set.RegisterSet.without.Goals as goal

pub returns-then-register-lt128 : goal.returns-then-register-lt128
returns-then-register-lt128 c x small = without_low_is c.args.self c.args.register x c.if-register-lt128.true

pub returns-then-register-lt256 : goal.returns-then-register-lt256
returns-then-register-lt256 c x small = without_high_is c.args.self c.args.register x c.if-register-lt128.false c.if-register-lt256.true small
