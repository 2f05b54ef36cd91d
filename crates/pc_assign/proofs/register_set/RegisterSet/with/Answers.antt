use Rattle.std.proofs.Common.{refl, arith}
use Rattle.pc_assign.proofs.Sets.{with_low, with_high}
use Rattle.pc_assign.proofs.register_set.RegisterSet.with.Goals as goal

pub returns-then-register-lt-FEW : goal.returns-then-register-lt-FEW
returns-then-register-lt-FEW c x = with_low c.args.self _ c.args.register x (omega (arith, c.if-register-lt-FEW.true)) refl refl

pub returns-else-register-lt-FEW : goal.returns-else-register-lt-FEW
returns-else-register-lt-FEW c x =
    with_high c.args.self _ c.args.register x (omega (arith, c.if-register-lt-FEW.false)) (omega (arith, c.requires)) refl refl
