use Rattle.std.proofs.Common.{arith}
use Rattle.pc_assign.proofs.Sets.{least_low, least_high}
use Rattle.pc_assign.proofs.register_set.RegisterSet.least_absent.Goals as goal

pub returns-then-low-lt-FEW : goal.returns-then-low-lt-FEW
returns-then-low-lt-FEW c =
    least_low c.args.self c.trailing_ones-low.result c.args.scratch c.min.result (omega arith) c.trailing_ones-low.ensures
    (omega (arith, c.if-low-lt-FEW.true)) (omega (arith, c.min.ensures, c.from.ensures))

pub returns : goal.returns
returns c =
    least_high c.args.self c.trailing_ones-low.result c.trailing_ones.result c.args.scratch c.min-2.result (omega arith) (omega arith)
    c.trailing_ones-low.ensures (omega (arith, c.if-low-lt-FEW.false)) c.trailing_ones.ensures (omega (arith, c.ranges.scratch.fits))
    (omega (arith, c.min-2.ensures, c.from-2.ensures))
