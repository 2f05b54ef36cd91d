use Rattle.std.proofs.Common.{arith}
use Rattle.pc_arranging.proofs.Small.{small_enough}
use Rattle.pc_arranging.proofs.arranging.is_small.Goals as goal

pub returns : goal.returns
returns c =
    small_enough c.args.window.now c.size_up_to.result c.size_up_to.ensures.exact c.if-size_up_to-gt-MOST_PARTS.false (omega (arith, c.len.ensures, c.if-len.false))
    c.if-window-gt-MOST_NAMES.false
