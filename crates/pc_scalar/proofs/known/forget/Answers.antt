use Rattle.std.proofs.Common.{arith}
use Rattle.pc_scalar.specs.models.Known.{kept}
use Rattle.pc_scalar.proofs.Tables.{changed_more, same_default}
use Rattle.pc_scalar.proofs.known.forget.Goals as goal

pub loop-at-preserved : goal.loop-at-preserved
loop-at-preserved c =
    changed_more (kept c.args.written) c.args.known.now c.loop-at.known c.loop-at.at c.kept.result (omega arith) c.loop-at.invariant
    (same_default (kept c.args.written) c.loop-at.known c.loop-at.at _ c.kept.result (omega (arith, c.loop-at.auto.known)) c.kept.ensures)
