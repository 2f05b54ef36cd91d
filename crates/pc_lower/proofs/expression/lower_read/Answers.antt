use Rattle.pc_lower.proofs.Lowered.{lays_read}
use Rattle.pc_lower.proofs.expression.lower_read.Goals as goal

pub returns : goal.returns
returns c =
    let guard = rw c.leading_to.ensures at c.lay_guard-guard.ensures in
    let more = rw c.leading_to-2.ensures at c.lay_item.ensures in
    lays_read c.args.line c.args.site.temporary c.args.site.next c.lay_item-last.ensures guard more
