use Rattle.pc_lower.proofs.Layouts.{lays_load}
use Rattle.pc_lower.proofs.element.lay_load.Goals as goal

pub returns : goal.returns
returns c =
    let bounds = rw (c.above.ensures, c.leading_to.ensures) at c.lay_bounds.ensures in
    lays_load c.args.element.array c.args.element.line _ _ c.args.site.next c.args.element.index c.lay_item-last.ensures bounds
