use Rattle.std.proofs.Common.{◌∙◌, ap, arith, w32}
use Rattle.std.specs.Prelude.{pos}
use Rattle.std.proofs.lemmas.Int.{to_z_pos}
use Rattle.pc_lower.proofs.Layouts.{lays_bounds}
use Rattle.pc_lower.proofs.element.lay_bounds.Goals as goal

pub returns : goal.returns
returns c =
    let below = rw c.leading_to.ensures at c.lay.ensures in
    let short = c.requires.lengths.short c.args.element.array in
    let same = c.length-length.ensures in
    let number = to_z_pos w32 c.length-length.result (omega (arith, short, same)) ∙ ap pos same in
    lays_bounds c.args.draft.now _ _ c.args.element.array c.args.element.line _ _ _ _ _ c.args.element.index _ c.lay_guard-guard.ensures below number
