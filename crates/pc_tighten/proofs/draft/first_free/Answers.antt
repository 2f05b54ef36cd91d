use Rattle.std.proofs.Common.{◌<◌, length, refl, sym, ◌∙◌, arith}
use Rattle.std.proofs.lemmas.Option.{slice_get_read}
use Rattle.pc_tighten.proofs.Drafting.{first_stay_more}
use Rattle.pc_tighten.proofs.draft.first_free.Goals as goal

pub loop-at-preserved : goal.loop-at-preserved
loop-at-preserved c =
    let items = c.args.under.now.items.items in
    let low : c.loop-at.at < length items = omega arith in
    let there = slice_get_read items (length items) c.loop-at.at c.index-item.result.now refl low c.index-item.ensures in
    first_stay_more c.args.limits c.args.above.now c.args.to c.args.under.now c.loop-at.at c.index-item.result.now c.loop-at.invariant there
    (sym c.is_held.ensures ∙ c.if-not-is_held.false)
