use Rattle.std.proofs.Common.{◌-◌, ◌<◌, length, refl, sym, ◌∙◌, arith}
use Rattle.std.proofs.lemmas.Bool.Decides.{nat_tests}
use Rattle.std.proofs.lemmas.Option.{slice_get_read}
use Rattle.pc_tighten.proofs.Raised.{may_rise}
use Rattle.pc_tighten.proofs.raising.last_rise.Goals as goal

pub returns : goal.returns
returns c =
    let items = c.index-rows-row.result.items.items in
    let some = c.if-is_empty.false in
    let tested = c.is_empty.ensures in
    let low : c.len-at.result - 1 < length items = grind (arith, nat_tests) in
    may_rise c.args.limits c.args.rows.now c.args.parents.now c.in-Some.above c.args.row (c.len-at.result - 1) c.index-rows-above.result c.index-rows-row.result
    (sym c.in-Some.ensures.value) c.in-Some.ensures.within c.requires.there c.index-rows-above.is c.index-rows-row.is (
      c.index-item.result.now,
      slice_get_read items (length items) (c.len-at.result - 1) c.index-item.result.now refl low c.index-item.ensures,
      sym c.is_held.ensures ∙ c.if-is_held.false,
    )
