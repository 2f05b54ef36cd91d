use Rattle.std.proofs.Common.{◌≡◌, ◌<◌, length, Some, refl, arith}
use Rattle.std.specs.Prelude.{slice_get}
use Rattle.std.proofs.lemmas.Option.{slice_get_read}
use Rattle.pc_settled.proofs.Holding.{held_at_end}
use Rattle.pc_settled.proofs.settling.hold_at.Goals as goal

pub returns : goal.returns
returns c = λ e.
    let rows = c.args.rows.now in
    let row = c.args.point.row in
    let tree = c.index-rows-at.result in
    let below : row < length rows = omega arith in
    let there : slice_get rows row ≡ Some tree = slice_get_read rows (length rows) row tree refl below c.index-rows-at.is in
    held_at_end c.args.found.now rows row tree c.args.pair there (c.hold_at_end.ensures e)
