use Rattle.std.proofs.Common.{◌≡◌, ◌<◌, length, Some, refl}
use Rattle.std.specs.Prelude.{slice_get}
use Rattle.std.proofs.lemmas.Option.{slice_get_read}
use Rattle.pc_settled.proofs.Webs.{row_joined}
use Rattle.pc_settled.proofs.nodes.NodeSets.join_rows.Goals as goal

pub loop-at-preserved : goal.loop-at-preserved
loop-at-preserved c = λ needed all.
    let rows = c.args.rows.now in
    let at = c.loop-at.at in
    let tree = c.index-rows-at.result in
    let below : at < length rows = c.loop-at-test.true in
    let there : slice_get rows at ≡ Some tree = slice_get_read rows (length rows) at tree refl below c.index-rows-at.is in
    let same : c.in-Some.row ≡ at = c.in-Some.ensures in
    row_joined c.args.live.now rows at c.in-Some.row tree c.none.result c.loop-at.self.up.items c.join_row.new.self.up.items there same c.join_row.ensures
    needed (c.loop-at.invariant needed all)
