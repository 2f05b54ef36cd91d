use Rattle.std.proofs.Common.{◌≡◌, ◌<◌, ◌≤◌, length, Some, refl, arith}
use Rattle.std.specs.Prelude.{slice_get}
use Rattle.std.proofs.lemmas.Option.{slice_get_read}
use Rattle.pc_settled.proofs.Holding.{one_more_settled, all_settled}
use Rattle.pc_settled.proofs.settling.are_settled.Goals as goal

pub loop-at-init : goal.loop-at-init
loop-at-init c = λ good number row below there copies. absurd (omega (arith, below))

pub loop-at-preserved : goal.loop-at-preserved
loop-at-preserved c = λ good.
    let rows = c.args.rows.now in
    let at = c.loop-at.at in
    let tree = c.index-rows-at.result in
    let below : at < length rows = c.loop-at-test.true in
    let there : slice_get rows at ≡ Some tree = slice_get_read rows (length rows) at tree refl below c.index-rows-at.is in
    let same : c.in-Some.row ≡ at = c.in-Some.ensures in
    one_more_settled rows at c.in-Some.row tree there same (λ copies. c.if-not-is_row_settled.ensures refl good copies) (c.loop-at.invariant good)

pub returns : goal.returns
returns c = λ e good.
    let rows = c.args.rows.now in
    let all : length rows ≤ c.loop-at.at = c.loop-at-test.false in
    all_settled rows c.loop-at.at all (c.loop-at.invariant good)
