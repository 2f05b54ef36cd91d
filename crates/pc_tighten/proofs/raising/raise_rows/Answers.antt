use Rattle.std.proofs.Common.{◌≤◌, length, ap, get_or, arith}
use Rattle.pc_tighten.proofs.Rounds.{has_raised_stands, has_raised_count, has_raised_both, settled_both, row_there, settled_more}
use Rattle.pc_tighten.proofs.raising.raise_rows.Goals as goal

pub raise_row-requires-clause-stand : goal.raise_row-requires-clause-stand
raise_row-requires-clause-stand c =
    has_raised_stands c.args.limits c.args.parents.now c.args.rows.now.items c.loop-row.rows.items c.loop-row.moved c.loop-row.invariant.raised c.requires.stand

pub raise_row-requires-clause-there : goal.raise_row-requires-clause-there
raise_row-requires-clause-there c =
    let count = has_raised_count c.args.limits c.args.parents.now c.args.rows.now.items c.loop-row.rows.items c.loop-row.moved c.loop-row.invariant.raised in
    let at = row_there c.args.parents.now.listing.order.items c.rows-row-items.result.now c.loop-row.row-index c.rows-row-items.ensures c.loop-row-test.true in
    let within = c.requires.within c.loop-row.row-index (get_or c.rows-row-items.result.now c.loop-row.row-index 0) at in
    omega (arith, count, within)

pub loop-row-preserved : goal.loop-row-preserved
loop-row-preserved c = record {
  raised = has_raised_both c.args.limits c.args.parents.now c.args.rows.now.items c.loop-row.rows.items c.raise_row.new.rows.items c.loop-row.moved c.in_ok-some.some c.either-moved.result
      c.either-moved.ensures c.loop-row.invariant.raised c.in_ok-some.ensures.raised;
  settled = settled_both c.args.limits c.args.parents.now c.loop-row.rows.items c.raise_row.new.rows.items c.loop-row.moved c.in_ok-some.some c.either-moved.result c.loop-row.row-index
      (get_or c.rows-row-items.result.now c.loop-row.row-index 0) c.either-moved.ensures c.in_ok-some.ensures.raised
      (row_there c.args.parents.now.listing.order.items c.rows-row-items.result.now c.loop-row.row-index c.rows-row-items.ensures c.loop-row-test.true)
      c.loop-row.invariant.settled c.in_ok-some.ensures.settled;
}

pub returns-clause-settled : goal.returns-clause-settled
returns-clause-settled c =
    let end : length c.args.parents.now.listing.order.items ≤ c.loop-row.row-index = (let same = c.loop-row-test.false in let is = ap length c.rows-row-items.ensures in omega arith) in
    settled_more c.args.limits c.args.parents.now c.loop-row.rows.items c.loop-row.moved (length c.args.parents.now.listing.order.items) c.loop-row.row-index end c.loop-row.invariant.settled
