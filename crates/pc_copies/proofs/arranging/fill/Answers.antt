use Rattle.std.proofs.Common.{arith}
use Rattle.pc_copies.proofs.Kept.{table_none, table_next}
use Rattle.pc_copies.proofs.arranging.fill.Goals as goal

pub loop-at-init : goal.loop-at-init
loop-at-init c = record { within = omega arith; so_far = table_none c.args.moves.now c.args.table.now c.requires.table }

pub loop-at-preserved : goal.loop-at-preserved
loop-at-preserved c = record {
  within = omega (arith, c.loop-at.invariant.within);
  so_far = table_next c.args.moves.now c.loop-at.at _ c.loop-at.table c.loop-at-test.true c.loop-at.invariant.within c.requires.moves c.requires.once c.loop-at.invariant.so_far;
}
