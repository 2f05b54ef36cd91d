use Rattle.std.proofs.Common.{arith}
use Rattle.std.proofs.lemmas.Grind.{common_steps}
use Rattle.std.proofs.lemmas.List.Elements.{All-more}
use Rattle.pc_machine.specs.MachineCode.{row_of}
use Rattle.pc_object.specs.Numbers.{RowNumbersFit}
use Rattle.pc_object.proofs.encoding.push_rows.Goals as goal

pub loop-row-preserved : goal.loop-row-preserved
loop-row-preserved c = record {
  text = grind (arith, common_steps);
  words = All-more (λ tree. RowNumbersFit (row_of tree)) c.args.rows.now c.loop-row.row-index c.row-item.result c.loop-row-test.true c.loop-row.invariant.words
      (rw (← c.row-item.is) c.in_ok-push_row.ensures.words);
}
