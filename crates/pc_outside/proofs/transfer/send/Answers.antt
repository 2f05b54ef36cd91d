use Rattle.std.proofs.Common.{arith}
use Rattle.std.proofs.lemmas.Grind.{common_steps}
use Rattle.pc_outside.proofs.StreamLemmas.{Appends-more}
use Rattle.pc_outside.proofs.transfer.send.Goals as goal

pub loop-sent-preserved : goal.loop-sent-preserved
loop-sent-preserved g c = record {
  within = grind (arith, common_steps);
  grew = Appends-more _ _ _ c.args.bytes.now c.loop-sent.sent _ c.loop-sent.invariant.grew c.in_ok-sent.ensures.bytes;
  counted = omega (arith, c.loop-sent.invariant.counted, c.in_ok-sent.ensures.counted);
}
