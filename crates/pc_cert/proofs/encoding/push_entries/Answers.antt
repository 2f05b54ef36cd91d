use Rattle.std.proofs.Common.{arith}
use Rattle.std.proofs.lemmas.Grind.{common_steps}
use Rattle.std.proofs.lemmas.List.Elements.{All-more}
use Rattle.pc_cert.specs.Numbers.{EntryFits}
use Rattle.pc_cert.proofs.encoding.push_entries.Goals as goal

pub loop-entry-preserved : goal.loop-entry-preserved
loop-entry-preserved c = record {
  text = grind (arith, common_steps);
  numbers = All-more EntryFits c.args.entries.now c.loop-entry.entry-index c.entry-item.result c.loop-entry-test.true c.loop-entry.invariant.numbers
      (rw (← c.entry-item.is) c.in_ok-push_entry.ensures.numbers);
}
