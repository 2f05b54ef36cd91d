use Rattle.std.proofs.Common.{arith}
use Rattle.std.proofs.lemmas.Grind.{common_steps}
use Rattle.std.proofs.lemmas.List.Elements.{All-more}
use Rattle.pc_cert.specs.Numbers.{FactFits}
use Rattle.pc_cert.proofs.encoding.push_facts.Goals as goal

pub loop-fact-preserved : goal.loop-fact-preserved
loop-fact-preserved c = record {
  text = grind (arith, common_steps);
  numbers = All-more FactFits c.args.facts.now c.loop-fact.fact-index _ c.loop-fact-test.true c.loop-fact.invariant.numbers c.in_ok-push_fact.ensures.numbers;
}
