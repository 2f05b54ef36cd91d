use Rattle.std.proofs.Common.{arith}
use Rattle.std.proofs.lemmas.Grind.{common_steps}
use Rattle.std.proofs.lemmas.List.Elements.{All-more}
use Rattle.pc_cert.specs.Numbers.{StepFits}
use Rattle.pc_cert.proofs.encoding.push_steps.Goals as goal

pub loop-step-preserved : goal.loop-step-preserved
loop-step-preserved c = record {
  text = grind (arith, common_steps);
  numbers = All-more StepFits c.args.steps.now c.loop-step.step-index _ c.loop-step-test.true c.loop-step.invariant.numbers c.in_ok-push_step.ensures.numbers;
}
