use Rattle.std.proofs.Common.{◌≡◌, ◌++◌, take, All}
use Rattle.std.specs.List.{flat_map}
use Rattle.pc_cert.specs.CertificateText.{step_text}
use Rattle.pc_cert.specs.Numbers.{StepFits}
use Rattle.pc_cert.proofs.encoding.push_steps.Given as goal

abbrev pub invariant-loop-step : goal.invariant-loop-step
invariant-loop-step l = record {
  text : l.out.items ≡ l.fn.out.items ++ flat_map step_text (take l.step-index l.steps);
  numbers : All StepFits (take l.step-index l.steps);
}
