use Rattle.pc_certified.proofs.Examples.{printing_is_shown, loop_is_shown, pair_is_shown, root_is_shown}
use Rattle.pc_certified.proofs.EnteredExamples.{entering_is_shown, early_is_shown, tested_is_shown}
use Rattle.pc_certified.proofs.PipelinedExample.{pipelined_is_shown}
use Rattle.pc_certified.proofs.laws.examples_of_certificates.Goals as goal

pub returns-clause-printing : goal.returns-clause-printing
returns-clause-printing c = printing_is_shown

pub returns-clause-looping : goal.returns-clause-looping
returns-clause-looping c = loop_is_shown

pub returns-clause-pair : goal.returns-clause-pair
returns-clause-pair c = pair_is_shown

pub returns-clause-root : goal.returns-clause-root
returns-clause-root c = root_is_shown

pub returns-clause-entering : goal.returns-clause-entering
returns-clause-entering c = entering_is_shown

pub returns-clause-early : goal.returns-clause-early
returns-clause-early c = early_is_shown

pub returns-clause-tested : goal.returns-clause-tested
returns-clause-tested c = tested_is_shown

pub returns-clause-pipelined : goal.returns-clause-pipelined
returns-clause-pipelined c = pipelined_is_shown
