use Rattle.pc_calls.proofs.Functions.{inlined-same}
use Rattle.pc_calls.proofs.PlainUnits.{plain-same}
use Rattle.pc_calls.proofs.Measured.{unit-measured}
use Rattle.pc_calls.proofs.PlainInlined.{plain-inlined}
use Rattle.pc_calls.proofs.laws.law_of_inlining.Goals as goal

pub returns-clause-same : goal.returns-clause-same
returns-clause-same c = inlined-same

pub returns-clause-plain : goal.returns-clause-plain
returns-clause-plain c = plain-same

pub returns-clause-sizes : goal.returns-clause-sizes
returns-clause-sizes c = unit-measured

pub returns-clause-stays : goal.returns-clause-stays
returns-clause-stays c = plain-inlined
