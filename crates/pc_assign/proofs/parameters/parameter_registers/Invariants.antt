use Rattle.pc_assign.proofs.Held.{SoFar}
use Rattle.pc_assign.proofs.parameters.parameter_registers.Given as goal

abbrev pub invariant-loop-at : goal.invariant-loop-at
invariant-loop-at l = SoFar l.scratch l.passed l.held l.taken l.at
