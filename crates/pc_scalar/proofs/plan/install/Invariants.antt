use Rattle.std.proofs.Common.{◌≡◌}
use Rattle.pc_scalar.proofs.Plans.{mixed}
use Rattle.pc_scalar.proofs.plan.install.Given as goal

-- the nodes so far are the planned ones
abbrev pub invariant-loop-at : goal.invariant-loop-at
invariant-loop-at l = l.flow ≡ mixed l.at l.nodes l.initial.flow
