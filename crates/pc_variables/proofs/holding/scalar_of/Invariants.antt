use Rattle.std.proofs.Common.{◌≡◌, drop}
use Rattle.pc_variables.specs.Holdings.{scalar_of}
use Rattle.pc_variables.proofs.holding.scalar_of.Given as goal

-- the name is not among those that were passed
abbrev pub invariant-loop-holding : goal.invariant-loop-holding
invariant-loop-holding l = scalar_of (drop l.holding-index l.holdings) l.name ≡ scalar_of l.holdings l.name
