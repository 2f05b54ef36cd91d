use Rattle.std.proofs.Common.{◌≡◌, drop}
use Rattle.pc_variables.specs.Holdings.{with_own}
use Rattle.pc_variables.proofs.entering.push_own.Given as goal

-- the parameters that are left lead to the same
abbrev pub invariant-loop-parameter : goal.invariant-loop-parameter
invariant-loop-parameter l = with_own (drop l.parameter-index l.parameters) l.holdings ≡ with_own l.parameters l.initial.holdings
