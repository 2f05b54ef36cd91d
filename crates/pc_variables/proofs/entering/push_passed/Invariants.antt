use Rattle.std.proofs.Common.{◌≡◌, drop}
use Rattle.pc_variables.specs.Holdings.{with_passed}
use Rattle.pc_variables.proofs.entering.push_passed.Given as goal

-- the parameters that are left lead to the same
abbrev pub invariant-loop-place : goal.invariant-loop-place
invariant-loop-place l =
    with_passed l.passing (drop l.place l.parameters) (drop l.place l.arguments) l.holdings ≡ with_passed l.passing l.parameters l.arguments l.initial.holdings
