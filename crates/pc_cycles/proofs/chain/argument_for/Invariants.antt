use Rattle.std.proofs.Common.{◌≡◌, drop}
use Rattle.pc_cycles.specs.Chains.{argument_for}
use Rattle.pc_cycles.proofs.chain.argument_for.Given as goal

abbrev pub invariant-loop-at : goal.invariant-loop-at
invariant-loop-at l = argument_for l.parameters l.arguments l.parameter ≡ argument_for (drop l.at l.parameters) (drop l.at l.arguments) l.parameter
