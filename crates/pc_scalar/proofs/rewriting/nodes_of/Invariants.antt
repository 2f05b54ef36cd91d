use Rattle.std.proofs.Common.{◌≡◌, take}
use Rattle.pc_scalar.proofs.rewriting.nodes_of.Given as goal

abbrev pub invariant-loop-at : goal.invariant-loop-at
invariant-loop-at l = l.nodes ≡ take l.at l.flow.nodes
