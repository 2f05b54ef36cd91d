use Rattle.std.proofs.Common.{◌≡◌, ◌++◌, map, take, drop}
use Rattle.pc_scalar.proofs.Rewrites.{dropped}
use Rattle.pc_scalar.proofs.rewriting.clear.Given as goal

abbrev pub invariant-loop-at : goal.invariant-loop-at
invariant-loop-at l = l.known ≡ map dropped (take l.at l.initial.known) ++ drop l.at l.initial.known
