use Rattle.std.proofs.Common.{◌≡◌, ◌++◌, map, take, drop}
use Rattle.pc_scalar.specs.models.Known.{kept}
use Rattle.pc_scalar.proofs.known.forget.Given as goal

abbrev pub invariant-loop-at : goal.invariant-loop-at
invariant-loop-at l = l.known ≡ map (kept l.written) (take l.at l.initial.known) ++ drop l.at l.initial.known
