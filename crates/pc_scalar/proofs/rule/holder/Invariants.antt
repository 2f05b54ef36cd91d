use Rattle.std.proofs.Common.{◌≡◌, drop}
use Rattle.pc_scalar.specs.models.Known.{holder}
use Rattle.pc_scalar.proofs.rule.holder.Given as goal

abbrev pub invariant-loop-fact : goal.invariant-loop-fact
invariant-loop-fact l = holder l.op l.left l.right l.known ≡ holder l.op l.left l.right (drop l.fact-index l.known)
