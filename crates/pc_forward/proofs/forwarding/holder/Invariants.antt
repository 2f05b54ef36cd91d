use Rattle.std.proofs.Common.{◌<◌, ℕ}
use Rattle.pc_forward.specs.Forwardable.{IsHolder}
use Rattle.pc_forward.proofs.forwarding.holder.Given as goal

-- no variable so far has the value
abbrev pub invariant-loop-name : goal.invariant-loop-name
invariant-loop-name l = (x : ℕ) → x < l.name → IsHolder l.forms l.value x → ⊥
