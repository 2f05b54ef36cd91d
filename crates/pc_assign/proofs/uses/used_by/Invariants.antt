use Rattle.std.proofs.Common.{◌≡◌, ℕ, take}
use Rattle.pc_assign.specs.Uses.{leaf_uses}
use Rattle.pc_assign.specs.models.Choosing.{member, is_used_at}
use Rattle.pc_assign.proofs.uses.used_by.Given as goal

abbrev pub invariant-loop-at : goal.invariant-loop-at
invariant-loop-at l = (place : ℕ) → member l.set place ≡ is_used_at (leaf_uses l.leaf) (take l.at l.parameters) place
