use Rattle.std.proofs.Common.{◌≡◌, ℕ, take}
use Rattle.pc_assign.specs.Uses.{row_uses}
use Rattle.pc_assign.specs.models.Choosing.{member, used_holds}
use Rattle.pc_assign.proofs.definitions.used_below.Given as goal
use Rattle.pc_word.specs.StoredRow.{row_in}

abbrev pub invariant-loop-at : goal.invariant-loop-at
invariant-loop-at l =
    (other : ℕ) → member l.set other ≡ used_holds (row_uses (row_in (λ leaf. leaf) l.rest)) (take l.at l.parameters) (take l.at l.held) other
