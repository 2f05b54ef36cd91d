use Rattle.std.proofs.Common.{◌≡◌, ℕ, take}
use Rattle.pc_window.specs.Rebasing.{is_in}
use Rattle.pc_assign.specs.models.Choosing.{member}
use Rattle.pc_assign.proofs.parameters.set_of.Given as goal

abbrev pub invariant-loop-at : goal.invariant-loop-at
invariant-loop-at l = (register : ℕ) → member l.set register ≡ is_in register (take l.at l.registers)
