use Rattle.std.proofs.Common.{◌≡◌, take}
use Rattle.pc_vm.specs.models.Made.{new_arrays}
use Rattle.pc_vm.proofs.values.make_arrays.Given as goal

-- the arrays of the lengths so far
abbrev pub invariant-loop-place : goal.invariant-loop-place
invariant-loop-place l = l.arrays.items ≡ new_arrays (take l.place l.lengths) (take l.place l.lists)
