use Rattle.std.proofs.Common.{◌≡◌}
use Rattle.std.specs.Prelude.{vec_capacity}
use Rattle.std.specs.List.{AllByRecursion}
use Rattle.pc_vm.specs.models.Planned.{written, IsRegister}
use Rattle.pc_vm.proofs.pending.write_all.Given as goal

-- the writes that are left come to what all come to
abbrev pub invariant-loop-write : goal.invariant-loop-write
invariant-loop-write l = record {
  registers_there : AllByRecursion IsRegister l.writes.items;
  registers : written l.writes.items l.values.registers ≡ written l.initial.writes.items l.initial.values.registers;
  cells : l.values.cells ≡ l.initial.values.cells;
  input : l.values.input ≡ l.initial.values.input;
  capacity : vec_capacity l.writes ≡ vec_capacity l.initial.writes;
}

abbrev pub decreases-loop-write : goal.decreases-loop-write
decreases-loop-write l = goal.left-loop-write l
