use Rattle.std.proofs.Common.{◌≡◌}
use Rattle.std.specs.Prelude.{vec_capacity}
use Rattle.std.specs.List.{AllByRecursion}
use Rattle.pc_vm.specs.models.Made.{lengths_of}
use Rattle.pc_vm.specs.models.Planned.{stored, IsInside}
use Rattle.pc_vm.proofs.pending.store_all.Given as goal

-- the stores that are left come to what all come to
abbrev pub invariant-loop-store : goal.invariant-loop-store
invariant-loop-store l = record {
  inside : AllByRecursion (IsInside (lengths_of l.values.cells)) l.stores.items;
  cells : stored l.stores.items l.values.cells ≡ stored l.initial.stores.items l.initial.values.cells;
  registers : l.values.registers ≡ l.initial.values.registers;
  input : l.values.input ≡ l.initial.values.input;
  capacity : vec_capacity l.stores ≡ vec_capacity l.initial.stores;
}

abbrev pub decreases-loop-store : goal.decreases-loop-store
decreases-loop-store l = goal.left-loop-store l
