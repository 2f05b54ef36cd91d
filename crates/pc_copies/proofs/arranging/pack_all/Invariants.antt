use Rattle.std.proofs.Common.{◌≡◌, ◌<◌, length}
use Rattle.pc_copies.specs.models.Counting.{Counting}
use Rattle.pc_copies.specs.models.Arranging.{Arranging}
use Rattle.pc_copies.proofs.arranging.pack_all.Given as goal

abbrev pub invariant-loop-at : goal.invariant-loop-at
invariant-loop-at l = record {
  has_room : length l.packing.first < l.packing.ops;
  ops : l.packing.ops ≡ l.initial.packing.ops;
  scratch : l.packing.scratch ≡ l.initial.packing.scratch;
  counting : Counting l.moves l.sources l.packing.rows l.packing.first;
  so_far : Arranging l.initial.packing.ops l.initial.packing.scratch l.moves l.at l.sources l.packing.rows l.packing.first;
}
