use Rattle.std.proofs.Common.{◌≡◌, ◌<◌, ◌≤◌, drop, length}
use Rattle.pc_copies.specs.models.Packing.{Unwound}
use Rattle.pc_copies.proofs.packing.Packing.unwind.Given as goal

abbrev pub invariant-loop-at : goal.invariant-loop-at
invariant-loop-at l = record {
  within : l.at ≤ length l.moves;
  has_room : length l.self.first < l.self.ops;
  ops : l.self.ops ≡ l.initial.self.ops;
  scratch : l.self.scratch ≡ l.initial.self.scratch;
  unwound : Unwound l.initial.self.ops l.initial.self.scratch (drop l.at l.moves) l.initial.self.rows l.initial.self.first l.self.rows l.self.first;
}

abbrev pub decreases-loop-at : goal.decreases-loop-at
decreases-loop-at l = l.at
