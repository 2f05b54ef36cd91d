use Rattle.std.proofs.Common.{◌≡◌, ◌<◌, ℕ, length}
use Rattle.std.specs.Prelude.{slice_index_or}
use Rattle.pc_forward.specs.declared.ways.Way.TheVariants.{Nothing}
use Rattle.pc_forward.specs.models.Ways.{IsWay}
use Rattle.pc_forward.proofs.ways.note_all.Given as goal

-- the edges of the nodes so far are noted
abbrev pub invariant-loop-at : goal.invariant-loop-at
invariant-loop-at l = record {
  as_many : length l.table ≡ length l.flow.nodes;
  each : (to : ℕ) → to < length l.flow.nodes → IsWay l.flow l.at to (slice_index_or l.table to Nothing);
}
