use Rattle.std.proofs.Common.{◌≡◌, ◌<◌, ℕ, length}
use Rattle.std.specs.Prelude.{slice_index_or}
use Rattle.pc_scalar.specs.declared.before.Predecessor.TheVariants.{Nothing}
use Rattle.pc_scalar.specs.models.Before.{IsBefore}
use Rattle.pc_scalar.proofs.before.note_all.Given as goal

-- the edges of the nodes so far are noted
abbrev pub invariant-loop-at : goal.invariant-loop-at
invariant-loop-at l = record {
  as_many : length l.table ≡ length l.flow.nodes;
  each : (to : ℕ) → to < length l.flow.nodes → IsBefore l.flow l.at to (slice_index_or l.table to Nothing);
}
