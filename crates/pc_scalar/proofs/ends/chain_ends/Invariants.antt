use Rattle.std.proofs.Common.{◌≡◌, ◌<◌, ℕ, length, slice_index}
use Rattle.pc_pass.specs.models.Change.{Way}
use Rattle.pc_scalar.specs.models.Ends.{Jump, IsShortened, EndsAt}
use Rattle.pc_scalar.proofs.ends.chain_ends.Given as goal

-- the chain has led to a node so far
abbrev pub invariant-loop-table : goal.invariant-loop-table
invariant-loop-table l = record {
  shortened : IsShortened l.fn.table l.table;
  there : l.at < length l.fn.table;
  leads : Way (Jump l.fn.table) l.from l.at;
}

-- along a chain the rank falls
abbrev pub decreases-loop-table : goal.decreases-loop-table
decreases-loop-table l = slice_index l.flow.ranks l.at

-- the ends so far are found
abbrev pub invariant-loop-from : goal.invariant-loop-from
invariant-loop-from l = record {
  shortened : IsShortened l.fn.table l.table;
  as_many : length l.ends.items ≡ l.from;
  each : (at : ℕ) → at < l.from → EndsAt l.fn.table at (slice_index l.ends.items at);
}
