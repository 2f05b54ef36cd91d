use Rattle.std.proofs.Common.{◌≡◌, ℕ, length}
use Rattle.std.specs.Prelude.{slice_index_or}
use Rattle.pc_settled.proofs.nodes.NodeSets.new.Given as goal

-- the nodes so far are by themselves
abbrev pub invariant-loop-node : goal.invariant-loop-node
invariant-loop-node l = record {
  long : length l.up.items ≡ l.node;
  own : (node : ℕ) → slice_index_or l.up.items node node ≡ node;
}
