use Rattle.std.proofs.Common.{◌≡◌, ◌<◌, ℕ, Some, length, slice_get, slice_index}
use Rattle.pc_flow.specs.declared.node.FlowNode.{FlowNode}
use Rattle.pc_ranges.specs.models.Rewriting.{taken}
use Rattle.pc_ranges.proofs.rewriting.places.Given as goal

abbrev pub invariant-loop-at : goal.invariant-loop-at
invariant-loop-at l = record {
  as_many : length l.table.items ≡ l.at;
  each : (at : ℕ) (node : FlowNode) → at < l.at → slice_get l.flow.nodes at ≡ Some node → slice_index l.table.items at ≡ taken l.map at node;
}
