use Rattle.std.proofs.Common.{◌≡◌, ◌<◌, ℕ, Some, length, slice_get}
use Rattle.pc_flow.specs.declared.node.FlowNode.{FlowNode}
use Rattle.pc_scalar.specs.models.Ends.{led}
use Rattle.pc_ranges.specs.models.Rewriting.{settled_node}
use Rattle.pc_ranges.proofs.rewriting.settled_nodes.Given as goal

abbrev pub invariant-loop-at : goal.invariant-loop-at
invariant-loop-at l = record {
  as_many : length l.nodes ≡ l.at;
  each : (at : ℕ) (node : FlowNode) → at < l.at → slice_get l.flow.nodes at ≡ Some node → slice_get l.nodes at ≡ Some (led l.fn.ends (settled_node l.fn.map at node));
}
