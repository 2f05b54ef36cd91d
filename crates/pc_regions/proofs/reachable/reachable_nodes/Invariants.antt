use Rattle.std.proofs.Common.{◌-◌, length}
use Rattle.pc_flow.specs.FlowGraph.{IsFlow}
use Rattle.pc_regions.specs.models.Reaching.{IsReaching}
use Rattle.pc_regions.proofs.reachable.reachable_nodes.Given as goal

abbrev pub invariant-loop-node : goal.invariant-loop-node
invariant-loop-node l = IsReaching l.flow l.met l.done × IsFlow l.flow

abbrev pub decreases-loop-node : goal.decreases-loop-node
decreases-loop-node l = length l.flow.nodes - l.done
