use Rattle.std.proofs.Common.{take}
use Rattle.pc_regions.specs.models.Counts.{CountsEdges}
use Rattle.pc_regions.proofs.in_edges.in_edge_counts.Given as goal

abbrev pub invariant-loop-from : goal.invariant-loop-from
invariant-loop-from l = CountsEdges l.flow (take l.from-index l.reachable) l.counts.items
