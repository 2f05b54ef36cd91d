use Rattle.std.proofs.Common.{◌≡◌}
use Rattle.std.specs.Prelude.{slice_index_or}
use Rattle.pc_settled.specs.models.Found.{LeadsTo}
use Rattle.pc_settled.proofs.nodes.NodeSets.least.Given as goal

abbrev pub decreases-loop-above : goal.decreases-loop-above
decreases-loop-above l = l.at

-- the node so far is of the web, and it names the next one
abbrev pub invariant-loop-above : goal.invariant-loop-above
invariant-loop-above l = record {
  leads : LeadsTo l.self.up.items l.fn.node l.at;
  named : l.above ≡ slice_index_or l.self.up.items l.at l.at;
}
