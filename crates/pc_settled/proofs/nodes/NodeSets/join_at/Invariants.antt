use Rattle.pc_settled.specs.models.Found.{JoinsLeaf}
use Rattle.pc_settled.proofs.nodes.NodeSets.join_at.Given as goal

-- nodes were joined of registers that the leaf passes on
abbrev pub invariant-loop-register : goal.invariant-loop-register
invariant-loop-register l = JoinsLeaf l.live l.row l.leaf l.written l.initial.self.up.items l.self.up.items
