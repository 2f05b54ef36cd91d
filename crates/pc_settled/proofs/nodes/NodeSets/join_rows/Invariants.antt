use Rattle.pc_machine.specs.MachineCode.{rows_of}
use Rattle.pc_settled.specs.models.Found.{AreNeeded, AreJoined}
use Rattle.pc_settled.proofs.nodes.NodeSets.join_rows.Given as goal

-- what the rows so far pass on was joined
abbrev pub invariant-loop-at : goal.invariant-loop-at
invariant-loop-at l = AreNeeded (rows_of l.rows) l.live.rows.items → AreJoined (rows_of l.rows) l.live.homes.items l.initial.self.up.items
    → AreJoined (rows_of l.rows) l.live.homes.items l.self.up.items
