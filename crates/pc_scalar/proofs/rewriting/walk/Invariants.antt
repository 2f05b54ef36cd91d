use Rattle.std.specs.Prelude.{slice_index}
use Rattle.pc_scalar.proofs.Rewrites.{OnChain}
use Rattle.pc_scalar.proofs.rewriting.walk.Given as goal

-- the nodes so far are rewritten
abbrev pub invariant-loop-next : goal.invariant-loop-next
invariant-loop-next l = OnChain l.flow l.rule l.fn.nodes l.head l.known l.nodes l.at

-- along a chain the rank falls
abbrev pub decreases-loop-next : goal.decreases-loop-next
decreases-loop-next l = slice_index l.flow.ranks l.at
