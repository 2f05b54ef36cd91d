use Rattle.pc_shared.specs.SharedWindows.{IsNode}
use Rattle.pc_replay_tests.proofs.sharing.follow.Given as goal

abbrev pub invariant-loop-side : goal.invariant-loop-side
invariant-loop-side l = IsNode l.shared l.node
