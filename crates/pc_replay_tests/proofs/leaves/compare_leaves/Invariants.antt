use Rattle.std.specs.List.{AllByRecursion}
use Rattle.pc_replay_tests.specs.Waiting.{CanBeFilled}
use Rattle.pc_replay_tests.proofs.leaves.compare_leaves.Given as goal

-- each window that waits can be filled
abbrev pub invariant-loop : goal.invariant-loop
invariant-loop l = AllByRecursion CanBeFilled l.met.waiting.items
