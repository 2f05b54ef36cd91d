use Rattle.pc_replay.specs.Replaying.{ComesTo}
use Rattle.pc_replay.proofs.replaying.bring_all.Given as goal

abbrev pub invariant-loop : goal.invariant-loop
invariant-loop l = ComesTo l.fn.window l.window
