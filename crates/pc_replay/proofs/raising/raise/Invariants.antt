use Rattle.pc_replay.specs.Replaying.{ComesTo}
use Rattle.pc_replay.proofs.raising.raise.Given as goal

abbrev pub invariant-loop-up : goal.invariant-loop-up
invariant-loop-up l = ComesTo l.initial.window l.window
