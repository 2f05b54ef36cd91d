use Rattle.pc_replay.proofs.Moved.{more_moves}
use Rattle.pc_replay.proofs.replaying.bring_all.Goals as goal

pub loop-preserved : goal.loop-preserved
loop-preserved c = more_moves c.args.window c.loop.window c.bring.new.window c.loop.invariant c.in_ok-bring.ensures
