use Rattle.pc_recolor.proofs.recoloring.best.Goals.{then-learns, else-learns}
use Rattle.pc_recolor.proofs.recoloring.best.Goals as goal

pub loop-turn-preserved : goal.loop-turn-preserved
loop-turn-preserved c = elim c.if-learns.branch [
  | then-learns w ↦
      let found = c.in_ok-found.ensures in
      let now = rw c.in-Some-2.is at found in
      rw w.best-is now
  | else-learns w ↦ rw w.best-is c.loop-turn.invariant
]
