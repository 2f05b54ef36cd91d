use Rattle.std.proofs.Common.{arith}
use Rattle.pc_forward.proofs.Walks.{heads_more}
use Rattle.pc_forward.proofs.walking.Walk.all.Goals as goal

pub loop-head-init : goal.loop-head-init
loop-head-init c = record { walked = c.requires.walked; none = c.requires.none; heads = λ head low is. absurd (omega arith) }

pub loop-head-preserved : goal.loop-head-preserved
loop-head-preserved c = record {
  walked = c.in_ok-start.ensures.walked;
  none = c.in_ok-start.ensures.none;
  heads = heads_more c.args.table.now c.loop-head.head c.loop-head.self.left c.start.new.self.left c.in_ok-start.ensures.still c.loop-head.invariant.heads c.in_ok-start.ensures.begun;
}
