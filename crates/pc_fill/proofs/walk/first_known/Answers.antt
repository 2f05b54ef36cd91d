use Rattle.std.proofs.Common.{refl}
use Rattle.pc_fill.proofs.WalkedFront.{whole_searched}
use Rattle.pc_fill.proofs.walk.first_known.Goals as goal

pub returns : goal.returns
returns c = whole_searched _ _ _ (record { counts = c.count_front.ensures.counts; in_order = c.requires.in_order }) refl c.in_ok-look_through.ensures
