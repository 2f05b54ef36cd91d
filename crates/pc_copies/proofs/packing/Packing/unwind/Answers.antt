use Rattle.std.proofs.Common.{◌∙◌, arith}
use Rattle.pc_copies.proofs.Unwinding.{unwound_next}
use Rattle.pc_copies.proofs.packing.Packing.unwind.Goals as goal

pub loop-at-preserved : goal.loop-at-preserved
loop-at-preserved c =
    let old = c.loop-at.invariant in
    let put = c.in_ok-put_one.ensures in
    record {
      within = omega (arith, old.within);
      has_room = put.has_room;
      ops = put.ops ∙ old.ops;
      scratch = put.scratch ∙ old.scratch;
      unwound = unwound_next c.args.self.now.scratch c.args.self.now.ops c.loop-at.at c.args.moves.now _ c.args.self.now.rows c.args.self.now.first c.loop-at.self.rows c.loop-at.self.first
          c.put_one.new.self.rows c.put_one.new.self.first c.loop-at-test.true old.within c.requires.moves c.requires.avoids old.unwound (rw old.ops at put.put);
    }
