use Rattle.std.proofs.Common.{refl, ◌∙◌, arith}
use Rattle.pc_copies.proofs.Arranged.{arranged_first, path_avoids, arranged_more, arranged_all, none_waits}
use Rattle.pc_copies.proofs.Counts.{counting_first, counting_more, counted_all}
use Rattle.pc_copies.proofs.arranging.pack_all.Goals as goal

pub loop-at-init : goal.loop-at-init
loop-at-init c = record {
  has_room = c.requires.has_room;
  ops = refl;
  scratch = refl;
  counting = rw c.requires.none.0 (rw c.requires.none.1 (counting_first c.args.moves.now c.args.sources.now c.requires.table));
  so_far = rw c.requires.none.0 (rw c.requires.none.1 (arranged_first c.args.packing.now.ops c.args.packing.now.scratch c.args.moves.now c.args.sources.now c.requires.table));
}

pub place-requires-clause-avoids : goal.place-requires-clause-avoids
place-requires-clause-avoids c =
    rw c.as_slice.ensures
    (rw c.loop-at.invariant.scratch
    (path_avoids c.args.packing.now.ops c.args.packing.now.scratch c.args.moves.now c.loop-at.at c.loop-at.sources c.follow.new.sources c.loop-at.packing.rows
    c.loop-at.packing.first c.in_ok-path.path _
    c.requires.moves c.loop-at.invariant.so_far c.in_ok-path.ensures.followed))

pub loop-at-preserved : goal.loop-at-preserved
loop-at-preserved c =
    let old = c.loop-at.invariant in
    let put = c.in_ok-place.ensures in
    let adds = rw (c.as_slice.ensures, old.scratch, old.ops) at put.adds in
    record {
      has_room = put.has_room;
      ops = put.ops ∙ old.ops;
      scratch = put.scratch ∙ old.scratch;
      counting = counting_more c.args.packing.now.ops c.args.packing.now.scratch c.args.moves.now c.loop-at.at c.loop-at.sources c.follow.new.sources c.loop-at.packing.rows
          c.loop-at.packing.first c.in_ok-path.path _ c.requires.moves old.so_far c.in_ok-path.ensures.followed old.counting c.place.new.packing.rows c.place.new.packing.first
          c.in_ok-path.ensures.counted (rw c.as_slice.ensures at put.counted);
      so_far = arranged_more c.args.packing.now.ops c.args.packing.now.scratch c.args.moves.now c.loop-at.at c.loop-at.sources c.follow.new.sources
          c.loop-at.packing.rows c.loop-at.packing.first c.in_ok-path.path _
          c.requires.moves old.so_far c.in_ok-path.ensures.followed _ refl c.loop-at-test.true c.place.new.packing.rows c.place.new.packing.first c.in_ok-path.ensures.table adds;
    }

pub returns : goal.returns
returns c =
    let so_far = c.loop-at.invariant.so_far in
    record {
      does = arranged_all c.args.packing.now.ops c.args.packing.now.scratch c.args.moves.now c.loop-at.at c.loop-at.sources c.loop-at.packing.rows c.loop-at.packing.first
          (omega (arith, c.loop-at-test.false)) so_far;
      fit = so_far.fit;
      copies = counted_all c.args.moves.now c.loop-at.sources c.loop-at.packing.rows c.loop-at.packing.first c.loop-at.invariant.counting
          (none_waits c.args.packing.now.ops c.args.packing.now.scratch c.args.moves.now c.loop-at.at c.loop-at.sources c.loop-at.packing.rows c.loop-at.packing.first
          (omega (arith, c.loop-at-test.false)) so_far);
      room = rw c.loop-at.invariant.ops at c.loop-at.invariant.has_room;
    }
