use Rattle.std.proofs.Common.{sym, arith}
use Rattle.std.proofs.lemmas.List.{length-take-le, take_rest}
use Rattle.std.proofs.lemmas.Option.{slice_get_within}
use Rattle.pc_copies.proofs.Places.{way_unwinds, way_ring, way_tail, place_adds, path_counts}
use Rattle.pc_copies.proofs.place.place.Goals as goal

pub put_ring-requires-clause-ring : goal.put_ring-requires-clause-ring
put_ring-requires-clause-ring c = rw take_rest (way_ring c.args.path.now c.in-Some.start c.requires.way c.in-Some.ensures)

pub slice_bounds-unwind-end : goal.slice_bounds-unwind-end
slice_bounds-unwind-end c =
    sym (length-take-le c.in-Some.start c.args.path.now (let within = slice_get_within c.args.path.now c.in-Some.start c.in-Some.ensures.move c.in-Some.ensures.there in omega (arith, within)))

pub unwind-requires-clause-moves : goal.unwind-requires-clause-moves
unwind-requires-clause-moves c = way_tail c.args.path.now c.in-Some.start c.requires.way c.in-Some.ensures

pub unwind-requires-in-None-clause-moves : goal.unwind-requires-in-None-clause-moves
unwind-requires-in-None-clause-moves c = way_unwinds c.args.path.now c.requires.way c.in-None.ensures

pub returns-in_ok-unwind-in-Some-clause-adds : goal.returns-in_ok-unwind-in-Some-clause-adds
returns-in_ok-unwind-in-Some-clause-adds c =
    let put = c.in_ok-put_ring-in-Some.ensures in
    let ring = rw take_rest at put.adds in
    let unwound = rw (put.scratch, put.ops) at c.in_ok-unwind-in-Some.ensures.unwound in
    place_adds c.args.path.now c.in-Some.start c.requires.way c.in-Some.ensures c.args.packing.now.ops c.args.packing.now.scratch c.requires.avoids c.args.packing.now.rows c.args.packing.now.first
    c.put_ring.new.self.rows c.put_ring.new.self.first c.unwind.new.self.rows c.unwind.new.self.first ring unwound

pub returns-in_ok-unwind-in-Some-clause-counted : goal.returns-in_ok-unwind-in-Some-clause-counted
returns-in_ok-unwind-in-Some-clause-counted c =
    let put = c.in_ok-put_ring-in-Some.ensures in
    path_counts c.args.path.now c.in-Some.start c.requires.way c.in-Some.ensures _ _ _ (rw take_rest at put.counted) c.in_ok-unwind-in-Some.ensures.unwound.counted
