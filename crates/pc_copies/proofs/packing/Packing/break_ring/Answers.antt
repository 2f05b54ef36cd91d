use Rattle.std.proofs.lemmas.List.{length-take-le}
use Rattle.pc_copies.proofs.Copies.{put_counts}
use Rattle.std.proofs.Common.{inr, arith, ◌-◌, ◌<◌, ◌∙◌, subst, length}
use Rattle.std.specs.Prelude.{ℕ}
use Rattle.pc_copies.proofs.Rings.{ring_some, ring_unwinds, break_adds}
use Rattle.pc_copies.proofs.packing.Packing.break_ring.Goals as goal

pub unwind-requires-clause-moves : goal.unwind-requires-clause-moves
unwind-requires-clause-moves c = ring_unwinds c.args.ring.now c.requires.ring

pub returns-clause-adds : goal.returns-clause-adds
returns-clause-adds c =
    let put = c.in_ok-put_one.ensures in
    let unwound = rw (put.scratch, put.ops) at c.in_ok-unwind.ensures.unwound in
    let same = c.in_ok-unwind.ensures.ops ∙ put.ops in
    break_adds c.args.self.now.scratch c.args.self.now.ops c.args.ring.now _ _ c.args.self.now.rows c.args.self.now.first c.put_one.new.self.rows c.put_one.new.self.first
    c.unwind.new.self.rows c.unwind.new.self.first c.put_one-2.new.self.rows c.put_one-2.new.self.first c.requires.ring c.requires.avoids put.put unwound
    (rw same at c.in_ok-put_one-2.ensures.put) c.requires.long (subst (λ (n : ℕ). length c.unwind.new.self.first < n) same c.in_ok-unwind.ensures.has_room)

pub returns-clause-counted : goal.returns-clause-counted
returns-clause-counted c =
    let some = ring_some c.args.ring.now c.requires.ring in
    let out = put_counts c.args.self.now.ops _ c.args.self.now.rows c.args.self.now.first c.put_one.new.self.rows c.put_one.new.self.first c.in_ok-put_one.ensures.put in
    let middle = c.in_ok-unwind.ensures.unwound.counted in
    let into = put_counts c.unwind.new.self.ops _ c.unwind.new.self.rows c.unwind.new.self.first c.put_one-2.new.self.rows c.put_one-2.new.self.first c.in_ok-put_one-2.ensures.put in
    let front = length-take-le (length c.args.ring.now - 1) c.args.ring.now (omega arith) in
    inr (omega (arith, some, out, middle, into, front))
