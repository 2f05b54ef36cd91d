use Rattle.std.proofs.Common.{inl}
use Rattle.pc_copies.proofs.Copies.{put_counts}
use Rattle.pc_copies.proofs.Rings.{put_ring}
use Rattle.pc_copies.proofs.packing.Packing.put_ring.Goals as goal

pub returns-in_ok-put-clause-adds : goal.returns-in_ok-put-clause-adds
returns-in_ok-put-clause-adds c =
    put_ring c.args.self.now.scratch c.args.self.now.ops c.args.ring.now c.args.self.now.rows c.args.self.now.first c.put.new.self.rows c.put.new.self.first
    c.in_ok-put.ensures.put c.requires.ring.once

pub returns-in_ok-put-clause-counted : goal.returns-in_ok-put-clause-counted
returns-in_ok-put-clause-counted c =
    inl (put_counts c.args.self.now.ops c.args.ring.now c.args.self.now.rows c.args.self.now.first c.put.new.self.rows c.put.new.self.first c.in_ok-put.ensures.put)
