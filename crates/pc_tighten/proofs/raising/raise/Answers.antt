use Rattle.std.proofs.Common.{arith}
use Rattle.pc_tighten.proofs.Raised.{raises_more, stand_then}
use Rattle.pc_tighten.proofs.raising.raise.Goals as goal

pub loop-next-init : goal.loop-next-init
loop-next-init c =
    let count = c.in_ok-lift.ensures.count in
    let there = c.in_ok-lift.ensures.there in
    (omega arith, c.in_ok-lift.ensures.raises)

pub last_rise-requires-clause-stand : goal.last_rise-requires-clause-stand
last_rise-requires-clause-stand c =
    rw c.deref.ensures.value (stand_then c.args.limits c.args.parents.now c.args.parents.now.listing.places.items 1 c.args.rows.now.items c.loop-next.rows.items c.loop-next.invariant.1
    c.requires.stand)

pub lift-requires-in-Some-clause-stand : goal.lift-requires-in-Some-clause-stand
lift-requires-in-Some-clause-stand c =
    stand_then c.args.limits c.args.parents.now c.args.parents.now.listing.places.items 1 c.args.rows.now.items c.loop-next.rows.items c.loop-next.invariant.1 c.requires.stand

pub loop-next-preserved : goal.loop-next-preserved
loop-next-preserved c =
    let count = c.in_ok-lift-2.ensures.count in
    let there = c.in_ok-lift-2.ensures.there in (
      omega arith,
      raises_more c.args.limits c.args.parents.now.listing.places.items 1 1 c.args.rows.now.items c.loop-next.rows.items c.lift-in-Some.new.rows.items
          c.loop-next.invariant.1 c.in_ok-lift-2.ensures.raises,
    )

pub loop-next-smaller : goal.loop-next-smaller
loop-next-smaller c = let lower = c.in_ok-lift-2.ensures.raises.lower in omega arith
