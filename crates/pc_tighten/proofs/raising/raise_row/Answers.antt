use Rattle.std.proofs.Common.{arith}
use Rattle.pc_tighten.proofs.Rounds.{has_raised_stands, has_raised_count, has_raised_more}
use Rattle.pc_tighten.proofs.raising.raise_row.Goals as goal

pub first_rise-requires-clause-stand : goal.first_rise-requires-clause-stand
first_rise-requires-clause-stand c =
    rw c.deref.ensures.value (has_raised_stands c.args.limits c.args.parents.now c.args.rows.now.items c.loop-first.rows.items c.loop-first.moved c.loop-first.invariant c.requires.stand)

pub first_rise-requires-clause-there : goal.first_rise-requires-clause-there
first_rise-requires-clause-there c =
    let count = has_raised_count c.args.limits c.args.parents.now c.args.rows.now.items c.loop-first.rows.items c.loop-first.moved c.loop-first.invariant in
    let there = c.requires.there in
    omega arith

pub raise-requires-clause-stand : goal.raise-requires-clause-stand
raise-requires-clause-stand c = has_raised_stands c.args.limits c.args.parents.now c.args.rows.now.items c.loop-first.rows.items c.loop-first.moved c.loop-first.invariant c.requires.stand

pub loop-first-preserved : goal.loop-first-preserved
loop-first-preserved c =
    has_raised_more c.args.limits c.args.parents.now c.args.rows.now.items c.loop-first.rows.items c.raise.new.rows.items c.loop-first.moved c.loop-first.invariant c.in_ok-raise.ensures.raises

pub loop-first-smaller : goal.loop-first-smaller
loop-first-smaller c = let lower = c.in_ok-raise.ensures.raises.lower in omega arith
