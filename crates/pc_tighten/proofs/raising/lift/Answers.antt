use Rattle.std.proofs.Common.{◌≡◌, length}
use Rattle.pc_tighten.specs.models.Raising.{Raises, MovesUp}
use Rattle.pc_tighten.proofs.Raised.{ok_then, above_apart, as_many_rows, may_raises, may_there, may_within}
use Rattle.pc_tighten.proofs.raising.lift.Goals as goal

pub move_up-requires-clause-above : goal.move_up-requires-clause-above
move_up-requires-clause-above c = (may_within c.args.limits c.args.parents.now c.args.rows.now.items c.args.rise.above c.args.under c.args.rise.at c.requires.may).0

pub move_up-requires-clause-under : goal.move_up-requires-clause-under
move_up-requires-clause-under c = (may_within c.args.limits c.args.parents.now c.args.rows.now.items c.args.rise.above c.args.under c.args.rise.at c.requires.may).1

pub move_up-requires-clause-apart : goal.move_up-requires-clause-apart
move_up-requires-clause-apart c = above_apart c.args.rows.now.items c.args.parents.now c.args.rise.above c.args.under c.requires.stand c.requires.may.0

pub move_up-requires-clause-there : goal.move_up-requires-clause-there
move_up-requires-clause-there c draft at = may_there c.args.limits c.args.parents.now c.args.rows.now.items c.args.rise.above c.args.under c.args.rise.at draft c.requires.may at

pub returns-clause-raises : goal.returns-clause-raises
returns-clause-raises c =
    ok_then c.move_up.result (MovesUp c.args.rows.now.items c.move_up.new.rows.items c.args.rise.above c.args.under c.args.rise.at)
    (Raises c.args.limits c.args.parents.now.listing.places.items 1 c.args.rows.now.items c.move_up.new.rows.items)
    (λ moves. may_raises c.args.limits c.args.parents.now c.args.rows.now.items c.move_up.new.rows.items c.args.rise.above c.args.under c.args.rise.at c.requires.stand c.requires.may moves)
    c.move_up.ensures

pub returns-clause-count : goal.returns-clause-count
returns-clause-count c =
    ok_then c.move_up.result (Raises c.args.limits c.args.parents.now.listing.places.items 1 c.args.rows.now.items c.move_up.new.rows.items)
    (length c.move_up.new.rows.items ≡ length c.args.rows.now.items)
    (λ raises. as_many_rows c.args.limits c.args.parents.now.listing.places.items 1 c.args.rows.now.items c.move_up.new.rows.items raises)
    (returns-clause-raises c)

pub returns-clause-there : goal.returns-clause-there
returns-clause-there c = (may_within c.args.limits c.args.parents.now c.args.rows.now.items c.args.rise.above c.args.under c.args.rise.at c.requires.may).0
