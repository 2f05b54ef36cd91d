use Rattle.std.proofs.Common.{ℕ, ◌<◌, sym, subst, get_or}
use Rattle.pc_fill.specs.models.Places.{known_in}
use Rattle.pc_fill.proofs.Marks.{name_below, name_marked, all_marked}
use Rattle.pc_fill.proofs.known.mark_names.Goals as goal

pub mark-requires : goal.mark-requires
mark-requires c = subst (λ (n : ℕ). get_or c.args.names.now c.loop-at.at 0 < n) (sym c.loop-at.auto.table)
    (name_below _ c.args.names.now c.loop-at.at 0 c.requires c.loop-at-test.true)

pub loop-at-preserved : goal.loop-at-preserved
loop-at-preserved c =
    name_marked c.args.names.now c.loop-at.at (known_in c.loop-at.table) 0 (known_in c.args.table.now) _ c.loop-at.invariant c.loop-at-test.true c.mark.ensures

pub returns : goal.returns
returns c = all_marked c.args.names.now c.loop-at.at (known_in c.loop-at.table) (known_in c.args.table.now) c.loop-at.invariant c.loop-at-test.false
