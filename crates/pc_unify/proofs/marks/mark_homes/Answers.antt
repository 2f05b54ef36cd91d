use Rattle.std.proofs.Common.{rules, ◌<◌, length}
use Rattle.std.specs.Prelude.{take}
use Rattle.pc_window.specs.Names.{homes_use}
use Rattle.pc_unify.proofs.Marked.{home_below, home_more}
use Rattle.pc_unify.proofs.marks.mark_homes.Goals as goal

pub mark-requires : goal.mark-requires
mark-requires c =
    let there : c.loop-at.at < length c.args.homes.now = search rules in
    home_below _ c.args.marks.now c.loop-at.marks (homes_use (take c.loop-at.at c.args.homes.now)) c.args.homes.now c.loop-at.at c.loop-at.invariant there c.requires

pub loop-at-preserved : goal.loop-at-preserved
loop-at-preserved c =
    let there : c.loop-at.at < length c.args.homes.now = search rules in
    home_more _ c.args.marks.now c.loop-at.marks c.mark.new.marks c.args.homes.now c.loop-at.at c.loop-at.invariant there c.mark.ensures
