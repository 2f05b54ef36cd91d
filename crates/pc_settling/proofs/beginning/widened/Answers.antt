use Rattle.std.proofs.Common.{rules, ◌<◌, ◌^◌}
use Rattle.pc_settling.proofs.BegunWindows.{begun_widened}
use Rattle.pc_settling.proofs.beginning.widened.Goals as goal

pub returns-clause-begun : goal.returns-clause-begun
returns-clause-begun c =
    let few : c.args.number < 2 ^ 8 = search rules in
    let tidy = c.in_ok-window-2.ensures in
    begun_widened c.args.table.now c.args.number c.args.window c.in_ok-window.window c.in_ok-window-2.window few c.requires.left c.requires.room
    c.in_ok-window.ensures.grown tidy.tidies tidy.size tidy.proper tidy.nodes
