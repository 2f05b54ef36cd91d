use Rattle.pc_settling.proofs.SettledWindows.{copies_proper}
use Rattle.pc_settling.proofs.settling.without_copies.Goals as goal

pub returns-clause-proper : goal.returns-clause-proper
returns-clause-proper c =
    let window = c.args.window in
    let below = c.in_ok-tree.ensures in
    copies_proper window.tree c.in_ok-tree.field-0.tree window.names window.limits window.inside c.requires.proper below.nodes below.tree
