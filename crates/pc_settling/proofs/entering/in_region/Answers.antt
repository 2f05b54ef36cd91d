use Rattle.pc_settling.proofs.EnteredRegions.{opened_left}
use Rattle.pc_settling.proofs.entering.in_region.Goals as goal

pub returns-clause-left : goal.returns-clause-left
returns-clause-left c =
    let window = c.in_ok-window.ensures in
    opened_left c.in_ok-window.window window.proper window.nodes window.small
