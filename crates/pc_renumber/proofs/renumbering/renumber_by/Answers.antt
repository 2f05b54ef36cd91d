use Rattle.std.proofs.Common.{rules, ◌∙◌, ap}
use Rattle.pc_window.specs.Names.{parameters_of}
use Rattle.pc_window.specs.StoredWindow.{window_in}
use Rattle.pc_window.proofs.WindowsStored.{whole_in}
use Rattle.pc_renumber.specs.Renumbering.{Renumbers}
use Rattle.pc_renumber.proofs.RenumberedWindows.{stays_proper, stays_same}
use Rattle.pc_renumber.proofs.renumbering.renumber_by.Goals as goal

pub renumbered-requires-clause-parameters : goal.renumbered-requires-clause-parameters
renumbered-requires-clause-parameters c = c.requires.parameters ∙ ap parameters_of (whole_in c.args.window.tree)

pub returns-clause-proper : goal.returns-clause-proper
returns-clause-proper c =
    let is : Renumbers (window_in c.args.window) (window_in c.in_ok-later.later) = search rules in
    stays_proper c.args.window c.in_ok-later.later is c.requires.proper c.requires.nodes

pub returns-clause-same : goal.returns-clause-same
returns-clause-same c =
    let is : Renumbers (window_in c.args.window) (window_in c.in_ok-later.later) = search rules in
    stays_same c.args.window c.in_ok-later.later is c.requires.proper c.requires.nodes
