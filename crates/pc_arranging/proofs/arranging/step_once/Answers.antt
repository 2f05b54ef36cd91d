use Rattle.std.proofs.Common.{Option, subst}
use Rattle.pc_table.specs.StoredTable.{table_of}
use Rattle.pc_window.specs.declared.window.Window.{Window as StoredWindow}
use Rattle.pc_window.specs.StoredWindow.{window_in}
use Rattle.pc_arranging.specs.models.Doing.{DoesOrNot}
use Rattle.pc_arranging.proofs.Doing.{steps_large}
use Rattle.pc_arranging.proofs.arranging.step_once.Goals as goal

pub returns-then-not-is_small : goal.returns-then-not-is_small
returns-then-not-is_small c =
    steps_large c.args.table.now c.args.window c.args.step c.in-Some.later
    (subst (λ (it : Option StoredWindow). DoesOrNot (table_of c.args.table.now) c.args.step (window_in c.args.window) it) c.in-Some.is c.in_ok-later.ensures) c.is_small.result
    c.is_small.ensures c.if-not-is_small.true
