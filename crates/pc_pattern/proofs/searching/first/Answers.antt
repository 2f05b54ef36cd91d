use Rattle.pc_table.specs.StoredTable.{table_of}
use Rattle.pc_window.specs.StoredWindow.{window_in}
use Rattle.pc_pattern.proofs.States.{opened_can, first_of, opened_size, opened_variables, opened_forms}
use Rattle.pc_pattern.proofs.Steps.{unwound_size, unwound_settled}
use Rattle.pc_pattern.proofs.searching.first.Goals as goal

pub unwind-requires : goal.unwind-requires
unwind-requires c =
    record { able = opened_can c.args.table.now c.args.bounds.limits c.args.region c.in_ok-window.window c.requires.there c.in_ok-window.ensures.opened }

pub returns-clause-first : goal.returns-clause-first
returns-clause-first c =
    first_of (table_of c.args.table.now) c.args.bounds c.args.region c.in_ok-window.window (window_in c.in_ok-window-2.window)
    (window_in c.in_ok-window-3.window) c.in_ok-window.ensures.opened c.in_ok-window.ensures.small c.in_ok-window-2.ensures.unwinds
    c.in_ok-window-3.ensures.tidies

pub returns-clause-size : goal.returns-clause-size
returns-clause-size c =
    unwound_size (table_of c.args.table.now) c.args.bounds.extent.window c.in_ok-window.window c.in_ok-window-2.window c.in_ok-window-3.window
    (opened_size c.in_ok-window.window c.in_ok-window.ensures.small) c.in_ok-window-2.ensures.grown c.in_ok-window-3.ensures.size

pub returns-clause-settled : goal.returns-clause-settled
returns-clause-settled c =
    let table = table_of c.args.table.now in
    unwound_settled table c.args.bounds.extent.window c.in_ok-window.window c.in_ok-window-2.window c.in_ok-window-3.window
    (opened_size c.in_ok-window.window c.in_ok-window.ensures.small) (opened_variables c.in_ok-window.window c.in_ok-window.ensures.small)
    c.in_ok-window-2.ensures.grown c.in_ok-window-2.ensures.unwinds c.in_ok-window-3.ensures.tidies
    (opened_forms table c.args.bounds.limits c.args.region c.in_ok-window.window c.in_ok-window.ensures.opened) c.in_ok-window-3.ensures.nodes
