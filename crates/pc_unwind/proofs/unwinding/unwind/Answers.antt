use Rattle.pc_table.specs.StoredTable.{table_of}
use Rattle.pc_window.specs.StoredWindow.{window_in}
use Rattle.pc_window.proofs.Proper.{unwinds_proper}
use Rattle.pc_window.proofs.Settling.{unwinds_keep}
use Rattle.pc_unwind.proofs.Grown.{has_grown}
use Rattle.pc_unwind.proofs.UnwoundWindows.{single_size, single_stubs, single_room, single_root, unwinds_to}
use Rattle.pc_unwind.proofs.unwinding.unwind.Goals as goal

pub unwind_tree-requires-clause-stubs : goal.unwind_tree-requires-clause-stubs
unwind_tree-requires-clause-stubs c = single_stubs c.args.table.now c.args.window c.in_ok-tree.tree c.in_ok-tree.ensures.tree c.requires.able

pub unwind_tree-requires-clause-size : goal.unwind_tree-requires-clause-size
unwind_tree-requires-clause-size c = single_size c.args.table.now c.args.window c.in_ok-tree.tree c.in_ok-tree.ensures.tree c.size-size.result c.size-size.ensures

pub unwind_tree-requires-clause-room : goal.unwind_tree-requires-clause-room
unwind_tree-requires-clause-room c =
    single_room c.args.table.now c.args.window c.in_ok-tree.tree c.in_ok-tree.ensures.tree c.size-size.result c.size-size.ensures c.requires.able

pub unwind_tree-requires-clause-root : goal.unwind_tree-requires-clause-root
unwind_tree-requires-clause-root c =
    single_root c.args.table.now c.args.window c.in_ok-tree.tree c.in_ok-tree.ensures.tree c.requires.able

pub returns-clause-unwinds : goal.returns-clause-unwinds
returns-clause-unwinds c =
    unwinds_to c.args.table.now c.args.window c.in_ok-tree.tree c.in_ok-tree.ensures.tree c.args.number c.size-size.result c.unwind_tree.new.tree c.unwind_tree.new.growth
    c.in_ok-unwind_tree.ensures.nodes c.in_ok-unwind_tree.ensures.unwinds

pub returns-clause-grown : goal.returns-clause-grown
returns-clause-grown c =
    has_grown (table_of c.args.table.now) c.args.table.now.kept c.args.number (window_in c.args.window) _ (returns-clause-unwinds c)

pub returns-clause-proper : goal.returns-clause-proper
returns-clause-proper c = unwinds_proper (table_of c.args.table.now) c.args.number (window_in c.args.window) _ (returns-clause-unwinds c)

pub returns-clause-keeps : goal.returns-clause-keeps
returns-clause-keeps c = unwinds_keep (table_of c.args.table.now) c.args.table.now.kept c.args.number (window_in c.args.window) _ (returns-clause-unwinds c)
