use Rattle.pc_table.specs.StoredTable.{table_of}
use Rattle.pc_window.specs.StoredWindow.{tree_in, supply_in}
use Rattle.pc_arranging.proofs.Entered.{parts_named}
use Rattle.pc_arranging.proofs.stubs.enter_at.Goals as goal

pub open_at-requires-clause-parts : goal.open_at-requires-clause-parts
open_at-requires-clause-parts c =
    parts_named (table_of c.args.table.now) c.home_count-count.result (record { tree = tree_in c.args.tree.now; names = supply_in c.args.names.now })
    (record { tree = tree_in c.name_homes.new.tree; names = supply_in c.name_homes.new.names }) c.args.leaf c.in_ok-name_homes.field-0 c.in_ok-name_homes.ensures.named
    c.if-not-branch.false c.requires.parts
