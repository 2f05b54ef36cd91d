use Rattle.pc_table.specs.StoredTable.{table_of}
use Rattle.pc_window.proofs.WindowsStored.{first_room, just_opened, opened_is, opens_within}
use Rattle.pc_window.proofs.Settling.{opens_alike}
use Rattle.pc_window.proofs.window.Window.of_region.Goals as goal

pub graft-requires-clause-room : goal.graft-requires-clause-room
graft-requires-clause-room c = first_room _ c.tree.ensures.few c.in_ok-names.names c.in_ok-names.ensures

pub returns-clause-small : goal.returns-clause-small
returns-clause-small c =
    just_opened _ c.tree.ensures.few c.in_ok-names.names c.graft.new.names c.in_ok-tree.tree c.args.limits c.innermost_loop-inside.result
    c.in_ok-names.ensures c.in_ok-tree.ensures.names c.in_ok-tree.ensures.size

pub returns-clause-opened : goal.returns-clause-opened
returns-clause-opened c =
    opened_is (table_of c.args.table.now) c.args.region _ c.in_ok-names.names c.graft.new.names c.first_homes-homes.result c.in_ok-tree.tree c.args.limits c.innermost_loop-inside.result
    c.tree.ensures.tree c.in_ok-names.ensures c.first_homes-homes.ensures c.innermost_loop-inside.ensures c.in_ok-tree.ensures.tree c.in_ok-tree.ensures.nodes

pub returns-clause-alike : goal.returns-clause-alike
returns-clause-alike c s =
    opens_alike (table_of c.args.table.now) c.args.table.now.kept c.args.limits c.args.region _ (returns-clause-opened c) s

pub returns-clause-proper : goal.returns-clause-proper
returns-clause-proper c = opens_within (table_of c.args.table.now) c.args.limits c.args.region _ c.requires.limits (returns-clause-opened c)
