use Rattle.pc_table.specs.StoredTable.{table_of}
use Rattle.pc_unwind.proofs.TableRegions.{homes_small}
use Rattle.pc_arranging.proofs.Opened.{grafts_it}
use Rattle.pc_arranging.proofs.stubs.opened.Goals as goal

pub homes_by_variable-homes-requires : goal.homes_by_variable-homes-requires
homes_by_variable-homes-requires c = homes_small (table_of c.args.table.now) c.args.table.now.kept c.args.region c.args.homes.now c.requires.stub

pub returns : goal.returns
returns c =
    grafts_it (table_of c.args.table.now) c.args.enters c.args.inside c.args.region c.args.tag c.args.homes.now c.args.names.now c.graft.new.names c.may_open.result _
    c.loop_within-loop_of_tags.result c.homes_by_variable-homes.result c.in_ok-tree.tree c.may_open.ensures c.if-not-may_open.false c.tree-from.ensures.tree
    c.loop_within-loop_of_tags.ensures c.homes_by_variable-homes.ensures c.in_ok-tree.ensures.nodes c.in_ok-tree.ensures.tree
