use Rattle.pc_table.specs.StoredTable.{table_of}
use Rattle.pc_arranging.proofs.Doing.{room_for_counts, room_to_bring, join_some}
use Rattle.pc_arranging.proofs.arranging.join.Goals as goal

pub place_across-across-requires : goal.place_across-across-requires
place_across-across-requires c = room_for_counts (table_of c.args.table.now) c.args.window c.requires

pub bring-requires-clause-small : goal.bring-requires-clause-small
bring-requires-clause-small c = room_to_bring (table_of c.args.table.now) c.args.window c.requires

pub returns : goal.returns
returns c =
    join_some (table_of c.args.table.now) c.args.window c.args.branch c.args.on_yes c.args.on_no c.in-Some.across c.bring.result c.in-Some.ensures c.bring.ensures
