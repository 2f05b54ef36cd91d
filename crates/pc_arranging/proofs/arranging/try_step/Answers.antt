use Rattle.pc_table.specs.StoredTable.{table_of}
use Rattle.pc_arranging.proofs.Doing.{room_to_bring, bring_tried}
use Rattle.pc_arranging.proofs.arranging.try_step.Goals as goal

pub bring-requires-clause-small : goal.bring-requires-clause-small
bring-requires-clause-small c = room_to_bring (table_of c.args.table.now) c.args.window c.requires

pub returns-in-Bring : goal.returns-in-Bring
returns-in-Bring c = bring_tried (table_of c.args.table.now) c.args.window c.args.step c.in-Bring.place c.bring.result c.in-Bring.is c.bring.ensures
