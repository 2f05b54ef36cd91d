use Rattle.pc_table.specs.StoredTable.{table_of}
use Rattle.pc_proposing.proofs.Leaving.{begun_arranges}
use Rattle.pc_proposing.proofs.start.arranged_by.Goals as goal

-- with what a row begins may be arranged
pub do_steps-requires : goal.do_steps-requires
do_steps-requires c = begun_arranges (table_of c.args.table.now) c.args.window c.requires
