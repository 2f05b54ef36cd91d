use Rattle.pc_table.specs.StoredTable.{table_of}
use Rattle.pc_checking.proofs.Arranging.{can_arrange}
use Rattle.pc_checking.proofs.arranged.arrange.Goals as goal

pub do_steps-requires : goal.do_steps-requires
do_steps-requires c = can_arrange (table_of c.args.table.now) c.args.arrived.now.window c.in_ok-window.window c.requires c.in_ok-window.ensures.same
