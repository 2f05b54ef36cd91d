use Rattle.pc_table.specs.StoredTable.{table_of}
use Rattle.pc_cert_tests.proofs.Arranged.{opened_can}
use Rattle.pc_cert_tests.proofs.tables.arranged.Goals as goal

pub do_steps-requires : goal.do_steps-requires
do_steps-requires c =
    let made = c.in_ok-window.ensures in
    opened_can (table_of c.args.table.now) c.in_ok-window.window made.can made.proper made.small
