use Rattle.pc_machine.specs.MachineCode.{row_of, rows_of}
use Rattle.pc_settled.proofs.Holding.{copy_is_due}
use Rattle.pc_settled.proofs.settling.is_due.Goals as goal

pub returns : goal.returns
returns c = λ e.
    copy_is_due c.args.found.now (rows_of c.args.rows.now) c.args.row c.args.dest c.args.from c.in-Some.made c.in-Some-find.source (row_of c.args.next.now)
    (record { one = c.least-one.result; other = c.least-other.result }) c.if-dest-from.false c.in-Some.ensures c.in-Some-find.ensures
    c.least-one.ensures c.least-other.ensures (c.meet.ensures e)
