use Rattle.std.proofs.lemmas.Result.{err_from_is_err_and}
use Rattle.pc_cert.specs.Reading.{many_at, entry_at}
use Rattle.pc_cert.proofs.ReadLists.{many_go_on, many_end, many_done}
use Rattle.pc_cert.proofs.reading.entries.Goals as goal

pub returns-in_err-entry : goal.returns-in_err-entry
returns-in_err-entry c =
    let p = err_from_is_err_and c.from_residual.result c.from_residual.ensures.1 in
    rw (p.1, p.2) (many_end c.in_err-entry.field-0.0 entry_at c.loop.entries.items c.args.count c.loop.counter c.loop.rest.now (many_at entry_at c.args.count c.args.bytes.now)
    c.loop-test.true c.in_err-entry.ensures c.loop.invariant)

pub loop-preserved : goal.loop-preserved
loop-preserved c =
    rw c.in_ok-push.ensures.items (many_go_on entry_at c.loop.entries.items c.args.count c.loop.counter c.loop.rest.now c.in_ok-entry.entry c.in_ok-entry.after.now
    (many_at entry_at c.args.count c.args.bytes.now) c.loop-test.true c.in_ok-entry.ensures c.loop.invariant)

pub returns : goal.returns
returns c = rw c.from_vec.ensures (many_done entry_at c.loop.entries.items c.args.count c.loop.counter c.loop.rest.now
    (many_at entry_at c.args.count c.args.bytes.now) c.loop-test.false c.loop.invariant)
