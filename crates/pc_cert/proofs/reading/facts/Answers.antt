use Rattle.std.proofs.lemmas.Result.{err_from_is_err_and}
use Rattle.pc_cert.specs.Reading.{counted_at, fact_at}
use Rattle.pc_cert.proofs.ReadLists.{many_go_on, many_end, many_done}
use Rattle.pc_cert.proofs.reading.facts.Goals as goal

pub returns-in_err-fact : goal.returns-in_err-fact
returns-in_err-fact c =
    let p = err_from_is_err_and c.from_residual-in_err-fact.result c.from_residual-in_err-fact.ensures.1 in
    rw (p.1, p.2) (many_end c.in_err-fact.field-0.0 fact_at c.loop.facts.items c.in_ok-count.count c.loop.counter c.loop.rest.now (counted_at fact_at c.args.bytes.now)
    c.loop-test.true c.in_err-fact.ensures c.loop.invariant)

pub loop-preserved : goal.loop-preserved
loop-preserved c =
    rw c.in_ok-push.ensures.items (many_go_on fact_at c.loop.facts.items c.in_ok-count.count c.loop.counter c.loop.rest.now c.in_ok-fact.fact c.in_ok-fact.after.now
    (counted_at fact_at c.args.bytes.now) c.loop-test.true c.in_ok-fact.ensures c.loop.invariant)

pub returns : goal.returns
returns c = rw c.from_vec.ensures (many_done fact_at c.loop.facts.items c.in_ok-count.count c.loop.counter c.loop.rest.now (counted_at fact_at c.args.bytes.now) c.loop-test.false c.loop.invariant)
