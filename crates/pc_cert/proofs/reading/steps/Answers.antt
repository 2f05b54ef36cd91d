use Rattle.std.proofs.lemmas.Result.{err_from_is_err_and}
use Rattle.pc_cert.specs.Reading.{counted_at, step_at}
use Rattle.pc_cert.proofs.ReadLists.{many_go_on, many_end, many_done}
use Rattle.pc_cert.proofs.reading.steps.Goals as goal

pub returns-in_err-step : goal.returns-in_err-step
returns-in_err-step c =
    let p = err_from_is_err_and c.from_residual-in_err-step.result c.from_residual-in_err-step.ensures.1 in
    rw (p.1, p.2) (many_end c.in_err-step.field-0.0 step_at c.loop.steps.items c.in_ok-count.count c.loop.counter c.loop.rest.now (counted_at step_at c.args.bytes.now)
    c.loop-test.true c.in_err-step.ensures c.loop.invariant)

pub loop-preserved : goal.loop-preserved
loop-preserved c =
    rw c.in_ok-push.ensures.items (many_go_on step_at c.loop.steps.items c.in_ok-count.count c.loop.counter c.loop.rest.now c.in_ok-step.step c.in_ok-step.after.now
    (counted_at step_at c.args.bytes.now) c.loop-test.true c.in_ok-step.ensures c.loop.invariant)

pub returns : goal.returns
returns c = rw c.from_vec.ensures (many_done step_at c.loop.steps.items c.in_ok-count.count c.loop.counter c.loop.rest.now (counted_at step_at c.args.bytes.now) c.loop-test.false c.loop.invariant)
