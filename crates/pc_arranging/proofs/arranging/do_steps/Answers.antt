use Rattle.pc_window.specs.StoredWindow.{window_in}
use Rattle.pc_arranging.specs.Arranging.{begun}
use Rattle.pc_arranging.proofs.Doing.{loop_on, loop_stops, loop_ends}
use Rattle.pc_arranging.proofs.arranging.do_steps.Goals as goal

pub loop-step-preserved : goal.loop-step-preserved
loop-step-preserved c =
    let k =
    loop_on c.args.table.now c.args.steps.now (begun (window_in c.args.window)) c.loop-step.current c.loop-step.step-index c.loop-step.invariant.on _ c.in_ok-next.field-0
    c.loop-step-test.true c.in_ok-next.ensures c.in-Some.next c.in-Some.is in
    record { on = k.0; arranged = k.1 }

pub returns-in_default-clause-arranges : goal.returns-in_default-clause-arranges
returns-in_default-clause-arranges c =
    loop_stops c.args.table.now c.args.steps.now (begun (window_in c.args.window)) c.loop-step.current c.loop-step.step-index c.loop-step.invariant.on _ c.in_ok-next.field-0
    c.loop-step-test.true c.in_ok-next.ensures c.in_default.is

pub returns-clause-arranges : goal.returns-clause-arranges
returns-clause-arranges c =
    loop_ends c.args.table.now c.args.steps.now (begun (window_in c.args.window)) c.loop-step.current c.loop-step.step-index c.loop-step.invariant.on c.loop-step-test.false
