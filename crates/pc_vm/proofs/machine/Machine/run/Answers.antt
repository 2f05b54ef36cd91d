use Rattle.std.proofs.Common.{◌≡◌, ◌∙◌, arith}
use Rattle.pc_vm.proofs.Cycles.{when_err, when_ok, turn, turn-end, turn-sent, turn-stands, turn-part, turn-going, turn-goes, spent-end, spent-sent}
use Rattle.pc_vm.proofs.machine.Machine.run.Goals as goal

pub returns-then-is_err-clause-part : goal.returns-then-is_err-clause-part
returns-then-is_err-clause-part g c =
    turn-part (turn c.args.self.now.code c.loop.self.code c.cycle-event.result c.cycle-event.new.self c.loop-test.true
    c.loop.invariant.way c.loop.invariant.code c.cycle-event.ensures.step) _
    (when_err c.print.result c.print.ensures.part c.is_err.ensures.value c.if-is_err.true)

pub returns-in-Some-clause-outcome : goal.returns-in-Some-clause-outcome
returns-in-Some-clause-outcome g c =
    turn-end (turn c.args.self.now.code c.loop.self.code c.cycle-event.result c.cycle-event.new.self c.loop-test.true
    c.loop.invariant.way c.loop.invariant.code c.cycle-event.ensures.step) c.in-Some.end c.in-Some.is

pub returns-in-Some-clause-sent : goal.returns-in-Some-clause-sent
returns-in-Some-clause-sent g c =
    turn-sent (turn c.args.self.now.code c.loop.self.code c.cycle-event.result c.cycle-event.new.self c.loop-test.true
    c.loop.invariant.way c.loop.invariant.code c.cycle-event.ensures.step) c.in-Some.end _ c.in-Some.is
    (when_ok c.print.result c.print.ensures.all c.is_err.ensures.value c.if-is_err.false)

pub returns-in-Some-clause-stands : goal.returns-in-Some-clause-stands
returns-in-Some-clause-stands g c =
    turn-stands (turn c.args.self.now.code c.loop.self.code c.cycle-event.result c.cycle-event.new.self c.loop-test.true
    c.loop.invariant.way c.loop.invariant.code c.cycle-event.ensures.step) c.in-Some.end c.in-Some.is

pub loop-preserved : goal.loop-preserved
loop-preserved g c =
    let t = turn c.args.self.now.code c.loop.self.code c.cycle-event.result c.cycle-event.new.self c.loop-test.true
    c.loop.invariant.way c.loop.invariant.code c.cycle-event.ensures.step in
    record {
      going = turn-going t c.in_default.is;
      code = c.cycle-event.ensures.code ∙ c.loop.invariant.code;
      counted = omega (arith, c.loop.invariant.counted, c.print.ensures.counted);
      way = turn-goes t _ c.in_default.is (when_ok c.print.result c.print.ensures.all c.is_err.ensures.value c.if-is_err.false);
    }

pub returns-clause-outcome : goal.returns-clause-outcome
returns-clause-outcome g c = let spent : c.loop.counter ≡ c.args.budget = omega arith in spent-end c.args.budget spent c.loop.invariant.way

pub returns-clause-sent : goal.returns-clause-sent
returns-clause-sent g c = let spent : c.loop.counter ≡ c.args.budget = omega arith in spent-sent c.args.budget spent c.loop.invariant.way
