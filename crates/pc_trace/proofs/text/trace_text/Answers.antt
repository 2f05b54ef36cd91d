use Rattle.std.proofs.Common.{◌≡◌, ◌∙◌, rules, string_bytes, sym}
use Rattle.pc_trace.specs.Trace.{cycle_of}
use Rattle.pc_trace.proofs.Texts.{still-going, turn-ends, turn-goes}
use Rattle.pc_trace.proofs.text.trace_text.Goals as goal

pub returns-then-is_some-clause-text : goal.returns-then-is_some-clause-text
returns-then-is_some-clause-text c =
    let bytes : c.into_bytes.result.items ≡ string_bytes c.push_cycle.new.text = search rules in
    bytes
    ∙ turn-ends c.args.machine.now.code c.loop-number.machine.code c.loop-number.invariant.code c.args.cycles c.loop-number.number _ _
    (string_bytes c.loop-number.text) (string_bytes c.push_cycle.new.text) (cycle_of c.in_ok-cycle.cycle) c.trace_cycle.new.machine
    c.loop-number-test.true c.loop-number.invariant.told c.in_ok-cycle.ensures.cycle c.in_ok-cycle.ensures.step c.in_ok-push_cycle.ensures
    (sym c.is_some.ensures ∙ c.if-is_some.true)

pub loop-number-preserved : goal.loop-number-preserved
loop-number-preserved c = record {
  going = still-going c.in_ok-cycle.cycle.end c.trace_cycle.new.machine _ c.in_ok-cycle.ensures.step (sym c.is_some.ensures ∙ c.if-is_some.false);
  code = c.trace_cycle.ensures.code ∙ c.loop-number.invariant.code;
  told = turn-goes c.args.machine.now.code c.loop-number.machine.code c.loop-number.invariant.code c.args.cycles c.loop-number.number _ _
      (string_bytes c.loop-number.text) (string_bytes c.push_cycle.new.text) (cycle_of c.in_ok-cycle.cycle) c.trace_cycle.new.machine
      c.loop-number-test.true c.loop-number.invariant.told c.in_ok-cycle.ensures.cycle c.in_ok-cycle.ensures.step c.in_ok-push_cycle.ensures
      (sym c.is_some.ensures ∙ c.if-is_some.false);
}
