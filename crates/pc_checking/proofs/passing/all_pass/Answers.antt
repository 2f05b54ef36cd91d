use Rattle.std.proofs.Common.{arith}
use Rattle.pc_checking.specs.models.Stored.{arrivals_in, setting_in}
use Rattle.pc_checking.proofs.Passes.{entry_at, no_entry, entry_passed, entry_refused, entries_passed}
use Rattle.pc_checking.proofs.passing.all_pass.Goals as goal

pub returns-in-Err : goal.returns-in-Err
returns-in-Err c =
    let s = c.args.setting.now in
    let now = c.loop-entry in
    entry_refused (setting_in s) (arrivals_in c.args.arrivals.now) now.number (arrivals_in now.arrivals) now.invariant.on c.entry-item.result
    (entry_at s.entries.now now.number now.entry-index c.entry-item.result now.invariant.number c.loop-entry-test.true c.entry-item.is) (arrivals_in c.pass.new.arrivals) c.in_ok-flaw.field-0
    c.in_ok-flaw.ensures.passes c.in-Err.flaw c.in-Err.is

pub loop-entry-preserved : goal.loop-entry-preserved
loop-entry-preserved c =
    let s = c.args.setting.now in
    let now = c.loop-entry in
    let same = now.invariant.number in
    record {
      number = omega (arith, same);
      on = entry_passed (setting_in s) (arrivals_in c.args.arrivals.now) now.number (arrivals_in now.arrivals) now.invariant.on
          c.entry-item.result
          (entry_at s.entries.now now.number now.entry-index c.entry-item.result now.invariant.number c.loop-entry-test.true c.entry-item.is) (arrivals_in c.pass.new.arrivals) c.in_ok-flaw.field-0
          c.in_ok-flaw.ensures.passes c.in_default.field-0 c.in_default.is;
      kept = c.in_ok-flaw.ensures.kept;
    }

pub returns : goal.returns
returns c =
    let s = c.args.setting.now in
    let now = c.loop-entry in
    entries_passed (setting_in s) (arrivals_in c.args.arrivals.now) now.number (arrivals_in now.arrivals) now.invariant.on
    (no_entry s.entries.now now.number now.entry-index now.invariant.number c.loop-entry-test.false)
