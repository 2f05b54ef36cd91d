use Rattle.std.proofs.Common.{ap}
use Rattle.pc_machine.specs.MachineCode.{row_of}
use Rattle.pc_settled.proofs.Holding.{both_past}
use Rattle.pc_settled.proofs.settling.+hold_at_end.Goals as goal

pub returns-in-Step : goal.returns-in-Step
returns-in-Step t c = λ e.
    let first = c.is_held-one.ensures in
    let first_now = rw c.deref.ensures at first in
    let second = c.is_held-other.ensures in
    let second_now = rw c.deref-in-Step.ensures at second in
    let both = c.hold_at_end.ensures e in
    let both_now = rw c.deref-in-Step-2.ensures at both in
    both_past c.args.found.now c.args.tree.now c.in-Step.next.value c.in-Step.item c.args.pair c.args.above c.is_held-one.result c.is_held-other.result
    (ap row_of c.in-Step.is) first_now second_now both_now
