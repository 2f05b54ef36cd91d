use Rattle.std.proofs.Common.{ap}
use Rattle.pc_machine.specs.MachineCode.{row_of}
use Rattle.pc_recolor.proofs.Named.{names_below, names_on_sides}
use Rattle.pc_recolor.proofs.naming.+named_after.Goals as goal

pub returns-in-Step : goal.returns-in-Step
returns-in-Step t c =
    let below = c.named_after.ensures in
    let now = rw c.deref.ensures at below in
    names_below c.args.tree.now c.args.known c.in-Step.next.value c.in-Step.item c.named_after.result (ap row_of c.in-Step.is) now

pub returns-in-Test : goal.returns-in-Test
returns-in-Test t c =
    let first = c.named_after-between.ensures in
    let first_now = rw c.deref-in-Test.ensures at first in
    let second = c.named_after-in-Test.ensures in
    let second_now = rw c.deref-in-Test-2.ensures at second in
    names_on_sides c.args.tree.now c.args.known c.in-Test.yes.value c.in-Test.no.value c.in-Test.on c.named_after-between.result c.named_after-in-Test.result
    (ap row_of c.in-Test.is) first_now second_now
