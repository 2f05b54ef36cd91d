use Rattle.std.proofs.Common.{ap}
use Rattle.pc_machine.specs.MachineCode.{row_of}
use Rattle.pc_settled.proofs.Needs.{finds_above, finds_either, finds_at_leaf}
use Rattle.pc_settled.proofs.liveness.+needs_of.Goals as goal

pub returns-in-Step : goal.returns-in-Step
returns-in-Step t c =
    let below = c.needs_of-below.ensures in
    let now = rw c.deref.ensures at below in
    finds_above c.args.live.now c.args.tree.now c.in-Step.next.value c.in-Step.item c.needs_of-below.result c.read_above-read.result c.passed_above-passed.result
    (ap row_of c.in-Step.is) now c.read_above-read.ensures c.passed_above-passed.ensures

pub returns-in-Test : goal.returns-in-Test
returns-in-Test t c =
    let first = c.needs_of-one.ensures in
    let first_now = rw c.deref-in-Test.ensures at first in
    let second = c.needs_of-other.ensures in
    let second_now = rw c.deref-in-Test-2.ensures at second in
    finds_either c.args.live.now c.args.tree.now c.in-Test.yes.value c.in-Test.no.value c.in-Test.on c.needs_of-one.result c.needs_of-other.result
    c.with_all-sides.result c.with_operand-read.result c.with_all-passed.result
    (ap row_of c.in-Test.is) first_now second_now c.with_all-sides.ensures c.with_operand-read.ensures c.with_all-passed.ensures

pub returns-in-Leaf : goal.returns-in-Leaf
returns-in-Leaf t c =
    finds_at_leaf c.args.live.now c.args.tree.now c.in-Leaf.leaf c.none-read.result c.needed_at-passed.result (ap row_of c.in-Leaf.is)
    c.none-read.ensures.empty c.needed_at-passed.ensures
