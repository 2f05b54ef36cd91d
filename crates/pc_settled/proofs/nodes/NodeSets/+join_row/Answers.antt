use Rattle.std.proofs.Common.{◌≡◌, Some, ap}
use Rattle.pc_word.specs.Items.{dest_of}
use Rattle.pc_machine.specs.MachineCode.{row_of}
use Rattle.pc_settled.proofs.Webs.{row_joins_item}
use Rattle.pc_settled.proofs.nodes.NodeSets.+join_row.Goals as goal

pub returns-in-Some : goal.returns-in-Some
returns-in-Some t c =
    let writes_dest : dest_of c.in-Step.item ≡ Some c.in-Some.dest = (cc) in
    let first = c.join_given.ensures in
    let first_now = rw c.deref.ensures at first in
    let second = c.join_row.ensures in
    let second_now = rw c.deref-in-Some.ensures at second in
    row_joins_item c.args.live.now c.args.row c.args.tree.now c.in-Step.next.value c.in-Step.item c.in-Some.dest c.args.written c.with.result
    c.args.self.now.up.items c.join_given.new.self.up.items c.join_row.new.self.up.items
    (ap row_of c.in-Step.is) writes_dest c.with.ensures first_now second_now
