use Rattle.std.proofs.Common.{◌≡◌, false, ap}
use Rattle.pc_word.specs.Items.{dest_of}
use Rattle.pc_word.specs.Commit.{writes}
use Rattle.pc_machine.specs.MachineCode.{row_of}
use Rattle.pc_settled.proofs.Webs.{below_yes, found_item, found_no, found_leaf}
use Rattle.pc_settled.proofs.nodes.+node_below.Goals as goal

pub returns-else-writes : goal.returns-else-writes
returns-else-writes t c =
    let past : writes (dest_of c.in-Step.item) c.args.register ≡ false = (cc) in
    let below = c.node_below.ensures in
    let now = rw c.deref.ensures at below in
    found_item c.args.live.now c.args.register c.args.tree.now c.in-Step.next.value c.in-Step.item c.node_below.result (ap row_of c.in-Step.is) past now

pub returns-in-Some : goal.returns-in-Some
returns-in-Some t c =
    let below = c.in-Some.ensures in
    let now = rw c.deref-in-Test.ensures at below in
    below_yes c.args.live.now c.args.register c.in-Some.node c.args.tree.now c.in-Test.yes.value c.in-Test.no.value c.in-Test.on (ap row_of c.in-Test.is) now

pub returns-in-None : goal.returns-in-None
returns-in-None t c =
    let below = c.node_below-in-None.ensures in
    let now = rw c.deref-in-None.ensures at below in
    found_no c.args.live.now c.args.register c.args.tree.now c.in-Test.yes.value c.in-Test.no.value c.in-Test.on c.node_below-in-None.result (ap row_of c.in-Test.is) now

pub returns-in-Leaf : goal.returns-in-Leaf
returns-in-Leaf t c =
    found_leaf c.args.live.now c.args.register c.args.tree.now c.in-Leaf.leaf c.node_at.result (ap row_of c.in-Leaf.is) c.node_at.ensures
