use Rattle.std.proofs.Common.{refl}
use Rattle.pc_forward.specs.models.Ways.{AreWays}
use Rattle.pc_forward.proofs.Walks.{begun, forwarding_is}
use Rattle.pc_forward.proofs.walking.plan_of.Goals as goal

pub all-requires-clause-walked : goal.all-requires-clause-walked
all-requires-clause-walked c = begun c.args.flow.now _ _ _ c.in_ok-left.ensures c.in_ok-nodes.ensures refl

pub changes-changed-requires : goal.changes-changed-requires
changes-changed-requires c = c.in_ok-all.ensures.walked.as_many

pub returns : goal.returns
returns c =
    let are : AreWays c.args.flow.now c.as_slice-2.result.now = rw c.as_slice-2.ensures.value c.in_ok-table.ensures in
    forwarding_is c.args.flow.now c.as_slice-2.result.now c.all.new.self.left _ are c.in_ok-all.ensures.walked c.in_ok-all.ensures.heads c.entry.ensures c.changes-changed.ensures
