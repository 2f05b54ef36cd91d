use Rattle.std.proofs.Common.{length, ap, ◌∙◌}
use Rattle.pc_scalar.specs.models.Ends.{led}
use Rattle.pc_scalar.specs.models.Folding.{folded}
use Rattle.pc_scalar.proofs.Tables.{mapped_more}
use Rattle.pc_scalar.proofs.Folds.{folded_there}
use Rattle.pc_scalar.proofs.folding.folded_nodes.Goals as goal

pub led-requires : goal.led-requires
led-requires c =
    rw c.folded.ensures (folded_there c.args.flow.now c.loop-at.at (length c.args.ends.now) c.node.result c.requires
    (c.count-at-end.ensures.kept.nodes_fit c.loop-at.at c.node.result c.node.ensures))

pub loop-at-preserved : goal.loop-at-preserved
loop-at-preserved c =
    mapped_more (λ node. led c.args.ends.now (folded node)) c.args.flow.now.nodes c.loop-at.nodes c.push.new.self c.loop-at.at c.node.result c.led.result c.node.ensures
    (c.led.ensures ∙ ap (led c.args.ends.now) c.folded.ensures) c.loop-at.invariant c.in_ok-push.ensures.ok
