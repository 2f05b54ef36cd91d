use Rattle.std.proofs.Common.{◌∙◌, arith}
use Rattle.std.proofs.lemmas.Option.{slice_get-get_or}
use Rattle.pc_scalar.specs.models.Plan.{Fit}
use Rattle.pc_scalar.proofs.Plans.{mixed_fits, mixed_turn, mixed_more}
use Rattle.pc_scalar.proofs.plan.install.Goals as goal

pub set_node-requires-clause-fits : goal.set_node-requires-clause-fits
set_node-requires-clause-fits c =
    let fit : Fit c.args.flow.now c.as_slice-nodes.result.now = rw c.as_slice-nodes.ensures c.requires.nodes in
    rw c.loop-at.invariant (mixed_fits c.args.flow.now c.as_slice-nodes.result.now fit c.loop-at.at (omega (arith, c.count-at-end.ensures.number)) _
    (slice_get-get_or c.as_slice-nodes.result.now c.loop-at.at _ (omega (arith, c.count-at-end.ensures.number, fit.as_many))))

pub set_node-requires-clause-turn : goal.set_node-requires-clause-turn
set_node-requires-clause-turn c =
    let fit : Fit c.args.flow.now c.as_slice-nodes.result.now = rw c.as_slice-nodes.ensures c.requires.nodes in
    rw c.loop-at.invariant (mixed_turn c.args.flow.now c.as_slice-nodes.result.now fit c.loop-at.at (omega (arith, c.count-at-end.ensures.number)) _
    (slice_get-get_or c.as_slice-nodes.result.now c.loop-at.at _ (omega (arith, c.count-at-end.ensures.number, fit.as_many))))

pub loop-at-preserved : goal.loop-at-preserved
loop-at-preserved c =
    let fit : Fit c.args.flow.now c.as_slice-nodes.result.now = rw c.as_slice-nodes.ensures c.requires.nodes in
    let e = rw c.loop-at.invariant at c.set_node.ensures in
    e ∙ mixed_more c.args.flow.now c.as_slice-nodes.result.now fit c.loop-at.at (omega (arith, c.count-at-end.ensures.number)) _
    (slice_get-get_or c.as_slice-nodes.result.now c.loop-at.at _ (omega (arith, c.count-at-end.ensures.number, fit.as_many)))
