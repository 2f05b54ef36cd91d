use Rattle.std.proofs.Common.{◌≡◌, ◌+◌, suc, length, sym, ◌∙◌, ap, subst, arith}
use Rattle.pc_regions.specs.models.Numbered.{nothing_met}
use Rattle.pc_regions.specs.models.Reaching.{IsReaching}
use Rattle.pc_regions.proofs.Reaching.{reaching_begins, reaching_goes_on, reached_all, node_within, done_within}
use Rattle.pc_regions.proofs.reachable.reachable_nodes.Goals as goal

pub loop-node-init : goal.loop-node-init
loop-node-init c =
    let is : c.in_ok-met.met ≡ nothing_met (length c.args.flow.now.nodes) = c.in_ok-met.ensures ∙ ap nothing_met c.count.ensures.number in
    let meets = rw c.entry.ensures at c.in_ok-number.ensures.met in
    (reaching_begins c.args.flow.now c.in_ok-met.met c.number.new.self c.in_ok-number.field-0 is meets, c.count.ensures.kept)

pub meet_edges-requires-clause-there : goal.meet_edges-requires-clause-there
meet_edges-requires-clause-there c =
    node_within c.args.flow.now c.loop-node.met c.loop-node.done c.loop-node.done c.in-Some.node c.loop-node.invariant.0 c.in-Some.ensures.kept (sym c.in-Some.ensures.node)

pub loop-node-smaller : goal.loop-node-smaller
loop-node-smaller c =
    let within = done_within c.args.flow.now c.loop-node.met c.loop-node.done c.in-Some.node c.loop-node.invariant.0 c.in-Some.ensures.kept (sym c.in-Some.ensures.node) in
    omega (arith, within)

pub loop-node-preserved : goal.loop-node-preserved
loop-node-preserved c =
    let next : suc c.loop-node.done ≡ c.loop-node.done + 1 = omega arith in (
      subst (IsReaching c.args.flow.now c.meet_edges.new.met) next
          (reaching_goes_on c.args.flow.now c.loop-node.met c.meet_edges.new.met c.loop-node.done c.in-Some.node c.loop-node.invariant.0 (sym c.in-Some.ensures.node) c.in_ok-meet_edges.ensures),
      c.count.ensures.kept,
    )

pub returns-clause-nodes : goal.returns-clause-nodes
returns-clause-nodes c = rw c.into_order.ensures (reached_all c.args.flow.now c.loop-node.met c.loop-node.done c.loop-node.invariant.0 c.node.ensures.kept (sym c.in_default.ensures.node))
