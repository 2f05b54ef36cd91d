use Rattle.std.proofs.Common.{length, ap, arith, ◌∙◌}
use Rattle.std.proofs.lemmas.List.{length_push}
use Rattle.std.proofs.lemmas.Option.{slice_get_within}
use Rattle.pc_scalar.specs.models.Ends.{led}
use Rattle.pc_ranges.specs.models.Rewriting.{settled_node}
use Rattle.pc_ranges.proofs.Rewritten.{settled_there, made_more}
use Rattle.pc_ranges.proofs.rewriting.settled_nodes.Goals as goal

pub led-requires : goal.led-requires
led-requires c =
    rw c.settled_node.ensures (settled_there c.args.flow.now c.args.map.now c.loop-at.at (length c.args.ends.now) c.node.result c.requires
    (c.count-at-end.ensures.kept.nodes_fit c.loop-at.at c.node.result c.node.ensures))

pub loop-at-preserved : goal.loop-at-preserved
loop-at-preserved c = record {
  as_many = omega (arith, ap length c.in_ok-push.ensures.ok, length_push c.loop-at.nodes c.led.result, c.loop-at.invariant.as_many);
  each = made_more (λ at node. led c.args.ends.now (settled_node c.args.map.now at node)) c.args.flow.now.nodes c.loop-at.nodes c.push.new.self c.loop-at.at c.node.result c.led.result
      c.node.ensures (c.led.ensures ∙ ap (led c.args.ends.now) c.settled_node.ensures) c.loop-at.invariant.as_many c.in_ok-push.ensures.ok c.loop-at.invariant.each;
}

pub returns : goal.returns
returns c = record {
  as_many = omega (arith, c.loop-at.invariant.as_many, c.count-at-end.ensures.number);
  each = λ at node e. c.loop-at.invariant.each at node (omega (arith, slice_get_within c.args.flow.now.nodes at node e, c.count-at-end.ensures.number)) e;
}
