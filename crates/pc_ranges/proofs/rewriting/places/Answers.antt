use Rattle.std.proofs.Common.{length, ap, arith}
use Rattle.std.proofs.lemmas.List.{length_push}
use Rattle.std.proofs.lemmas.Option.{slice_get_within}
use Rattle.pc_ranges.specs.models.Rewriting.{taken}
use Rattle.pc_scalar.proofs.Tables.{numbered_more}
use Rattle.pc_ranges.proofs.rewriting.places.Goals as goal

pub loop-at-preserved : goal.loop-at-preserved
loop-at-preserved c = record {
  as_many = omega (arith, ap length c.in_ok-push.ensures.items, length_push c.loop-at.table.items c.taken.result, c.loop-at.invariant.as_many);
  each = numbered_more (taken c.args.map.now) c.args.flow.now.nodes c.loop-at.table.items c.push.new.self.items c.loop-at.at c.node.result c.taken.result c.node.ensures c.taken.ensures
      c.loop-at.invariant.as_many c.in_ok-push.ensures.items c.loop-at.invariant.each;
}

pub returns : goal.returns
returns c = record {
  is_flow = c.count-count.ensures.kept;
  as_many = omega (arith, c.loop-at.invariant.as_many, c.count-count.ensures.number);
  each = λ at node e. c.loop-at.invariant.each at node (omega (arith, slice_get_within c.args.flow.now.nodes at node e, c.count-count.ensures.number)) e;
}
