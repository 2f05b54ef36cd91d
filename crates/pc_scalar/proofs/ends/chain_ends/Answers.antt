use Rattle.std.proofs.Common.{length, refl, arith, ap}
use Rattle.std.proofs.lemmas.List.{length_push}
use Rattle.pc_pass.specs.models.Change.{Here}
use Rattle.pc_scalar.specs.models.Ends.{Jump}
use Rattle.pc_scalar.proofs.Chains.{way-trans, shortened_first, two_lead, two_fall, shortened_more, ends_more, next_falls}
use Rattle.pc_scalar.proofs.ends.chain_ends.Goals as goal

pub loop-from-init : goal.loop-from-init
loop-from-init c = record { shortened = shortened_first c.args.table.now; as_many = ap length c.in_ok-ends.ensures.items; each = λ at low. absurd (omega arith) }

pub loop-table-init : goal.loop-table-init
loop-table-init c =
    record { shortened = c.loop-from.invariant.shortened; there = omega (arith, c.requires.as_many, c.count-from-end.ensures.number); leads = Here }

pub bounds-table-next : goal.bounds-table-next
bounds-table-next c =
    let next = next_falls c.args.flow.now c.args.table.now c.requires c.loop-table.table c.loop-table.invariant.shortened c.loop-table.at c.loop-table.invariant.there c.loop-table-test.true in
    omega (arith, next.0, c.loop-table.invariant.shortened.as_many)

pub loop-table-smaller : goal.loop-table-smaller
loop-table-smaller c =
    (two_fall c.args.flow.now c.args.table.now c.requires c.loop-table.table c.loop-table.invariant.shortened c.loop-table.at _ c.loop-table.invariant.there c.loop-table-test.true refl).1

pub loop-table-preserved : goal.loop-table-preserved
loop-table-preserved c = record {
  shortened = shortened_more c.args.flow.now c.args.table.now c.requires c.loop-table.table c.loop-table.invariant.shortened c.loop-table.at _ c.loop-table.invariant.there c.loop-table-test.true refl;
  there = (two_fall c.args.flow.now c.args.table.now c.requires c.loop-table.table c.loop-table.invariant.shortened c.loop-table.at _ c.loop-table.invariant.there c.loop-table-test.true refl).0;
  leads = way-trans (Jump c.args.table.now) c.loop-from.from c.loop-table.at _ c.loop-table.invariant.leads
      (two_lead c.args.flow.now c.args.table.now c.requires c.loop-table.table c.loop-table.invariant.shortened c.loop-table.at _ c.loop-table.invariant.there c.loop-table-test.true refl);
}

pub loop-from-preserved : goal.loop-from-preserved
loop-from-preserved c = record {
  shortened = c.loop-table.invariant.shortened;
  as_many = omega (arith, ap length c.in_ok-push.ensures.items, length_push c.loop-from.ends.items c.loop-table.at, c.loop-from.invariant.as_many);
  each = ends_more c.args.table.now c.loop-from.ends.items c.push.new.self.items c.loop-from.from c.loop-table.at c.in_ok-push.ensures.items c.loop-from.invariant.as_many
      (record { leads = c.loop-table.invariant.leads; stays = c.loop-table.invariant.shortened.ends c.loop-table.at c.loop-table.invariant.there c.loop-table-test.false })
      c.loop-from.invariant.each;
}
