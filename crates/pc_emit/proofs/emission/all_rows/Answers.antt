use Rattle.std.proofs.Common.{◌≡◌, ◌<◌, length, ap, subst, arith}
use Rattle.std.specs.Prelude.{slice_index}
use Rattle.std.proofs.lemmas.List.{length-map}
use Rattle.std.proofs.lemmas.Result.{IfOk-weaker}
use Rattle.pc_table.specs.Table.{table_region}
use Rattle.pc_machine.specs.MachineCode.{rows_of}
use Rattle.pc_emit.specs.models.Layout.{table_in}
use Rattle.pc_emit.proofs.Emits.{RegionsSoFar, one_more_region, are_emitted, regions_few}
use Rattle.pc_emit.proofs.emission.all_rows.Goals as goal

pub overflow_cast-region : goal.overflow_cast-region
overflow_cast-region c =
    let few = regions_few c.args.plan.now c.requires.plan in
    let count = c.requires.plan.count in
    let below = c.loop-region-test.true in
    omega (arith, few, count, below)

pub loop-region-preserved : goal.loop-region-preserved
loop-region-preserved c =
    let plan = c.args.plan.now in
    let count = c.requires.plan.count in
    let below = c.loop-region-test.true in
    let many = length-map plan.table.now.regions table_region in
    let within : c.loop-region.region < length (table_in plan).regions = omega (arith, below, count, many) in
    let made = c.in_ok-region_rows.ensures in
    one_more_region plan c.requires.plan _ c.loop-region.output c.region_rows.new.output c.loop-region.region within c.loop-region.invariant made.grows made.count made.made made.ways made.short

pub returns : goal.returns
returns c =
    let plan = c.args.plan.now in
    let count = c.requires.plan.count in
    let all : c.loop-region.region ≡ length plan.table.now.regions = (let last = c.loop-region-test.false in let end = c.loop-region.auto.region-end in omega (arith, last, end, count)) in
    let so_far = subst (RegionsSoFar plan _ c.loop-region.output) all c.loop-region.invariant in
    IfOk-weaker c.all.result _ _
    (λ rows are. are_emitted plan c.requires.plan _ c.loop-region.output (rows_of rows) so_far (ap (slice_index plan.entries.now) count) (ap length c.new.ensures.items) c.requires.front are)
    c.all.ensures
